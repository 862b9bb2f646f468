use Rattle.bson_model.proofs.Equality.{same_tree}
use Rattle.bson_model.proofs.laws.is_same_tree.Goals as goal

pub returns : goal.returns
returns c = rw c.eq.ensures (same_tree c.args.a.now c.args.b.now)
