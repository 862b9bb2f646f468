use Rattle.raw_bson.proofs.SameValues.{same_value}
use Rattle.raw_bson.proofs.laws.is_same_value.Goals as goal

pub returns : goal.returns
returns c = rw c.eq.ensures (same_value c.args.left.now c.args.right.now)
