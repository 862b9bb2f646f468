use Rattle.bson_model.proofs.Equality.{same_document_tree}
use Rattle.bson_model.proofs.laws.is_same_document.Goals as goal

pub returns : goal.returns
returns c = rw c.eq.ensures (same_document_tree c.args.left.now c.args.right.now)
