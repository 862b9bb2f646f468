use Rattle.bson_model.proofs.Face.{AreBytes-from_elements}
use Rattle.raw_tree.proofs.writer.Payload.end.Goals as goal

pub returns-clause-bytes : goal.returns-clause-bytes
returns-clause-bytes c = AreBytes-from_elements _ c.type_inv.out
