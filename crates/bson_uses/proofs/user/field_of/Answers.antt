use Rattle.std.proofs.Common.{ap}
use Rattle.raw_bson.specs.Scalars.{bytes_of_object_id}
use Rattle.raw_bson.specs.Value.{value_of}
use Rattle.bson_uses.proofs.user.field_of.Goals as goal

pub returns-in-text-ObjectId : goal.returns-in-text-ObjectId
returns-in-text-ObjectId c = (c.in-text-ObjectId.is-text-0, bytes_of_object_id c.in-text-ObjectId.field-0-1, ap value_of c.in-text-ObjectId.is-1)
