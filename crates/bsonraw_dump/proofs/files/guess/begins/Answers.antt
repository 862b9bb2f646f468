use Rattle.bsonraw_dump.proofs.files.Guessing.{begins_is}
use Rattle.bsonraw_dump.proofs.files.guess.begins.Goals as goal

pub returns : goal.returns
returns c = begins_is c.starts_with.result c.args.front.now c.args.bytes.now c.starts_with.ensures.value
