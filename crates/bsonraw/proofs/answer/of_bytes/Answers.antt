use Rattle.bsonraw.proofs.Forms.{canon_bytes}
use Rattle.raw_bson.specs.Document.{bytes_of}
use Rattle.bsonraw.proofs.answer.of_bytes.Goals as goal

pub returns-in-Canon : goal.returns-in-Canon
returns-in-Canon c = canon_bytes c.args.command (bytes_of c.in-Ok.document) c.args.bytes.now c.canon_document.result c.in-Canon.is c.in-Ok.document.envelope
    c.in-Ok.ensures.same c.canon_document.ensures
