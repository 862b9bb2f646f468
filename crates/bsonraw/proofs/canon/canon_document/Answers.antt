use Rattle.raw_bson.specs.Document.{bytes_of}
use Rattle.bsonraw.proofs.canon.canon_document.Goals as goal

pub returns-in-Err : goal.returns-in-Err
returns-in-Err c = c.without_form.ensures (bytes_of c.args.document) c.in-Err.ensures.refused
