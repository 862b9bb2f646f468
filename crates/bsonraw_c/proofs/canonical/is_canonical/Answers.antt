use Rattle.std.proofs.Common.{Ok, Option, subst}
use Rattle.raw_bson.specs.Document.{bytes_of}
use Rattle.raw_form.specs.Violations.{TellsViolation}
use Rattle.raw_tree.specs.declared.validator.within.PlacedBreach.{PlacedBreach}
use Rattle.bsonraw_c.proofs.Forming.{own_form}
use Rattle.bsonraw_c.proofs.canonical.is_canonical.Goals as goal

pub returns-in-Ok-None : goal.returns-in-Ok-None
returns-in-Ok-None c _ =
    let violation = subst (λ (o : Option PlacedBreach). TellsViolation c.args.limits (bytes_of c.args.document) (Ok o)) c.in-Ok-None.field-0-is c.in-Ok-None.ensures.violation in
    own_form c.args.limits (bytes_of c.args.document) c.args.document.envelope violation
