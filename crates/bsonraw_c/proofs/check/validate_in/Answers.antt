use Rattle.std.proofs.Common.{Err, Ok, Option, arith, subst}
use Rattle.raw_bson.specs.Document.{bytes_of}
use Rattle.raw_form.proofs.Face.{violation_bound}
use Rattle.raw_form.specs.Barriers.{steps_of}
use Rattle.raw_form.specs.Violations.{TellsViolation, breach_of, too_deep}
use Rattle.raw_tree.specs.declared.validator.within.PlacedBreach.{PlacedBreach}
use Rattle.raw_tree.specs.declared.validator.within.ValidateError.{ValidateError}
use Rattle.bsonraw_c.proofs.check.validate_in.Goals as goal

pub at-requires : goal.at-requires
at-requires c =
    let breach = c.in-Ok-Some.breach in
    let told = subst (λ (found : Option PlacedBreach). TellsViolation c.args.limits (bytes_of c.args.document) (Ok found)) c.in-Ok-Some.field-0-is c.in-Ok-Some.ensures.violation in
    omega (arith, violation_bound c.args.limits (bytes_of c.args.document) (breach_of breach.cause) (steps_of breach.place) breach.place.offset told, c.ranges.document)

pub at-requires-in-Err-TooDeep : goal.at-requires-in-Err-TooDeep
at-requires-in-Err-TooDeep c =
    let place = c.in-Err-TooDeep.place in
    let told = subst (λ (error : ValidateError). TellsViolation c.args.limits (bytes_of c.args.document) (Err error)) c.in-Err-TooDeep.field-0-is c.in-Err-TooDeep.ensures.violation in
    omega (arith, violation_bound c.args.limits (bytes_of c.args.document) too_deep (steps_of place) place.offset told, c.ranges.document)
