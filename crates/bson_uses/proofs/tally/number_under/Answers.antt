use Rattle.std.proofs.Common.{ap, ◌∙◌, Ok, ℤ, w64}
use Rattle.std.proofs.Math.Facts.{to_z-of_z}
use Rattle.raw_bson.proofs.Face.{AsksUnder-found, AsksUnder-fault}
use Rattle.bson_uses.proofs.tally.number_under.Goals as goal

pub returns-in_err-found-clause-told : goal.returns-in_err-found-clause-told
returns-in_err-found-clause-told c = AsksUnder-fault c.in_err-found.field-0.0 c.in_err-found.ensures.found c.from_residual.ensures.1

pub returns-clause-told : goal.returns-clause-told
returns-clause-told c = AsksUnder-found c.in_ok-found.found c.in_ok-found.ensures.found (ap (λ (z : ℤ). Ok z) (to_z-of_z {w = w64} c.number_of.ensures.fits ∙ c.number_of.ensures.value))
