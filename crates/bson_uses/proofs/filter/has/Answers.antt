use Rattle.raw_bson.proofs.Face.{AsksUnder-found, AsksUnder-fault}
use Rattle.bson_uses.proofs.filter.has.Goals as goal

pub returns-in_err-found : goal.returns-in_err-found
returns-in_err-found c = AsksUnder-fault c.in_err-found.field-0.0 c.in_err-found.ensures.found c.from_residual.ensures.1

pub returns : goal.returns
returns c = AsksUnder-found c.in_ok-found.found c.in_ok-found.ensures.found c.is_wanted.ensures
