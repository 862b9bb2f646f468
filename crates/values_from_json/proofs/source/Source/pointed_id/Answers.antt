use Rattle.values_from_json.proofs.Lacks.{no_err, no_pointed}
use Rattle.values_from_json.proofs.Takes.{one}
use Rattle.values_from_json.proofs.source.Source.pointed_id.Goals as goal

pub returns-clause-some : goal.returns-clause-some
returns-clause-some c = (_, one c.in_ok-begin.ensures.some c.in_ok-named.ensures.some c.in_ok-id.ensures.some.1 c.in_ok-end.ensures.some, c.in_ok-id.ensures.some.2)

pub returns-in_err-id-clause-none : goal.returns-in_err-id-clause-none
returns-in_err-id-clause-none c = no_err c.from_residual-in_err-id.result (no_pointed c.in_ok-begin.ensures.some c.in_ok-named.ensures.some c.in_err-id.ensures.none)
