use Rattle.std.proofs.Common.{rules}
use Rattle.bson_from_json.proofs.Keeps.{keeps_as, on_err, stops_as}
use Rattle.bson_from_json.proofs.Moments.{on_ok, value_as}
use Rattle.bson_from_json.proofs.reading.Reader.value.Goals as goal

pub returns-in-BeginObject-clause-rest : goal.returns-in-BeginObject-clause-rest
returns-in-BeginObject-clause-rest c = on_ok c.object.result (λ value. value_as _ _ (search rules) value) c.object.ensures.rest

pub returns-in-BeginObject-clause-keeps : goal.returns-in-BeginObject-clause-keeps
returns-in-BeginObject-clause-keeps c = on_ok c.object.result (λ keeps. keeps_as _ _ (search rules) keeps) c.object.ensures.keeps

pub returns-in-BeginObject-clause-stops : goal.returns-in-BeginObject-clause-stops
returns-in-BeginObject-clause-stops c = on_err c.object.result (λ r stops. stops_as (search rules) stops) c.object.ensures.stops
