use Rattle.std.proofs.Common.{refl, rules}
use Rattle.json.specs.Json as json
use Rattle.bson_from_json.proofs.Moments.{array_opened, leaf_put, on_ok, on_ok_two, plain_free, plain_proper, value_as}
use Rattle.bson_from_json.proofs.Keeps.{array_keeps, array_refused, boolean_keeps, boolean_refused, keeps_as, null_keeps, null_refused, number_keeps, number_stops, on_err, stops_as, string_keeps, string_refused}
use Rattle.bson_from_json.proofs.reading.Reader.plain.Goals as goal

pub returns-in-String-clause-rest : goal.returns-in-String-clause-rest
returns-in-String-clause-rest c = on_ok c.put.result
    (λ puts. value_as _ _ (search rules) (leaf_put _ _ c.args.key.now (json.string c.in-String.text.now) refl tt tt c.put.ensures.source puts)) c.put.ensures.puts

pub returns-in-Number-clause-rest : goal.returns-in-Number-clause-rest
returns-in-Number-clause-rest c = on_ok c.number.result
    (λ p. value_as _ _ (search rules)
    (leaf_put _ _ c.args.key.now (json.number c.in-Number.text.now) (p.0, p.1, refl) (plain_free p.1) (plain_proper p.1) c.number.ensures.source p.2)) c.number.ensures.puts

pub returns-in-BeginArray-clause-rest : goal.returns-in-BeginArray-clause-rest
returns-in-BeginArray-clause-rest c = on_ok_two c.open_under.result
    (λ level bytes. value_as _ _ (search rules) (array_opened _ _ c.args.key.now (record { levels = level; bytes = bytes; tokens = refl }))) c.open_under.ensures.level c.open_under.ensures.bytes

pub returns-in-Bool-clause-rest : goal.returns-in-Bool-clause-rest
returns-in-Bool-clause-rest c = on_ok c.put-in-Bool.result
    (λ puts. value_as _ _ (search rules) (leaf_put _ _ c.args.key.now (json.boolean c.in-Bool.value) refl tt tt c.put-in-Bool.ensures.source puts)) c.put-in-Bool.ensures.puts

pub returns-in-Null-clause-rest : goal.returns-in-Null-clause-rest
returns-in-Null-clause-rest c = on_ok c.put-in-Null.result
    (λ puts. value_as _ _ (search rules) (leaf_put _ _ c.args.key.now json.null refl tt tt c.put-in-Null.ensures.source puts)) c.put-in-Null.ensures.puts

pub returns-in-String-clause-keeps : goal.returns-in-String-clause-keeps
returns-in-String-clause-keeps c = on_ok c.put.result (λ puts. keeps_as _ _ (search rules) (string_keeps _ _ c.in-String.text.now puts c.put.ensures.source)) c.put.ensures.puts

pub returns-in-Bool-clause-keeps : goal.returns-in-Bool-clause-keeps
returns-in-Bool-clause-keeps c = on_ok c.put-in-Bool.result
    (λ puts. keeps_as _ _ (search rules) (boolean_keeps _ _ c.in-Bool.value puts c.put-in-Bool.ensures.source)) c.put-in-Bool.ensures.puts

pub returns-in-Null-clause-keeps : goal.returns-in-Null-clause-keeps
returns-in-Null-clause-keeps c = on_ok c.put-in-Null.result (λ puts. keeps_as _ _ (search rules) (null_keeps _ _ puts c.put-in-Null.ensures.source)) c.put-in-Null.ensures.puts

pub returns-in-Number-clause-keeps : goal.returns-in-Number-clause-keeps
returns-in-Number-clause-keeps c = on_ok c.number.result
    (λ p. keeps_as _ _ (search rules) (number_keeps _ _ c.in-Number.text.now p.1 p.2 c.number.ensures.source)) c.number.ensures.puts

pub returns-in-BeginArray-clause-keeps : goal.returns-in-BeginArray-clause-keeps
returns-in-BeginArray-clause-keeps c = on_ok_two c.open_under.result
    (λ level bytes. keeps_as _ _ (search rules) (array_keeps _ _ _ c.open_under.ensures.limits level bytes refl)) c.open_under.ensures.level c.open_under.ensures.bytes

pub returns-in-String-clause-stops : goal.returns-in-String-clause-stops
returns-in-String-clause-stops c = on_err c.put.result (λ r over. stops_as (search rules) (string_refused r c.in-String.text.now over)) c.put.ensures.refused

pub returns-in-Bool-clause-stops : goal.returns-in-Bool-clause-stops
returns-in-Bool-clause-stops c = on_err c.put-in-Bool.result (λ r over. stops_as (search rules) (boolean_refused r c.in-Bool.value over)) c.put-in-Bool.ensures.refused

pub returns-in-Null-clause-stops : goal.returns-in-Null-clause-stops
returns-in-Null-clause-stops c = on_err c.put-in-Null.result (λ r over. stops_as (search rules) (null_refused r over)) c.put-in-Null.ensures.refused

pub returns-in-Number-clause-stops : goal.returns-in-Number-clause-stops
returns-in-Number-clause-stops c = on_err c.number.result (λ r stops. stops_as (search rules) (number_stops r c.in-Number.text.now stops)) c.number.ensures.stops

pub returns-in-BeginArray-clause-stops : goal.returns-in-BeginArray-clause-stops
returns-in-BeginArray-clause-stops c = on_err c.open_under.result (λ r over. stops_as (search rules) (array_refused r over)) c.open_under.ensures.refused
