use Rattle.std.proofs.Common.{inr, refl, rules}
use Rattle.bson_model.specs.Leaf.{double}
use Rattle.bson_from_json.proofs.Moments.{on_ok, int32_put, int64_put}
use Rattle.values_from_json.proofs.Face.{no_double}
use Rattle.bson_from_json.proofs.Keeps.{int32_refused, int64_refused, on_err, plain_lacks, plain_refused}
use Rattle.bson_from_json.proofs.reading.Reader.number.Goals as goal

pub returns-in-Some-clause-puts : goal.returns-in-Some-clause-puts
returns-in-Some-clause-puts c = on_ok c.put.result (λ puts. (double c.in-Some.bits, inr (inr (search rules, (c.in-Some.bits, c.in-Some.ensures.some, refl))), puts)) c.put.ensures.puts

pub returns-in-None : goal.returns-in-None
returns-in-None c = record { source = refl; puts = tt; stops = plain_lacks _ (no_double c.args.text.now (search rules) (c.in-None.ensures.none refl)) }

pub returns-in-Ok-clause-puts : goal.returns-in-Ok-clause-puts
returns-in-Ok-clause-puts c = on_ok c.put-in-Ok.result (λ puts. int32_put puts (search rules) (search rules)) c.put-in-Ok.ensures.puts

pub returns-in-Err-clause-puts : goal.returns-in-Err-clause-puts
returns-in-Err-clause-puts c = on_ok c.put-in-Err.result (λ puts. int64_put puts (search rules) (search rules) (search rules)) c.put-in-Err.ensures.puts

pub returns-in-Some-clause-stops : goal.returns-in-Some-clause-stops
returns-in-Some-clause-stops c = on_err c.put.result
    (λ r over. plain_refused r (double c.in-Some.bits) (inr (inr (search rules, (c.in-Some.bits, c.in-Some.ensures.some, refl)))) over) c.put.ensures.refused

pub returns-in-Ok-clause-stops : goal.returns-in-Ok-clause-stops
returns-in-Ok-clause-stops c = on_err c.put-in-Ok.result (λ r over. int32_refused r over (search rules) (search rules)) c.put-in-Ok.ensures.refused

pub returns-in-Err-clause-stops : goal.returns-in-Err-clause-stops
returns-in-Err-clause-stops c = on_err c.put-in-Err.result (λ r over. int64_refused r over (search rules) (search rules) (search rules)) c.put-in-Err.ensures.refused
