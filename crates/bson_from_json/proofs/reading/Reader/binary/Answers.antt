use Rattle.std.proofs.Common.{ap, refl, rules}
use Rattle.std.proofs.lemmas.Result.{err_from_is_err_and}
use Rattle.values_from_json.specs.declared.source.Source.{Source}
use Rattle.bson_model.proofs.Face.{IsProperSubtype-subtype_of}
use Rattle.bson_from_json.proofs.Keeps.{on_err, refused_as}
use Rattle.bson_from_json.proofs.Moments.{on_ok, puts_as}
use Rattle.bson_from_json.proofs.TypeKeys.{binary_keeps, binary_refused, binary_stops, rest_put}
use Rattle.bson_from_json.proofs.reading.Reader.binary.Goals as goal

pub returns-clause-rest : goal.returns-clause-rest
returns-clause-rest c = on_ok c.put_binary.result
    (λ puts. rest_put _ _ refl c.in_ok-bytes.ensures.some c.put_binary.ensures.source refl tt (IsProperSubtype-subtype_of c.in_ok-bytes.subtype) (puts_as puts (search rules)))
    c.put_binary.ensures.puts

pub returns-clause-keeps : goal.returns-clause-keeps
returns-clause-keeps c = on_ok c.put_binary.result
    (λ puts. binary_keeps c.in_ok-bytes.ensures.some _ (ap (λ (x : Source). x.tokens) c.put_binary.ensures.source) refl (puts_as puts (search rules))) c.put_binary.ensures.puts

pub returns-in_err-bytes-clause-stops : goal.returns-in_err-bytes-clause-stops
returns-in_err-bytes-clause-stops c =
    let e = err_from_is_err_and c.from_residual.result c.from_residual.ensures.1 in
    rw (e.1, e.2) (binary_stops _ c.in_err-bytes.ensures.none)

pub returns-clause-stops : goal.returns-clause-stops
returns-clause-stops c = on_err c.put_binary.result (λ r over. binary_refused c.in_ok-bytes.ensures.some r (refused_as over (search rules))) c.put_binary.ensures.refused
