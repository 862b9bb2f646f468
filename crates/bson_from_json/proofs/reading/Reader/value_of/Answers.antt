use Rattle.std.proofs.Common.{[], ◌∷◌, refl}
use Rattle.json.specs.Reads.{token_of}
use Rattle.bson_from_json.proofs.Moments.{more_taken, on_ok}
use Rattle.bson_from_json.proofs.Keeps.{each_err, more_keeps, more_stops, no_value, on_err, value_lacks}
use Rattle.bson_from_json.proofs.reading.Reader.value_of.Goals as goal

pub returns-clause-rest : goal.returns-clause-rest
returns-clause-rest c = on_ok c.value.result (λ value. more_taken _ _ [] (token_of c.in_ok-token.token ∷ []) refl c.in_ok-token.ensures.some value) c.value.ensures.rest

pub returns-clause-keeps : goal.returns-clause-keeps
returns-clause-keeps c = on_ok c.value.result (λ value. more_keeps _ _ [] (token_of c.in_ok-token.token ∷ []) refl c.in_ok-token.ensures.some value) c.value.ensures.keeps

pub returns-in_err-token-clause-stops : goal.returns-in_err-token-clause-stops
returns-in_err-token-clause-stops c = each_err c.from_residual.result (λ r. value_lacks r (no_value c.in_err-token.ensures.none))

pub returns-clause-stops : goal.returns-clause-stops
returns-clause-stops c = on_err c.value.result (λ r stops. more_stops [] (token_of c.in_ok-token.token ∷ []) refl c.in_ok-token.ensures.some stops) c.value.ensures.stops
