use Rattle.std.proofs.Common.{inl, refl, rules, ◌≡◌, ◌∷◌}
use Rattle.bson_from_json.proofs.Moments.{end_taken, member_taken, on_ok}
use Rattle.bson_from_json.proofs.Steps.{object_bracket}
use Rattle.bson_from_json.proofs.Keeps.{each_err, end_keeps, end_stops, level_lacks, member_keeps, member_stops, no_end_of, no_key_of, no_member, no_member_token, no_such_key, on_err, other_first}
use Rattle.json.specs.Reads.{token_of}
use Rattle.json.specs.Token.{Token}
use Rattle.bson_from_json.proofs.reading.Reader.member.Goals as goal

pub returns-in-EndObject-clause-rest : goal.returns-in-EndObject-clause-rest
returns-in-EndObject-clause-rest c = on_ok c.close.result
    (λ closes. end_taken _ _ c.args.level (record { levels = refl; bytes = refl; tokens = refl }) (search (rules, object_bracket)) (inl c.requires.members) closes) c.close.ensures.rest

pub returns-in_ok-push-in-Key-clause-rest : goal.returns-in_ok-push-in-Key-clause-rest
returns-in_ok-push-in-Key-clause-rest c = on_ok c.value_of.result
    (λ value. member_taken _ _ c.args.level c.requires.members c.check_key.ensures.text c.in_ok-check_key-in-Key.ensures.some
    (record { levels = c.in_ok-push-in-Key.ensures.level; bytes = c.push.ensures.bytes; tokens = refl }) (search rules) value)
    c.value_of.ensures.rest

pub returns-in_err-token-clause-stops : goal.returns-in_err-token-clause-stops
returns-in_err-token-clause-stops c = each_err c.from_residual.result (λ r. level_lacks r (no_member_token c.args.level.holder c.requires.members c.in_err-token.ensures.none))

pub returns-in-EndObject-clause-keeps : goal.returns-in-EndObject-clause-keeps
returns-in-EndObject-clause-keeps c = on_ok c.close.result (λ closes. end_keeps _ _ c.args.level c.requires.members refl (search rules) closes) c.close.ensures.keeps

pub returns-in-EndObject-clause-stops : goal.returns-in-EndObject-clause-stops
returns-in-EndObject-clause-stops c = on_err c.close.result (λ r stops. end_stops r c.args.level c.requires.members refl (search rules) stops) c.close.ensures.stops

pub returns-in_ok-push-in-Key-clause-keeps : goal.returns-in_ok-push-in-Key-clause-keeps
returns-in_ok-push-in-Key-clause-keeps c =
    let first : c.args.self.now.source.tokens ≡ Token.key c.in-Key.key.now ∷ c.token.new.self.tokens = search rules in
    on_ok c.value_of.result (λ value. member_keeps _ _ c.args.level c.requires.members
    (record { limits = c.push.ensures.limits; levels = c.in_ok-push-in-Key.ensures.level; bytes = c.push.ensures.bytes }) first value) c.value_of.ensures.keeps

pub returns-in_ok-push-in-Key-clause-stops : goal.returns-in_ok-push-in-Key-clause-stops
returns-in_ok-push-in-Key-clause-stops c =
    let first : c.args.self.now.source.tokens ≡ Token.key c.in-Key.key.now ∷ c.token.new.self.tokens = search rules in
    on_err c.value_of.result (λ r stops. member_stops r c.args.level c.requires.members
    (record { limits = c.push.ensures.limits; levels = c.in_ok-push-in-Key.ensures.level; bytes = c.push.ensures.bytes }) first stops) c.value_of.ensures.stops

pub returns-in_err-check_key-in-Key-clause-stops : goal.returns-in_err-check_key-in-Key-clause-stops
returns-in_err-check_key-in-Key-clause-stops c =
    let first : c.args.self.now.source.tokens ≡ Token.key c.in-Key.key.now ∷ c.token.new.self.tokens = search rules in
    each_err c.from_residual-in_err-check_key-in-Key.result (λ r. level_lacks r (no_such_key c.args.level.holder c.requires.members first c.in_err-check_key-in-Key.ensures.none))

pub returns-in_default : goal.returns-in_default
returns-in_default c =
    let first : c.args.self.now.source.tokens ≡ token_of c.in_ok-token.field-0 ∷ c.token.new.self.tokens = c.in_ok-token.ensures.some in
    let end = other_first first Token.end_object (no_end_of c.in_ok-token.field-0 c.in_default.not-EndObject) in
    record {
      less = tt;
      rest = tt;
      keeps = tt;
      stops = level_lacks _ (no_member c.args.level.holder c.requires.members end (λ k. other_first first (Token.key k) (no_key_of c.in_ok-token.field-0 c.in_default.not-Key k)));
    }
