use Rattle.std.proofs.Common.{◌≡◌, ◌∷◌, ◌∙◌, [], ℕ, List, ap, codes, false, refl, rules}
use Rattle.json.specs.Token.{Token}
use Rattle.values_from_json.specs.Meaning.{is_wrapper_key}
use Rattle.bson_from_json.proofs.Moments.{begun_opened, empty_put, more_taken, on_ok, on_ok_two}
use Rattle.bson_from_json.proofs.Keeps.{begun_opens, begun_refused, each_err, empty_keeps, empty_refused, more_keeps, more_stops, no_first, no_free_key, on_err, value_lacks}
use Rattle.values_from_json.specs.Keys.{wrapper_key}
use Rattle.bson_from_json.proofs.reading.Reader.object.Goals as goal

pub returns-in-EndObject-clause-rest : goal.returns-in-EndObject-clause-rest
returns-in-EndObject-clause-rest c = on_ok c.put_empty.result
    (λ bytes. empty_put _ _ c.args.key.now _ (record { levels = c.put_empty.ensures.levels; bytes = bytes; tokens = refl }) (search rules)) c.put_empty.ensures.bytes

pub returns-in_ok-check_free-in-None-clause-rest : goal.returns-in_ok-check_free-in-None-clause-rest
returns-in_ok-check_free-in-None-clause-rest c =
    let plain : is_wrapper_key c.in-Key.first.now ≡ false = search rules in
    let first : c.args.self.now.source.tokens ≡ Token.key c.in-Key.first.now ∷ c.token.new.self.tokens = search rules in
    on_ok_two c.open_under.result
    (λ level bytes. begun_opened _ _ c.args.key.now c.in-Key.first _ (c.check_free.ensures.text, c.in_ok-check_free-in-None.ensures.some)
    plain (record { levels = level; bytes = bytes; tokens = refl }) first) c.open_under.ensures.level
    c.open_under.ensures.bytes

pub returns-in_err-token-clause-stops : goal.returns-in_err-token-clause-stops
returns-in_err-token-clause-stops c = each_err c.from_residual.result (λ r. value_lacks r (no_first c.in_err-token.ensures.none))

pub returns-in-EndObject-clause-keeps : goal.returns-in-EndObject-clause-keeps
returns-in-EndObject-clause-keeps c =
    let end : c.args.self.now.source.tokens ≡ Token.end_object ∷ c.token.new.self.tokens = search rules in
    on_ok c.put_empty.result (λ bytes. empty_keeps _ _ end c.put_empty.ensures.limits c.put_empty.ensures.levels bytes) c.put_empty.ensures.bytes

pub returns-in-EndObject-clause-stops : goal.returns-in-EndObject-clause-stops
returns-in-EndObject-clause-stops c =
    let end : c.args.self.now.source.tokens ≡ Token.end_object ∷ c.token.new.self.tokens = search rules in
    on_err c.put_empty.result (λ r over. empty_refused r end over) c.put_empty.ensures.refused

pub returns-in_ok-check_free-in-None-clause-keeps : goal.returns-in_ok-check_free-in-None-clause-keeps
returns-in_ok-check_free-in-None-clause-keeps c =
    let plain : is_wrapper_key c.in-Key.first.now ≡ false = search rules in
    let other : c.in-Key.first.now ≡ codes "$type" → ⊥ = search rules in
    let first : c.args.self.now.source.tokens ≡ Token.key c.in-Key.first.now ∷ c.token.new.self.tokens = search rules in
    on_ok_two c.open_under.result (λ level bytes. begun_opens _ _ c.in-Key.first _ plain other first refl c.open_under.ensures.limits level bytes) c.open_under.ensures.level
    c.open_under.ensures.bytes

pub returns-in_ok-check_free-in-None-clause-stops : goal.returns-in_ok-check_free-in-None-clause-stops
returns-in_ok-check_free-in-None-clause-stops c =
    let plain : is_wrapper_key c.in-Key.first.now ≡ false = search rules in
    let other : c.in-Key.first.now ≡ codes "$type" → ⊥ = search rules in
    let first : c.args.self.now.source.tokens ≡ Token.key c.in-Key.first.now ∷ c.token.new.self.tokens = search rules in
    on_err c.open_under.result (λ r over. begun_refused r plain other first over) c.open_under.ensures.refused

pub returns-in-Some-clause-stops : goal.returns-in-Some-clause-stops
returns-in-Some-clause-stops c =
    let named : c.in-Key.first.now ≡ wrapper_key c.in-Some.wrapper = search rules in
    let first : c.args.self.now.source.tokens ≡ Token.key c.in-Key.first.now ∷ c.token.new.self.tokens = search rules in
    on_err c.wrapped.result
    (λ r stops. more_stops (Token.begin_object ∷ []) (Token.key (wrapper_key c.in-Some.wrapper) ∷ []) refl
    (first ∙ ap (λ (x : List ℕ). Token.key x ∷ c.token.new.self.tokens) named) stops) c.wrapped.ensures.stops

pub returns-in_err-check_free-in-None-clause-stops : goal.returns-in_err-check_free-in-None-clause-stops
returns-in_err-check_free-in-None-clause-stops c =
    let plain : is_wrapper_key c.in-Key.first.now ≡ false = search rules in
    let other : c.in-Key.first.now ≡ codes "$type" → ⊥ = search rules in
    let first : c.args.self.now.source.tokens ≡ Token.key c.in-Key.first.now ∷ c.token.new.self.tokens = search rules in
    each_err c.from_residual-in_err-check_free-in-None.result (λ r. value_lacks r (no_free_key plain other first c.in_err-check_free-in-None.ensures.none))

pub returns-in-Some-clause-keeps : goal.returns-in-Some-clause-keeps
returns-in-Some-clause-keeps c =
    let named : c.in-Key.first.now ≡ wrapper_key c.in-Some.wrapper = search rules in
    let first : c.args.self.now.source.tokens ≡ Token.key c.in-Key.first.now ∷ c.token.new.self.tokens = search rules in
    on_ok c.wrapped.result
    (λ keeps. more_keeps _ _ (Token.begin_object ∷ []) (Token.key (wrapper_key c.in-Some.wrapper) ∷ []) refl
    (first ∙ ap (λ (x : List ℕ). Token.key x ∷ c.token.new.self.tokens) named) keeps) c.wrapped.ensures.keeps

pub returns-then-eq-clause-rest : goal.returns-then-eq-clause-rest
returns-then-eq-clause-rest c =
    let named : c.in-Key.first.now ≡ codes "$type" = search rules in
    let first : c.args.self.now.source.tokens ≡ Token.key c.in-Key.first.now ∷ c.token.new.self.tokens = search rules in
    on_ok c.typed.result
    (λ value. more_taken _ _ (Token.begin_object ∷ []) (Token.key (codes "$type") ∷ []) refl (first ∙ ap (λ (x : List ℕ). Token.key x ∷ c.token.new.self.tokens) named) value) c.typed.ensures.rest

pub returns-then-eq-clause-keeps : goal.returns-then-eq-clause-keeps
returns-then-eq-clause-keeps c =
    let named : c.in-Key.first.now ≡ codes "$type" = search rules in
    let first : c.args.self.now.source.tokens ≡ Token.key c.in-Key.first.now ∷ c.token.new.self.tokens = search rules in
    on_ok c.typed.result
    (λ keeps. more_keeps _ _ (Token.begin_object ∷ []) (Token.key (codes "$type") ∷ []) refl (first ∙ ap (λ (x : List ℕ). Token.key x ∷ c.token.new.self.tokens) named) keeps) c.typed.ensures.keeps

pub returns-then-eq-clause-stops : goal.returns-then-eq-clause-stops
returns-then-eq-clause-stops c =
    let named : c.in-Key.first.now ≡ codes "$type" = search rules in
    let first : c.args.self.now.source.tokens ≡ Token.key c.in-Key.first.now ∷ c.token.new.self.tokens = search rules in
    on_err c.typed.result
    (λ r stops. more_stops (Token.begin_object ∷ []) (Token.key (codes "$type") ∷ []) refl (first ∙ ap (λ (x : List ℕ). Token.key x ∷ c.token.new.self.tokens) named) stops) c.typed.ensures.stops
