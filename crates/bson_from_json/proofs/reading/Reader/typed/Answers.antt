use Rattle.std.proofs.Common.{◌≡◌, ◌∷◌, ◌∙◌, [], List, ap, codes, refl, rules, sym}
use Rattle.std.proofs.lemmas.Result.{err_from_is_err_and}
use Rattle.json.specs.Reads.{token_of}
use Rattle.json.specs.Token.{Token}
use Rattle.bson_from_json.proofs.Keeps.{each_err, more_keeps, more_stops, no_value, on_err, value_lacks}
use Rattle.bson_from_json.proofs.Moments.{more_taken, on_ok, on_ok_two}
use Rattle.bson_from_json.proofs.TypeKeys.{brace_no_string, no_binary_at, no_string_of, no_typed_value, other_opened, typed_keeps, typed_opened, typed_opens, typed_refused, typed_stops}
use Rattle.bson_from_json.proofs.reading.Reader.typed.Goals as goal

pub returns-in_err-token-clause-stops : goal.returns-in_err-token-clause-stops
returns-in_err-token-clause-stops c = each_err c.from_residual.result (λ r. value_lacks r (no_typed_value (no_value c.in_err-token.ensures.none)))

pub returns-in-String-clause-rest : goal.returns-in-String-clause-rest
returns-in-String-clause-rest c =
    let first : c.args.self.now.source.tokens ≡ Token.string c.in-String.text.now ∷ c.token.new.self.tokens = search rules in
    on_ok c.typed_text.result
    (λ value. more_taken _ _ (Token.begin_object ∷ Token.key (codes "$type") ∷ []) (Token.string c.in-String.text.now ∷ []) refl first value) c.typed_text.ensures.rest

pub returns-in-String-clause-keeps : goal.returns-in-String-clause-keeps
returns-in-String-clause-keeps c =
    let first : c.args.self.now.source.tokens ≡ Token.string c.in-String.text.now ∷ c.token.new.self.tokens = search rules in
    on_ok c.typed_text.result
    (λ keeps. more_keeps _ _ (Token.begin_object ∷ Token.key (codes "$type") ∷ []) (Token.string c.in-String.text.now ∷ []) refl first keeps) c.typed_text.ensures.keeps

pub returns-in-String-clause-stops : goal.returns-in-String-clause-stops
returns-in-String-clause-stops c =
    let first : c.args.self.now.source.tokens ≡ Token.string c.in-String.text.now ∷ c.token.new.self.tokens = search rules in
    on_err c.typed_text.result
    (λ r stops. more_stops (Token.begin_object ∷ Token.key (codes "$type") ∷ []) (Token.string c.in-String.text.now ∷ []) refl first stops) c.typed_text.ensures.stops

pub returns-in-BeginObject-clause-rest : goal.returns-in-BeginObject-clause-rest
returns-in-BeginObject-clause-rest c =
    let first : c.args.self.now.source.tokens ≡ Token.begin_object ∷ c.token.new.self.tokens = search rules in
    on_ok_two c.open_at.result
    (λ level bytes. typed_opened _ _ c.args.key.now _ (record { levels = level; bytes = bytes; tokens = c.open_at.ensures.tokens }) first) c.open_at.ensures.level c.open_at.ensures.bytes

pub returns-in-BeginObject-clause-keeps : goal.returns-in-BeginObject-clause-keeps
returns-in-BeginObject-clause-keeps c =
    let first : c.args.self.now.source.tokens ≡ Token.begin_object ∷ c.token.new.self.tokens = search rules in
    on_ok_two c.open_at.result
    (λ level bytes. typed_opens (no_binary_at first brace_no_string) _ (first ∙ ap (λ (x : List Token). Token.begin_object ∷ x) (sym c.open_at.ensures.tokens)) c.open_at.ensures.limits level bytes)
    c.open_at.ensures.level c.open_at.ensures.bytes

pub returns-in-BeginObject-clause-stops : goal.returns-in-BeginObject-clause-stops
returns-in-BeginObject-clause-stops c =
    let first : c.args.self.now.source.tokens ≡ Token.begin_object ∷ c.token.new.self.tokens = search rules in
    on_err c.open_at.result (λ r over. typed_refused (no_binary_at first brace_no_string) r over) c.open_at.ensures.refused

pub returns-in_ok-open_at-in_default-clause-rest : goal.returns-in_ok-open_at-in_default-clause-rest
returns-in_ok-open_at-in_default-clause-rest c =
    let first : c.args.self.now.source.tokens ≡ token_of c.in_ok-token.token ∷ c.token.new.self.tokens = search rules in
    let opened = c.in_ok-open_at-in_default in
    on_ok c.plain.result
    (λ value. other_opened _ _ c.args.key.now (record { levels = opened.ensures.level; bytes = opened.ensures.bytes; tokens = refl })
    (first ∙ ap (λ (x : List Token). token_of c.in_ok-token.token ∷ x) (sym c.open_at-in_default.ensures.tokens)) value) c.plain.ensures.rest

pub returns-in_ok-open_at-in_default-clause-keeps : goal.returns-in_ok-open_at-in_default-clause-keeps
returns-in_ok-open_at-in_default-clause-keeps c =
    let first : c.args.self.now.source.tokens ≡ token_of c.in_ok-token.token ∷ c.token.new.self.tokens = search rules in
    let opened = c.in_ok-open_at-in_default in
    on_ok c.plain.result
    (λ keeps. typed_keeps _ _ _ (no_binary_at c.in_ok-token.ensures.some (no_string_of c.in_ok-token.token c.in_default.not-String)) _ opened.ensures.level opened.ensures.bytes
    (first ∙ ap (λ (x : List Token). token_of c.in_ok-token.token ∷ x) (sym c.open_at-in_default.ensures.tokens)) c.open_at-in_default.ensures.limits keeps) c.plain.ensures.keeps

pub returns-in_ok-open_at-in_default-clause-stops : goal.returns-in_ok-open_at-in_default-clause-stops
returns-in_ok-open_at-in_default-clause-stops c =
    let first : c.args.self.now.source.tokens ≡ token_of c.in_ok-token.token ∷ c.token.new.self.tokens = search rules in
    let opened = c.in_ok-open_at-in_default in
    on_err c.plain.result
    (λ r stops. typed_stops _ _ _ (no_binary_at c.in_ok-token.ensures.some (no_string_of c.in_ok-token.token c.in_default.not-String)) _ opened.ensures.level opened.ensures.bytes
    (first ∙ ap (λ (x : List Token). token_of c.in_ok-token.token ∷ x) (sym c.open_at-in_default.ensures.tokens)) r c.open_at-in_default.ensures.limits stops) c.plain.ensures.stops

pub returns-in_err-open_at-in_default-clause-stops : goal.returns-in_err-open_at-in_default-clause-stops
returns-in_err-open_at-in_default-clause-stops c =
    let e = err_from_is_err_and c.from_residual-in_err-open_at-in_default.result c.from_residual-in_err-open_at-in_default.ensures.1 in
    rw (e.1, e.2) (typed_refused (no_binary_at c.in_ok-token.ensures.some (no_string_of c.in_ok-token.token c.in_default.not-String)) _ c.in_err-open_at-in_default.ensures.refused)
