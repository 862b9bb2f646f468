use Rattle.std.proofs.Common.{◌≡◌, ◌∷◌, ◌∙◌, [], List, ℕ, ap, arith, codes, refl, rules, sym}
use Rattle.std.proofs.lemmas.Result.{err_from_is_err_and}
use Rattle.json.specs.Reads.{token_of}
use Rattle.json.specs.Token.{Token}
use Rattle.values_from_json.specs.declared.source.Source.{Source}
use Rattle.bson_from_json.specs.declared.levels.Holder.TheVariants as holder
use Rattle.bson_from_json.proofs.Keeps.{each_err, more_keeps, more_stops, no_end_of, no_key_of, on_err, other_first, value_lacks}
use Rattle.bson_from_json.proofs.Moments.{more_taken, on_ok, on_ok_two}
use Rattle.bson_from_json.proofs.TypeKeys.{end_no_binary, no_member_token, no_typed_key, no_typed_member, other_key, second_keeps, second_opened, second_refused, text_keeps, text_put, text_refused}
use Rattle.bson_from_json.proofs.reading.Reader.typed_text.Goals as goal

pub returns-in_err-token-clause-stops : goal.returns-in_err-token-clause-stops
returns-in_err-token-clause-stops c =
    each_err c.from_residual.result (λ r. value_lacks r (no_member_token c.args.text.now c.in_err-token.ensures.none))

pub returns-in_default-clause-stops : goal.returns-in_default-clause-stops
returns-in_default-clause-stops c =
    let first : c.args.self.now.source.tokens ≡ token_of c.in_ok-token.field-0 ∷ c.token.new.self.tokens = c.in_ok-token.ensures.some in
    let end = other_first first Token.end_object (no_end_of c.in_ok-token.field-0 c.in_default.not-EndObject) in
    value_lacks _ (no_typed_member c.args.text.now end (λ k. other_first first (Token.key k) (no_key_of c.in_ok-token.field-0 c.in_default.not-Key k)))

-- nothing follows

pub returns-in-EndObject-clause-rest : goal.returns-in-EndObject-clause-rest
returns-in-EndObject-clause-rest c =
    let end : c.args.self.now.source.tokens ≡ Token.end_object ∷ c.token.new.self.tokens = search rules in
    on_ok_two c.put_typed.result
    (λ bytes range. text_put _ _ c.args.key.now c.args.text.now _ range (record { levels = c.put_typed.ensures.levels; bytes = bytes; tokens = refl }) end)
    c.put_typed.ensures.bytes c.put_typed.ensures.in_range

pub returns-in-EndObject-clause-keeps : goal.returns-in-EndObject-clause-keeps
returns-in-EndObject-clause-keeps c =
    let end : c.args.self.now.source.tokens ≡ Token.end_object ∷ c.token.new.self.tokens = search rules in
    on_ok c.put_typed.result (λ len. text_keeps c.args.text.now (end_no_binary end) end c.put_typed.ensures.limits c.put_typed.ensures.levels len) c.put_typed.ensures.len

pub returns-in-EndObject-clause-stops : goal.returns-in-EndObject-clause-stops
returns-in-EndObject-clause-stops c =
    let end : c.args.self.now.source.tokens ≡ Token.end_object ∷ c.token.new.self.tokens = search rules in
    on_err c.put_typed.result (λ r over. text_refused c.args.text.now (end_no_binary end) r _ (omega arith) over) c.put_typed.ensures.refused

-- $binary does

pub returns-then-eq-clause-rest : goal.returns-then-eq-clause-rest
returns-then-eq-clause-rest c =
    let named : c.in-Key.second.now ≡ codes "$binary" = search rules in
    let first : c.args.self.now.source.tokens ≡ Token.key c.in-Key.second.now ∷ c.token.new.self.tokens = search rules in
    on_ok c.binary_behind_type.result
    (λ value. more_taken _ _ (Token.begin_object ∷ Token.key (codes "$type") ∷ Token.string c.args.text.now ∷ []) (Token.key (codes "$binary") ∷ []) refl
    (first ∙ ap (λ (x : List ℕ). Token.key x ∷ c.token.new.self.tokens) named) value) c.binary_behind_type.ensures.rest

pub returns-then-eq-clause-keeps : goal.returns-then-eq-clause-keeps
returns-then-eq-clause-keeps c =
    let named : c.in-Key.second.now ≡ codes "$binary" = search rules in
    let first : c.args.self.now.source.tokens ≡ Token.key c.in-Key.second.now ∷ c.token.new.self.tokens = search rules in
    on_ok c.binary_behind_type.result
    (λ keeps. more_keeps _ _ (Token.begin_object ∷ Token.key (codes "$type") ∷ Token.string c.args.text.now ∷ []) (Token.key (codes "$binary") ∷ []) refl
    (first ∙ ap (λ (x : List ℕ). Token.key x ∷ c.token.new.self.tokens) named) keeps) c.binary_behind_type.ensures.keeps

pub returns-then-eq-clause-stops : goal.returns-then-eq-clause-stops
returns-then-eq-clause-stops c =
    let named : c.in-Key.second.now ≡ codes "$binary" = search rules in
    let first : c.args.self.now.source.tokens ≡ Token.key c.in-Key.second.now ∷ c.token.new.self.tokens = search rules in
    on_err c.binary_behind_type.result
    (λ r stops. more_stops (Token.begin_object ∷ Token.key (codes "$type") ∷ Token.string c.args.text.now ∷ []) (Token.key (codes "$binary") ∷ []) refl
    (first ∙ ap (λ (x : List ℕ). Token.key x ∷ c.token.new.self.tokens) named) stops) c.binary_behind_type.ensures.stops

-- another key does

pub returns-in_err-check_key-in-Key-clause-stops : goal.returns-in_err-check_key-in-Key-clause-stops
returns-in_err-check_key-in-Key-clause-stops c =
    let other : c.in-Key.second.now ≡ codes "$binary" → ⊥ = search rules in
    let first : c.args.self.now.source.tokens ≡ Token.key c.in-Key.second.now ∷ c.token.new.self.tokens = search rules in
    each_err c.from_residual-in_err-check_key-in-Key.result (λ r. value_lacks r (no_typed_key c.args.text.now first other c.in_err-check_key-in-Key.ensures.none))

pub returns-in_err-open_at-in-Key-clause-stops : goal.returns-in_err-open_at-in-Key-clause-stops
returns-in_err-open_at-in-Key-clause-stops c =
    let other : c.in-Key.second.now ≡ codes "$binary" → ⊥ = search rules in
    let first : c.args.self.now.source.tokens ≡ Token.key c.in-Key.second.now ∷ c.token.new.self.tokens = search rules in
    let e = err_from_is_err_and c.from_residual-in_err-open_at-in-Key.result c.from_residual-in_err-open_at-in-Key.ensures.1 in
    rw (e.1, e.2) (text_refused c.args.text.now (other_key first other) _ _ (omega arith) c.in_err-open_at-in-Key.ensures.refused)

pub returns-in_ok-open_at-in-Key-clause-rest : goal.returns-in_ok-open_at-in-Key-clause-rest
returns-in_ok-open_at-in-Key-clause-rest c =
    let first : c.args.self.now.source.tokens ≡ Token.key c.in-Key.second.now ∷ c.token.new.self.tokens = search rules in
    let opened = c.in_ok-open_at-in-Key in
    on_ok c.put.result
    (λ puts. second_opened _ _ c.args.key.now c.args.text.now c.in-Key.second _ (record { levels = opened.ensures.level; bytes = opened.ensures.bytes; tokens = refl }) puts
    (ap (λ (x : Source). x.tokens) c.put.ensures.source) c.check_key.ensures.text c.in_ok-check_key-in-Key.ensures.some
    (first ∙ ap (λ (x : List Token). Token.key c.in-Key.second.now ∷ x) (sym c.open_at.ensures.tokens))) c.put.ensures.puts

pub returns-in_ok-open_at-in-Key-clause-keeps : goal.returns-in_ok-open_at-in-Key-clause-keeps
returns-in_ok-open_at-in-Key-clause-keeps c =
    let other : c.in-Key.second.now ≡ codes "$binary" → ⊥ = search rules in
    let first : c.args.self.now.source.tokens ≡ Token.key c.in-Key.second.now ∷ c.token.new.self.tokens = search rules in
    let opened = c.in_ok-open_at-in-Key in
    let same = sym c.open_at.ensures.tokens ∙ sym (ap (λ (x : Source). x.tokens) c.put.ensures.source) in
    on_ok c.put.result
    (λ puts. second_keeps c.args.text.now (other_key first other) _ c.in-Key.second _ opened.ensures.level opened.ensures.bytes c.open_at.ensures.limits
    (first ∙ ap (λ (x : List Token). Token.key c.in-Key.second.now ∷ x) same) puts) c.put.ensures.puts

pub returns-in_ok-open_at-in-Key-clause-stops : goal.returns-in_ok-open_at-in-Key-clause-stops
returns-in_ok-open_at-in-Key-clause-stops c =
    let other : c.in-Key.second.now ≡ codes "$binary" → ⊥ = search rules in
    let first : c.args.self.now.source.tokens ≡ Token.key c.in-Key.second.now ∷ c.token.new.self.tokens = search rules in
    let opened = c.in_ok-open_at-in-Key in
    on_err c.put.result
    (λ r over. second_refused c.args.text.now (other_key first other) c.open_at.new.self c.in-Key.second _ opened.ensures.level opened.ensures.bytes
    c.open_at.ensures.limits r over) c.put.ensures.refused
