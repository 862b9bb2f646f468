use Rattle.std.proofs.Common.{◌≡◌, ◌∙◌, ◌∷◌, [], List, ap, refl, sym, rules, codes}
use Rattle.json.specs.Token.{Token}
use Rattle.values_from_json.specs.declared.source.Source.{Source}
use Rattle.bson_from_json.proofs.Moments.{code_put, on_ok}
use Rattle.bson_from_json.proofs.Keeps.{code_put_keeps, code_refused, each_err, more_keeps, more_stops, no_code, no_code_token, on_err, value_lacks}
use Rattle.bson_from_json.proofs.reading.Reader.code.Goals as goal

pub returns-in-EndObject-clause-rest : goal.returns-in-EndObject-clause-rest
returns-in-EndObject-clause-rest c =
    let end : c.text.new.self.tokens ≡ Token.end_object ∷ c.token.new.self.tokens = search rules in
    let same = ap (λ (x : Source). Token.end_object ∷ x.tokens) (sym c.put.ensures.source) in
    on_ok c.put.result
    (λ puts. code_put _ _ c.args.key.now c.in_ok-code.code.now (c.in_ok-code.ensures.some ∙ ap (λ (x : List Token). Token.string c.in_ok-code.code.now ∷ x) (end ∙ same)) refl puts)
    c.put.ensures.puts

pub returns-in_err-code-clause-stops : goal.returns-in_err-code-clause-stops
returns-in_err-code-clause-stops c = each_err c.from_residual.result (λ r. value_lacks r (no_code c.in_err-code.ensures.none))

pub returns-in_err-token-clause-stops : goal.returns-in_err-token-clause-stops
returns-in_err-token-clause-stops c = each_err c.from_residual-in_err-token.result (λ r. value_lacks r (no_code_token c.in_ok-code.ensures.some c.in_err-token.ensures.none))

pub returns-in-EndObject-clause-keeps : goal.returns-in-EndObject-clause-keeps
returns-in-EndObject-clause-keeps c =
    let end : c.text.new.self.tokens ≡ Token.end_object ∷ c.token.new.self.tokens = search rules in
    let same = ap (λ (x : Source). Token.end_object ∷ x.tokens) (sym c.put.ensures.source) in
    on_ok c.put.result
    (λ puts. code_put_keeps (c.in_ok-code.ensures.some ∙ ap (λ (x : List Token). Token.string c.in_ok-code.code.now ∷ x) (end ∙ same)) refl puts) c.put.ensures.puts

pub returns-in-EndObject-clause-stops : goal.returns-in-EndObject-clause-stops
returns-in-EndObject-clause-stops c =
    let end : c.text.new.self.tokens ≡ Token.end_object ∷ c.token.new.self.tokens = search rules in
    on_err c.put.result
    (λ r over. code_refused r (c.in_ok-code.ensures.some ∙ ap (λ (x : List Token). Token.string c.in_ok-code.code.now ∷ x) end) over) c.put.ensures.refused

pub returns-in-Key-text-clause-keeps : goal.returns-in-Key-text-clause-keeps
returns-in-Key-text-clause-keeps c =
    let scope : c.text.new.self.tokens ≡ Token.key (codes "$scope") ∷ c.token.new.self.tokens = search rules in
    on_ok c.scope_behind_code.result
    (λ keeps. more_keeps _ _ (Token.begin_object ∷ Token.key (codes "$code") ∷ []) (Token.string c.in_ok-code.code.now ∷ Token.key (codes "$scope") ∷ []) refl
    (c.in_ok-code.ensures.some ∙ ap (λ (x : List Token). Token.string c.in_ok-code.code.now ∷ x) scope) keeps) c.scope_behind_code.ensures.keeps

pub returns-in-Key-text-clause-stops : goal.returns-in-Key-text-clause-stops
returns-in-Key-text-clause-stops c =
    let scope : c.text.new.self.tokens ≡ Token.key (codes "$scope") ∷ c.token.new.self.tokens = search rules in
    on_err c.scope_behind_code.result
    (λ r stops. more_stops (Token.begin_object ∷ Token.key (codes "$code") ∷ []) (Token.string c.in_ok-code.code.now ∷ Token.key (codes "$scope") ∷ []) refl
    (c.in_ok-code.ensures.some ∙ ap (λ (x : List Token). Token.string c.in_ok-code.code.now ∷ x) scope) stops) c.scope_behind_code.ensures.stops
