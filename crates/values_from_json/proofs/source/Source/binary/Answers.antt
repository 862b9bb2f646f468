use Rattle.std.proofs.Common.{◌≡◌, ℕ, List, Ok, refl, rules, subst, sym}
use Rattle.std.proofs.lemmas.Result.{err_from_is_err_and}
use Rattle.base64.specs.Engines.{standard}
use Rattle.base64.specs.GeneralPurpose.{decode_of}
use Rattle.json.specs.Token.{Token}
use Rattle.values_from_json.specs.Spaces.{without_spaces}
use Rattle.values_from_json.specs.Taken.{TakesToken}
use Rattle.values_from_json.proofs.Lacks.{no_err_or, or_else}
use Rattle.values_from_json.proofs.OldBinary.{no_binary_value, no_object_end, no_object_value, no_text_bytes, no_type_digits, no_type_end, no_type_key, object_taken, text_taken}
use Rattle.values_from_json.proofs.source.Source.binary.Goals as goal

pub returns-in_err-brace_or_text-clause-none : goal.returns-in_err-brace_or_text-clause-none
returns-in_err-brace_or_text-clause-none c = no_err_or c.from_residual.result _ (no_binary_value c.in_err-brace_or_text.ensures.none)

-- an object

pub returns-in_ok-end-in-None-clause-some : goal.returns-in_ok-end-in-None-clause-some
returns-in_ok-end-in-None-clause-some c =
    let begin : TakesToken c.args.self.now.tokens c.brace_or_text.new.self.tokens Token.begin_object = search rules in
    object_taken begin c.in_ok-bytes-in-None.ensures.some c.in_ok-end-in-None.ensures.some

pub returns-in_err-bytes-in-None-clause-none : goal.returns-in_err-bytes-in-None-clause-none
returns-in_err-bytes-in-None-clause-none c =
    let begin : TakesToken c.args.self.now.tokens c.brace_or_text.new.self.tokens Token.begin_object = search rules in
    let e = err_from_is_err_and c.from_residual-in_err-bytes-in-None.result c.from_residual-in_err-bytes-in-None.ensures.1 in
    rw (e.1, e.2) (or_else (λ none. no_object_value begin none) c.in_err-bytes-in-None.ensures.none)

pub returns-in_err-end-in-None-clause-none : goal.returns-in_err-end-in-None-clause-none
returns-in_err-end-in-None-clause-none c =
    let begin : TakesToken c.args.self.now.tokens c.brace_or_text.new.self.tokens Token.begin_object = search rules in
    no_err_or c.from_residual-in_err-end-in-None.result _ (no_object_end begin c.in_ok-bytes-in-None.ensures.some c.in_err-end-in-None.ensures.none)

-- base64

pub returns-in_ok-end-in-Some-clause-some : goal.returns-in_ok-end-in-Some-clause-some
returns-in_ok-end-in-Some-clause-some c =
    let first : TakesToken c.args.self.now.tokens c.brace_or_text.new.self.tokens (Token.string c.in-Some.text.now) = search rules in
    let decoded : decode_of standard (without_spaces c.in-Some.text.now) ≡ Ok c.in_ok-bytes-in-Some.bytes.items = search rules in
    let digits = c.in_ok-subtype-in-Some.ensures.some in
    text_taken first c.in_ok-named-in-Some.ensures.some digits.1 c.in_ok-end-in-Some.ensures.some (_, _, decoded, digits.2, refl)

pub returns-in_err-bytes-in-Some-clause-none : goal.returns-in_err-bytes-in-Some-clause-none
returns-in_err-bytes-in-Some-clause-none c =
    let first : TakesToken c.args.self.now.tokens c.brace_or_text.new.self.tokens (Token.string c.in-Some.text.now) = search rules in
    let e = err_from_is_err_and c.from_residual-in_err-bytes-in-Some.result c.from_residual-in_err-bytes-in-Some.ensures.1 in
    let same = c.as_bytes.ensures.value in
    rw (e.1, e.2) (or_else (λ none. no_text_bytes first (λ bytes d. none bytes (subst (λ (s : List ℕ). decode_of standard (without_spaces s) ≡ Ok bytes) (sym same) d)))
    c.in_err-bytes-in-Some.ensures.none)

pub returns-in_err-named-in-Some-clause-none : goal.returns-in_err-named-in-Some-clause-none
returns-in_err-named-in-Some-clause-none c =
    let first : TakesToken c.args.self.now.tokens c.brace_or_text.new.self.tokens (Token.string c.in-Some.text.now) = search rules in
    no_err_or c.from_residual-in_err-named-in-Some.result _ (no_type_key first c.in_err-named-in-Some.ensures.none)

pub returns-in_err-subtype-in-Some-clause-none : goal.returns-in_err-subtype-in-Some-clause-none
returns-in_err-subtype-in-Some-clause-none c =
    let first : TakesToken c.args.self.now.tokens c.brace_or_text.new.self.tokens (Token.string c.in-Some.text.now) = search rules in
    no_err_or c.from_residual-in_err-subtype-in-Some.result _ (no_type_digits first c.in_ok-named-in-Some.ensures.some c.in_err-subtype-in-Some.ensures.none)

pub returns-in_err-end-in-Some-clause-none : goal.returns-in_err-end-in-Some-clause-none
returns-in_err-end-in-Some-clause-none c =
    let first : TakesToken c.args.self.now.tokens c.brace_or_text.new.self.tokens (Token.string c.in-Some.text.now) = search rules in
    no_err_or c.from_residual-in_err-end-in-Some.result _
    (no_type_end first c.in_ok-named-in-Some.ensures.some c.in_ok-subtype-in-Some.ensures.some.1 c.in_err-end-in-Some.ensures.none)
