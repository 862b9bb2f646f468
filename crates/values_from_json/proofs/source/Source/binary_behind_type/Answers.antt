use Rattle.std.proofs.Common.{◌≡◌, ◌∷◌, [], ℕ, List, Ok, inr, refl, rules}
use Rattle.std.proofs.lemmas.Result.{err_from_is_err_and}
use Rattle.hex.specs.Hex.{decode_sized}
use Rattle.values_from_json.specs.Spaces.{trimmed}
use Rattle.values_from_json.specs.Wrapped.{two_hex_digits}
use Rattle.values_from_json.proofs.Lacks.{no_err_or, or_else}
use Rattle.values_from_json.proofs.OldBinary.{digits_taken, no_bytes, no_digits, no_end}
use Rattle.values_from_json.proofs.source.Source.binary_behind_type.Goals as goal

pub returns-clause-some : goal.returns-clause-some
returns-clause-some c =
    let of_digits : decode_sized (two_hex_digits (trimmed c.args.digits.now)) 1 ≡ Ok (c.in-Some.subtype ∷ []) = search rules in
    digits_taken c.args.digits.now c.in_ok-bytes.ensures.some.1 c.in_ok-end.ensures.some (_, _, c.in_ok-bytes.ensures.some.2, of_digits, refl)

pub returns-in_default-clause-none : goal.returns-in_default-clause-none
returns-in_default-clause-none c =
    let none : (bytes : List ℕ) → decode_sized (two_hex_digits (trimmed c.args.digits.now)) 1 ≡ Ok bytes → ⊥ = search rules in inr (no_digits none)

pub returns-in_err-bytes-clause-none : goal.returns-in_err-bytes-clause-none
returns-in_err-bytes-clause-none c =
    let e = err_from_is_err_and c.from_residual.result c.from_residual.ensures.1 in
    rw (e.1, e.2) (or_else (λ none. no_bytes none) c.in_err-bytes.ensures.none)

pub returns-in_err-end-clause-none : goal.returns-in_err-end-clause-none
returns-in_err-end-clause-none c = no_err_or c.from_residual-in_err-end.result _ (no_end c.in_ok-bytes.ensures.some.1 c.in_err-end.ensures.none)
