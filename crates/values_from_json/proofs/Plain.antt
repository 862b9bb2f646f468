-- Texts that aren't numbers without a wrapper.
use Rattle.std.proofs.Common.{◌≡◌, ℕ, ℤ, pos, negsuc, suc, List, [], ◌∷◌, true, false, decimal, FitsSigned, ap, sym, ◌∙◌, inl, inr, refl, arith}
use Rattle.std.specs.Int.{w64}
use Rattle.std.specs.Fmt.{signed_decimal}
use Rattle.std.specs.Str.Parse.{AllDigits}
use Rattle.std.proofs.lemmas.Bool.{false≢true, ne_eqb}
use Rattle.std.proofs.lemmas.Fmt.{decimal_is_IsNumeral}
use Rattle.std.proofs.lemmas.Str.Parse.{digit_from_value}
use Rattle.bson_model.specs.Leaf.{Leaf}
use Rattle.values_from_json.specs.Numbers.{IsPlain, WritesFinite, WritesInteger, is_fractional}
use Rattle.values_from_json.proofs.Lacks.{wider}

-- an integer has no fraction and no exponent
digits_only : (ds : List ℕ) → AllDigits 10 ds → is_fractional ds ≡ false
digits_only [] h = refl
digits_only (d ∷ ds) h =
    let r = digit_from_value d h.0 in
    rw (ne_eqb d 46 (λ e. omega (arith, r.0, e)), ne_eqb d 101 (λ e. omega (arith, r.1, e)), ne_eqb d 69 (λ e. omega (arith, r.1, e)), digits_only ds h.1) refl

signed_only : (z : ℤ) → FitsSigned w64 z → is_fractional (signed_decimal z) ≡ false
signed_only (pos n) fits = digits_only (decimal n) (decimal_is_IsNumeral n (omega (arith, fits.sfits))).0.1
signed_only (negsuc n) fits = digits_only (decimal (suc n)) (decimal_is_IsNumeral (suc n) (omega (arith, fits.sfits))).0.1

pub integer_only : (s : List ℕ) (z : ℤ) → FitsSigned w64 z → WritesInteger s z → is_fractional s ≡ false
integer_only s z fits (inl is) = ap is_fractional is ∙ signed_only z fits
integer_only s z fits (inr is) = ap is_fractional is.0

pub no_double : (s : List ℕ) → is_fractional s ≡ true → ((bits : ℕ) → WritesFinite s bits → ⊥) → (l : Leaf) → IsPlain s l → ⊥
no_double s fractional none l (inl (z, w, fits, is)) = false≢true (sym (integer_only s z (wider z fits) w) ∙ fractional)
no_double s fractional none l (inr (inl (z, w, large, fits, is))) = false≢true (sym (integer_only s z fits w) ∙ fractional)
no_double s fractional none l (inr (inr (also, (bits, w, is)))) = none bits w
