-- The text of an integer is read back.
use Rattle.std.proofs.Common.{◌≡◌, ◌<◌, ◌^◌, ℕ, ℤ, pos, negsuc, suc, List, codes, decimal, get_or, refl, sym, ap, subst, ◌∙◌, arith, Result, Ok, Err, FitsSigned, inl, inr, false, is_ok}
use lib.Signed.{mag}
use Rattle.std.specs.Str.{bytes_eq}
use Rattle.std.proofs.lemmas.Bool.{false≢true}
use Rattle.std.proofs.lemmas.Slice.Eq.{bytes_eq-Decides}
use Rattle.std.specs.Int.{w64}
use Rattle.std.specs.Fmt.{signed_decimal}
use Rattle.std.specs.Str.Parse.{ParsesSigned}
use Rattle.std.proofs.lemmas.Fmt.{decimal_is_IsNumeral, first_decimal, parse-signed_decimal, signed_decimal_injective}
use Rattle.std.proofs.lemmas.Str.Parse.{digit_at, numerals_by_value, tells_digits, parse_signed_minus}
use Rattle.std.proofs.lemmas.Result.{Ok-from_Ok_iff}
use Rattle.values_from_json.specs.Numbers.{WritesInteger}

parses_minus_0 : {E : Type 0} (r : Result ℤ E) → ParsesSigned w64 10 (codes "-0") r → r ≡ Ok (pos 0)
parses_minus_0 r h =
    let read = parse_signed_minus (numerals_by_value _ tells_digits) w64 (codes "-0") r h refl in
    Ok-from_Ok_iff r _ _ read ((omega arith, tt), omega arith, omega arith)

pub parses_written : {E : Type 0} (z : ℤ) (bs : List ℕ) (r : Result ℤ E) → FitsSigned w64 z → WritesInteger bs z → ParsesSigned w64 10 bs r → r ≡ Ok z
parses_written z bs r fits (inl is) h = parse-signed_decimal w64 z bs r fits fits.sfits is h
parses_written z bs r fits (inr is) h = parses_minus_0 r (subst (λ l. ParsesSigned w64 10 l r) is.0 h) ∙ ap Ok (sym is.1)

differ : (xs ys : List ℕ) → false ≡ bytes_eq xs ys → xs ≡ ys → ⊥
differ xs ys unlike same = false≢true (unlike ∙ (bytes_eq-Decides xs ys).1 same)

-- a text that can't be read writes no integer
pub none_written : {E : Type 0} (z : ℤ) (bs : List ℕ) (r : Result ℤ E) (e : E) → FitsSigned w64 z → WritesInteger bs z → ParsesSigned w64 10 bs r → r ≡ Err e → ⊥
none_written z bs r e fits is h err = false≢true (ap is_ok (sym err ∙ parses_written z bs r fits is h))

-- nor does one that is neither the text of what was read nor -0
pub other_written : {E : Type 0} (z read : ℤ) (bs shown : List ℕ) (r : Result ℤ E) → FitsSigned w64 z → WritesInteger bs z → ParsesSigned w64 10 bs r
    → r ≡ Ok read → shown ≡ signed_decimal read → false ≡ bytes_eq bs shown → false ≡ bytes_eq bs (codes "-0") → ⊥
other_written z read bs shown r fits (inl is) h ok s unlike never =
    let same : read ≡ z = search (parses_written z bs r fits (inl is) h) in
    differ bs shown unlike (is ∙ ap signed_decimal (sym same) ∙ sym s)
other_written z read bs shown r fits (inr is) h ok s unlike never = differ bs (codes "-0") never is.0

-- what was read is the only one
pub one_read : {E : Type 0} (z read : ℤ) (bs : List ℕ) (r : Result ℤ E) → FitsSigned w64 z → WritesInteger bs z → ParsesSigned w64 10 bs r → r ≡ Ok read → z ≡ read
one_read z read bs r fits is h ok = let e = parses_written z bs r fits is h in cc

-- no integer has the text of a negative 0
pub no_minus_0 : (z : ℤ) → mag z < 2 ^ 63 → signed_decimal z ≡ codes "-0" → ⊥
no_minus_0 (pos n) h e =
    let is = decimal_is_IsNumeral n (omega arith) in
    let first : get_or (decimal n) 0 0 ≡ 45 = ap (λ (l : List ℕ). get_or l 0 0) e in
    omega (arith, digit_at (decimal n) 0 is.0.1 is.0.0)
no_minus_0 (negsuc n) h e =
    let second : get_or (decimal (suc n)) 0 0 ≡ 48 = ap (λ (l : List ℕ). get_or l 1 0) e in
    omega (arith, first_decimal (suc n) (omega arith) (omega arith))

-- a text writes one integer at most
pub written_once : (s : List ℕ) (z y : ℤ) → FitsSigned w64 z → FitsSigned w64 y → WritesInteger s z → WritesInteger s y → z ≡ y
written_once s z y h k (inl is) (inl also) = signed_decimal_injective z y h.sfits k.sfits (sym is ∙ also)
written_once s z y h k (inl is) (inr also) = absurd (no_minus_0 z h.sfits (sym is ∙ also.0))
written_once s z y h k (inr is) (inl also) = absurd (no_minus_0 y k.sfits (sym also ∙ is.0))
written_once s z y h k (inr is) (inr also) = is.1 ∙ sym also.1
