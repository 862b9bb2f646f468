-- Each finite double has a text that is read as it: all of its digits, and an exponent.
use Rattle.bson_to_json.proofs.Common.{AllDigits, IsDoubleText, IsPlain, Parts, T, binary64, cases_lt, digits_value, nat_tests, nearest_float, sign_text, text_of}
use Rattle.std.proofs.Common.{◌≡◌, ◌+◌, ◌-◌, ◌*◌, ◌/◌, ◌%◌, ◌^◌, ◌<◌, ◌≤◌, ◌++◌, [], ◌∷◌, ℕ, ℤ, pos, negsuc, zero, suc, Bool, true, false, cond, ◌&&◌, List, Some, inl, inr, length, length-append, get_or, codes, refl, sym, ap, ◌∙◌, arith, append-nil, from_bits}
use Rattle.std.proofs.lemmas.Float.Parse.{parse_float-text_of}
use Rattle.std.proofs.lemmas.Int.Digits.{digits_push, digits_value_push}
use Rattle.std.proofs.lemmas.Nat.{mul-pow, pow_pos}
use Rattle.std.specs.Char.{digit_value}
use Rattle.std.specs.Float.Ieee.{Float, Format, nan, inf, fin, round}
use lib.Dec.{leb, ltb, eqb, ltb→lt, leb→le}
use lib.Ieee.{prec, emax, low, up, down, fits, of_bits, to_bits, size, top, hid}
use lib.Ieee.Bits.{of_bits-fits, of_bits-to_bits}
use lib.Ieee.Exact.{HasValue, round_exact}
use lib.Ieee.Fits.{round-fits, and_l, and_r, down_pos, reach}
use lib.Ieee.Scale.{round_same}
use lib.Pow.{pow-add, pow-lt, pow_mono, shl_lt}
use native.Mathlib.Nat.{lt_of_lt_of_le, mul_assoc, mul-div_cancel, mul-lt-mul_of_pos_right}

-- digits

record Digits (n : ℕ) : Type 0 where
  ds : List ℕ
  all : AllDigits 10 ds
  some : 0 < length ds
  first : 0 < n → 48 < get_or ds 0 0
  alone : n < 10 → length ds ≡ 1
  is : digits_value 10 ds ≡ n

value_of_digit : (n : ℕ) → n < 10 → digit_value (48 + n) ≡ n
value_of_digit n h = grind (arith, nat_tests)

first_stays : (ds : List ℕ) (c : ℕ) → 0 < length ds → get_or (ds ++ c ∷ []) 0 0 ≡ get_or ds 0 0
first_stays [] c h = absurd (omega arith)
first_stays (d ∷ ds) c h = refl

digits_by : (turns n : ℕ) → n ≤ turns → Digits n
digits_by zero n le = record { ds = 48 ∷ []; all = (omega arith, tt); some = omega arith; first = λ h. omega arith; alone = λ h. refl; is = omega arith }
digits_by (suc turns) n le = elim (cases_lt n 10) [
  | inl small ↦ record {
    ds = (48 + n) ∷ [];
    all = (omega (arith, value_of_digit n small), tt);
    some = omega arith;
    first = λ h. omega arith;
    alone = λ h. refl;
    is = omega (arith, value_of_digit n small);
  }
  | inr big ↦
      let d = digits_by turns (n / 10) (omega arith) in
      let last = value_of_digit (n % 10) (omega arith) in
      record {
        ds = d.ds ++ (48 + n % 10) ∷ [];
        all = digits_push 10 d.ds (48 + n % 10) d.all (omega (arith, last));
        some = omega (arith, length-append d.ds ((48 + n % 10) ∷ []));
        first = λ h. omega (arith, first_stays d.ds (48 + n % 10) d.some, d.first (omega arith));
        alone = λ h. omega arith;
        is = omega (arith, digits_value_push 10 d.ds (48 + n % 10), last, d.is);
      }
]

-- the numeral of these digits and the exponent -1074
abbrev parts_of : List ℕ → Parts
parts_of ds = record { whole = ds; point = false; fraction = []; exponent_negative = true; exponent = codes "1074"; len = length (ds ++ codes "e-1074") }

plain : (n : ℕ) (d : Digits n) → IsPlain (parts_of d.ds)
plain n d = record {
  well_formed = record {
    whole_digits = d.all;
    fraction_digits = tt;
    exponent_digits = (omega arith, (omega arith, (omega arith, (omega arith, tt))));
    no_point = λ _. refl;
    no_exponent = λ e. absurd (omega (arith, ap {B = ℕ} length e));
    len_is = refl;
  };
  whole = d.some;
  no_leading_zero = λ e. elim (cases_lt 0 n) [ inl some ↦ absurd (omega (arith, e, d.first some)) | inr none ↦ d.alone (omega arith) ];
  fraction = λ e. absurd (cc);
  marked = λ _. omega arith;
}

-- values

ten_pos : (k : ℕ) → 0 < 10 ^ k
ten_pos zero = omega arith
ten_pos (suc k) =
    let one : suc k ≡ 1 + k = omega arith in
    omega (arith, ap (λ (n : ℕ). 10 ^ n) one, pow-add 10 1 k, ten_pos k)

same_size : (f : Format) (s : Bool) (u k : ℕ) → round f s (u * 5 ^ k * 10 ^ 0) (10 ^ k) ≡ round f s u (2 ^ k)
same_size f s u k =
    let ten : 10 ^ k ≡ 5 ^ k * 2 ^ k = mul-pow 5 2 k in
    let one : u * 5 ^ k * 10 ^ 0 ≡ u * 5 ^ k = omega arith in
    round_same f s (u * 5 ^ k * 10 ^ 0) (10 ^ k) u (2 ^ k) (ten_pos k) (pow_pos k)
    (ap (λ (n : ℕ). n * 2 ^ k) one ∙ mul_assoc u (5 ^ k) (2 ^ k) ∙ ap (λ (n : ℕ). u * n) (sym ten))

-- the bits of a multiple of the smallest value
abbrev counted_bits : Format → Bool → ℕ → ℕ
counted_bits f s n = cond s (top f) 0 + (size n - prec f) * hid f + n / 2 ^ (size n - prec f)

bits_are : (f : Format) (x : Float) (s : Bool) (n : ℕ) → HasValue x s n (2 ^ low f) → to_bits f x ≡ counted_bits f s n
unfolding to_bits
bits_are f nan s n h = absurd h
bits_are f (inf t) s n h = absurd h
bits_are f (fin t m e) s n (sign, size_is) =
    let count : m * up e * 2 ^ low f / down e ≡ n = ap (λ (k : ℕ). k / down e) size_is ∙ mul-div_cancel n (down_pos e) in
    ap (counted_bits f t) count ∙ ap (λ (r : Bool). counted_bits f r n) sign

same_count : (f : Format) (x y : Float) (s : Bool) (n : ℕ) → T (fits f x) → T (fits f y) → HasValue x s n (2 ^ low f) → HasValue y s n (2 ^ low f) → x ≡ y
same_count f x y s n p q v w = sym (of_bits-to_bits f x p) ∙ ap (of_bits f) (bits_are f x s n v ∙ sym (bits_are f y s n w)) ∙ of_bits-to_bits f y q

-- a value that is a multiple of the smallest one
record IsCounted (f : Format) (s : Bool) (m : ℕ) (e : ℤ) : Type 0 where
  count : ℕ
  is : fin s m e ≡ round f s count (2 ^ low f)

counted : (f : Format) (s : Bool) (m : ℕ) (e : ℤ) (j : ℕ) → T (fits f (fin s m e)) → m < 2 ^ prec f → m * 2 ^ j < 2 ^ (low f + suc (emax f))
    → m * up e * 2 ^ low f ≡ m * 2 ^ j * down e → IsCounted f s m e
counted f s m e j t small fine same = record {
  count = m * 2 ^ j;
  is = same_count f (fin s m e) (round f s (m * 2 ^ j) (2 ^ low f)) s (m * 2 ^ j) t (round-fits f s (m * 2 ^ j) (2 ^ low f)) (refl, same)
      (round_exact f s (m * 2 ^ j) (2 ^ low f) m j (pow_pos (low f)) small fine refl);
}

counted_any : (f : Format) (s : Bool) (m : ℕ) (e : ℤ) → T (fits f (fin s m e)) → IsCounted f s m e
unfolding fits
counted_any f s zero e t = counted f s zero e 0 t (pow_pos (prec f)) (omega (arith, pow_pos (low f + suc (emax f)))) (omega arith)
counted_any f s (suc m) (pos k) t =
    let B = ltb (suc m) (2 ^ prec f) in
    let C = leb (down (pos k)) (2 ^ low f) in
    let D = ltb (suc m * up (pos k)) (2 ^ suc (emax f) * down (pos k)) in
    let A = eqb (suc m % 2) 1 in
    let small : suc m < 2 ^ prec f = ltb→lt _ _ (and_r A B (and_l (A && B) C (and_l (A && B && C) D t))) in
    let l : suc m * 2 ^ k < 2 ^ suc (emax f) * 1 = ltb→lt _ _ (and_r (A && B && C) D t) in
    let g : suc m * 2 ^ k * 2 ^ low f < 2 ^ suc (emax f) * 1 * 2 ^ low f = mul-lt-mul_of_pos_right l (pow_pos (low f)) in
    let scaled : suc m * 2 ^ k * 2 ^ low f ≡ suc m * 2 ^ (k + low f) = mul_assoc (suc m) (2 ^ k) (2 ^ low f) ∙ ap (λ (z : ℕ). suc m * z) (sym (pow-add 2 k (low f))) in
    counted f s (suc m) (pos k) (k + low f) t small (omega (arith, g, scaled, pow-add 2 (low f) (suc (emax f)))) (omega (arith, scaled))
counted_any f s (suc m) (negsuc k) t =
    let B = ltb (suc m) (2 ^ prec f) in
    let C = leb (down (negsuc k)) (2 ^ low f) in
    let D = ltb (suc m * up (negsuc k)) (2 ^ suc (emax f) * down (negsuc k)) in
    let A = eqb (suc m % 2) 1 in
    let small : suc m < 2 ^ prec f = ltb→lt _ _ (and_r A B (and_l (A && B) C (and_l (A && B && C) D t))) in
    let low_le : 2 ^ suc k ≤ 2 ^ low f = leb→le _ _ (and_r (A && B) C (and_l (A && B && C) D t)) in
    let le : suc k ≤ low f = elim (cases_lt (low f) (suc k)) [ inl lt ↦ absurd (omega (arith, low_le, pow-lt lt)) | inr ge ↦ ge ] in
    let j = low f - suc k in
    let whole : 2 ^ low f ≡ 2 ^ j * 2 ^ suc k = ap (λ (n : ℕ). 2 ^ n) (omega (arith, le)) ∙ pow-add 2 j (suc k) in
    let same : suc m * 1 * 2 ^ low f ≡ suc m * 2 ^ j * 2 ^ suc k = ap (λ (n : ℕ). suc m * 1 * n) whole ∙ ap (λ (n : ℕ). n * (2 ^ j * 2 ^ suc k)) (omega arith)
    ∙ sym (mul_assoc (suc m) (2 ^ j) (2 ^ suc k)) in
    counted f s (suc m) (negsuc k) j t small (lt_of_lt_of_le (shl_lt (prec f) j small) (pow_mono (omega (arith, reach f)))) same

-- texts

read_as : (f : Format) (s : Bool) (u k : ℕ) (d : Digits (u * 5 ^ k)) → round f s (digits_value 10 (d.ds ++ []) * 10 ^ 0) (10 ^ k) ≡ round f s u (2 ^ k)
read_as f s u k d = ap (λ (n : ℕ). round f s (n * 10 ^ 0) (10 ^ k)) (ap (digits_value 10) (append-nil d.ds) ∙ d.is) ∙ same_size f s u k

pub double_has : (x : Float) → T (fits binary64 x) → (text : List ℕ) × IsDoubleText x text
double_has nan t = (codes "NaN", refl)
double_has (inf negative) t = (sign_text negative ++ codes "Infinity", refl)
double_has (fin s m e) t =
    let c = counted_any binary64 s m e t in
    let n = c.count * 5 ^ 1074 in
    let d = digits_by n n (omega arith) in
    let p = parts_of d.ds in
    let read : nearest_float binary64 s p ≡ fin s m e = read_as binary64 s c.count 1074 d ∙ sym c.is in
    (sign_text s ++ text_of p, ((s, p, refl, plain n d), parse_float-text_of binary64 s p (plain n d).well_formed d.some ∙ ap Some read))

pub bits_have : (bits : ℕ) → (text : List ℕ) × IsDoubleText (from_bits binary64 bits) text
bits_have bits = double_has (from_bits binary64 bits) (of_bits-fits binary64 bits)
