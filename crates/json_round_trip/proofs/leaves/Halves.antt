-- The sixteen bytes of a Decimal128 as two numbers of 64 bits, and what these say.
use Rattle.std.proofs.Common.{◌≡◌, ◌+◌, ◌*◌, ◌/◌, ◌%◌, ◌^◌, ◌<◌, ◌≤◌, nat_le, ℕ, Bool, true, false, List, [], ◌∷◌, ◌++◌, take, drop, codes, decimal, refl, sym, ap, ap₂, ◌∙◌, arith}
use Rattle.std.specs.Fmt.{sign_text}
use Rattle.std.specs.Int.{w64, w128, from_le_bytes, to_le_bytes}
use Rattle.std.proofs.lemmas.Nat.{from_le_bytes-to_le_bytes_8}
use Rattle.std.proofs.lemmas.Bool.{le-leb, lt-leb, lt-ltb, ne_eqb}
use Rattle.std.proofs.Math.Nat.{div-div-eq-div-mul}
use Rattle.bson_to_json.specs.Decimals.{decimal_of, decimal_text, decimal128_text, finite_text}
use Rattle.bson_from_json.specs.DecimalTexts.{sign_bit}

eight : {a b c d e f g h p q r s t u v w : ℕ} → a ≡ p → b ≡ q → c ≡ r → d ≡ s → (e ∷ f ∷ g ∷ h ∷ []) ≡ (t ∷ u ∷ v ∷ w ∷ [])
    → (a ∷ b ∷ c ∷ d ∷ e ∷ f ∷ g ∷ h ∷ []) ≡ (p ∷ q ∷ r ∷ s ∷ t ∷ u ∷ v ∷ w ∷ [])
eight e f g h rest = cc

four : {e f g h t u v w : ℕ} → e ≡ t → f ≡ u → g ≡ v → h ≡ w → (e ∷ f ∷ g ∷ h ∷ []) ≡ (t ∷ u ∷ v ∷ w ∷ [])
four e f g h = cc

low_of : (n : ℕ) → take 8 (to_le_bytes w128 n) ≡ to_le_bytes w64 (n % 2 ^ 64)
low_of n = eight (omega arith) (omega arith) (omega arith) (omega arith) (four (omega arith) (omega arith) (omega arith) (omega arith))

high_byte : (n p : ℕ) → n / (2 ^ 64 * p) % 256 ≡ n / 2 ^ 64 / p % 256
high_byte n p = ap (λ (x : ℕ). x % 256) (sym (div-div-eq-div-mul n (2 ^ 64) p))

high_of : (n : ℕ) → drop 8 (to_le_bytes w128 n) ≡ to_le_bytes w64 (n / 2 ^ 64)
high_of n =
    eight refl (high_byte n 256) (high_byte n 65536) (high_byte n 16777216)
    (four (high_byte n 4294967296) (high_byte n 1099511627776) (high_byte n 281474976710656) (high_byte n 72057594037927936))

of_low : (n : ℕ) → from_le_bytes w64 (take 8 (to_le_bytes w128 n)) ≡ n % 2 ^ 64
of_low n = ap (from_le_bytes w64) (low_of n) ∙ from_le_bytes-to_le_bytes_8 (n % 2 ^ 64) (omega arith)

of_high : (n : ℕ) → n < 2 ^ 128 → from_le_bytes w64 (drop 8 (to_le_bytes w128 n)) ≡ n / 2 ^ 64
of_high n h = ap (from_le_bytes w64) (high_of n) ∙ from_le_bytes-to_le_bytes_8 (n / 2 ^ 64) (omega arith)

-- the text of the bytes is that of the number of their halves
text_of_halves : (n : ℕ) (t : List ℕ) → n < 2 ^ 128 → decimal_text (decimal_of (n % 2 ^ 64) (n / 2 ^ 64)) ≡ t → decimal128_text (to_le_bytes w128 n) ≡ t
text_of_halves n t h is = ap₂ (λ (low high : ℕ). decimal_text (decimal_of low high)) (of_low n) (of_high n h) ∙ is

module _ (s c e bits : ℕ) (sign : s ≤ 1) (few : c < 10 ^ 34) (within : e ≤ 12287) (is : bits ≡ s * 2 ^ 127 + e * 2 ^ 113 + c) where
  high_is : bits / 2 ^ 64 ≡ s * 2 ^ 63 + e * 2 ^ 49 + c / 2 ^ 64
  high_is = omega arith

  top_small : c / 2 ^ 64 < 2 ^ 49
  top_small = omega arith

  combination_is : bits / 2 ^ 64 / 2 ^ 58 % 32 ≤ 23
  combination_is = let h = high_is in let t = top_small in omega arith

  form_is : bits / 2 ^ 64 / 2 ^ 61 % 4 ≤ 2
  form_is = let h = high_is in let t = top_small in omega arith

  exponent_is : bits / 2 ^ 64 / 2 ^ 49 % 2 ^ 14 ≡ e
  exponent_is = let h = high_is in let t = top_small in omega arith

  coefficient_is : bits / 2 ^ 64 % 2 ^ 49 * 2 ^ 64 + bits % 2 ^ 64 ≡ c
  coefficient_is = let h = high_is in let t = top_small in omega arith

  finite_by : (negative : Bool) → nat_le (2 ^ 63) (bits / 2 ^ 64) ≡ negative → decimal_text (decimal_of (bits % 2 ^ 64) (bits / 2 ^ 64)) ≡ sign_text negative ++ finite_text (decimal c) e
  finite_by negative sign_is =
      let not_31 = ne_eqb (bits / 2 ^ 64 / 2 ^ 58 % 32) 31 (λ x. let h = combination_is in omega arith) in
      let not_30 = ne_eqb (bits / 2 ^ 64 / 2 ^ 58 % 32) 30 (λ x. let h = combination_is in omega arith) in
      let not_3 = ne_eqb (bits / 2 ^ 64 / 2 ^ 61 % 4) 3 (λ x. let h = form_is in omega arith) in
      rw (not_31, not_30, not_3, sign_is, coefficient_is, exponent_is, lt-ltb c (10 ^ 34) few) refl

abbrev pub finite_bits : Bool → ℕ → ℕ → ℕ
finite_bits negative c e = sign_bit negative + e * 2 ^ 113 + c

finite_is : (negative : Bool) (c e : ℕ) → c < 10 ^ 34 → e ≤ 12287
    → decimal_text (decimal_of (finite_bits negative c e % 2 ^ 64) (finite_bits negative c e / 2 ^ 64)) ≡ sign_text negative ++ finite_text (decimal c) e
finite_is true c e few within =
    let is : finite_bits true c e ≡ 1 * 2 ^ 127 + e * 2 ^ 113 + c = omega arith in
    finite_by 1 c e (finite_bits true c e) (omega arith) few within is true (le-leb (2 ^ 63) _ (let h = high_is 1 c e (finite_bits true c e) (omega arith) few within is in omega arith))
finite_is false c e few within =
    let is : finite_bits false c e ≡ 0 * 2 ^ 127 + e * 2 ^ 113 + c = omega arith in
    let h = high_is 0 c e (finite_bits false c e) (omega arith) few within is in
    let t = top_small 0 c e (finite_bits false c e) (omega arith) few within is in
    finite_by 0 c e (finite_bits false c e) (omega arith) few within is false (lt-leb (2 ^ 63) _ (omega arith))

finite_small : (negative : Bool) (c e : ℕ) → c < 10 ^ 34 → e ≤ 12287 → finite_bits negative c e < 2 ^ 128
finite_small true c e few within = omega arith
finite_small false c e few within = omega arith

pub finite_text_is : (negative : Bool) (c e : ℕ) → c < 10 ^ 34 → e ≤ 12287 → decimal128_text (to_le_bytes w128 (finite_bits negative c e)) ≡ sign_text negative ++ finite_text (decimal c) e
finite_text_is negative c e few within =
    text_of_halves (finite_bits negative c e) (sign_text negative ++ finite_text (decimal c) e) (finite_small negative c e few within) (finite_is negative c e few within)

pub infinity_text_is : (negative : Bool) → decimal128_text (to_le_bytes w128 (sign_bit negative + 0x7800 * 2 ^ 112)) ≡ sign_text negative ++ codes "Infinity"
infinity_text_is true = refl
infinity_text_is false = refl

pub nan_text_is : decimal128_text (to_le_bytes w128 (0x7C00 * 2 ^ 112)) ≡ codes "NaN"
nan_text_is = refl
