-- The greatest length of the text of a Decimal128.
use Rattle.bson_to_json.proofs.Common.{Decimal, Finite, Infinity, NaN, coefficient_of, combination, decimal128_text, decimal_of, decimal_text, eqb-false, eqb-true, exponent_text, finite_text, from_le_bytes, length-append, length-decimal-le_wide, length-drop, length-replicate, length-take-le, nat_tests, plain_text, scientific_text, sign_text, w64}
use Rattle.std.proofs.Common.{◌≡◌, ℕ, ◌+◌, ◌-◌, ◌*◌, ◌/◌, ◌%◌, ◌^◌, ◌<◌, ◌≤◌, ◌||◌, Bool, true, false, cond, nat_eq, nat_lt, nat_le, List, [], ◌∷◌, ◌++◌, length, take, drop, replicate, codes, decimal, refl, sym, ap, ◌∙◌, arith, lit<}
use Rattle.std.proofs.Math.Nat.{div-div-eq-div-mul}

either_short : (b : Bool) (x y : List ℕ) (n : ℕ) → (b ≡ true → length x ≤ n) → (b ≡ false → length y ≤ n) → length (cond b x y) ≤ n
either_short true x y n h k = h refl
either_short false x y n h k = k refl

either_decimal : (b : Bool) (x y : Decimal) → (b ≡ true → length (decimal_text x) ≤ 42) → (b ≡ false → length (decimal_text y) ≤ 42) → length (decimal_text (cond b x y)) ≤ 42
either_decimal true x y h k = h refl
either_decimal false x y h k = k refl

four_digits_most : (n : ℕ) → n < 10000 → length (decimal n) ≤ 4
four_digits_most n h = length-decimal-le_wide 4 n (omega arith) (omega (arith, h)) (omega (arith, h))

exponent_short : (reach : ℕ) → reach ≤ 12321 → length (exponent_text reach) ≤ 6
exponent_short reach h = either_short (nat_lt 6176 reach) (codes "E+" ++ decimal (reach - 6177)) (codes "E-" ++ decimal (6177 - reach)) 6
    (λ _. omega (arith, four_digits_most (reach - 6177) (omega (arith, h))))
    (λ _. omega (arith, four_digits_most (6177 - reach) (omega arith)))

scientific_short : (digits : List ℕ) (e : ℕ) → length digits ≤ 34 → e < 12288 → length (scientific_text digits e) ≤ 41
scientific_short [] e few h = omega (arith, exponent_short (e + length {A = ℕ} []) (omega (arith, h)))
scientific_short (d ∷ []) e few h = omega (arith, exponent_short (e + length (d ∷ [])) (omega (arith, h)))
scientific_short (d ∷ x ∷ xs) e few h =
    let reach = e + length (d ∷ x ∷ xs) in
    omega (arith, few, length-append xs (exponent_text reach), exponent_short reach (omega (arith, few, h)))

plain_short : (digits : List ℕ) (places : ℕ) → length digits ≤ 34 → places ≤ length digits + 5 → length (plain_text digits places) ≤ 41
plain_short digits places few h =
    let whole = length digits - places in
    either_short (nat_eq places 0) digits (cond (nat_lt places (length digits)) (take whole digits ++ (46 ∷ drop whole digits)) (codes "0." ++ (replicate (places - length digits) 48 ++ digits))) 41
    (λ _. omega (arith, few))
    (λ _. either_short (nat_lt places (length digits)) (take whole digits ++ (46 ∷ drop whole digits)) (codes "0." ++ (replicate (places - length digits) 48 ++ digits)) 41
    (λ _. omega (arith, few, length-append (take whole digits) (46 ∷ drop whole digits), length-take-le whole digits (omega arith), length-drop whole digits))
    (λ _. omega (arith, few, h, length-append (replicate (places - length digits) 48) digits, length-replicate {A = ℕ} (places - length digits) 48)))

near_places : (e n : ℕ) → (nat_lt 6176 e || nat_lt (e + n + 5) 6176) ≡ false → 6176 - e ≤ n + 5
near_places e n h = grind (arith, nat_tests)

finite_short : (digits : List ℕ) (e : ℕ) → length digits ≤ 34 → e < 12288 → length (finite_text digits e) ≤ 41
finite_short digits e few h = either_short (nat_lt 6176 e || nat_lt (e + length digits + 5) 6176) (scientific_text digits e) (plain_text digits (6176 - e)) 41
    (λ _. scientific_short digits e few h)
    (λ near. plain_short digits (6176 - e) few (near_places e (length digits) near))

sign_short : (negative : Bool) → length (sign_text negative) ≤ 1
sign_short true = omega arith
sign_short false = omega arith

number_short : (negative : Bool) (c e : ℕ) → c < 10 ^ 34 → e < 12288 → length (decimal_text (Finite negative c e)) ≤ 42
number_short negative c e few h =
    let digits = length-decimal-le_wide 34 c (omega arith) few (omega (arith, few)) in
    omega (arith, length-append (sign_text negative) (finite_text (decimal c) e), sign_short negative, finite_short (decimal c) e digits h)

infinity_short : (negative : Bool) → length (decimal_text (Infinity negative)) ≤ 42
infinity_short negative = omega (arith, length-append (sign_text negative) (codes "Infinity"), sign_short negative)

coefficient_small : (n : ℕ) → coefficient_of n < 10 ^ 34
coefficient_small n = grind (arith, nat_tests)

-- an exponent whose first two bits aren't both 1
small_exponent : (q : ℕ) → ¬ (q / 4096 % 4 ≡ 3) → q % 16384 < 12288
small_exponent q h = omega (arith, h)

-- an exponent after two bits that are both 1
behind_ones : (q : ℕ) → q / 16384 % 4 ≡ 3 → ¬ (q / 2048 % 32 ≡ 31) → ¬ (q / 2048 % 32 ≡ 30) → q % 16384 < 12288
behind_ones q ones nan infinite = omega (arith, ones, nan, infinite)

plain_exponent : (high : ℕ) → ¬ (high / 2 ^ 61 % 4 ≡ 3) → high / 2 ^ 49 % 2 ^ 14 < 12288
plain_exponent high h =
    let at : high / 2 ^ 49 / 4096 ≡ high / 2 ^ 61 = div-div-eq-div-mul high (2 ^ 49) 4096 in
    small_exponent (high / 2 ^ 49) (λ (e : high / 2 ^ 49 / 4096 % 4 ≡ 3). h (ap (λ (n : ℕ). n % 4) (sym at) ∙ e))

large_exponent : (high : ℕ) → high / 2 ^ 61 % 4 ≡ 3 → ¬ (combination high ≡ 31) → ¬ (combination high ≡ 30) → high / 2 ^ 47 % 2 ^ 14 < 12288
large_exponent high ones nan infinite =
    let two : high / 2 ^ 47 / 16384 ≡ high / 2 ^ 61 = div-div-eq-div-mul high (2 ^ 47) 16384 in
    let five : high / 2 ^ 47 / 2048 ≡ high / 2 ^ 58 = div-div-eq-div-mul high (2 ^ 47) 2048 in
    behind_ones (high / 2 ^ 47) (ap (λ (n : ℕ). n % 4) two ∙ ones)
    (λ (e : high / 2 ^ 47 / 2048 % 32 ≡ 31). nan (ap (λ (n : ℕ). n % 32) (sym five) ∙ e))
    (λ (e : high / 2 ^ 47 / 2048 % 32 ≡ 30). infinite (ap (λ (n : ℕ). n % 32) (sym five) ∙ e))

halves_short : (low high : ℕ) → length (decimal_text (decimal_of low high)) ≤ 42
halves_short low high =
    let negative = nat_le (2 ^ 63) high in
    let large = Finite negative 0 (high / 2 ^ 47 % 2 ^ 14) in
    let small = Finite negative (coefficient_of (high % 2 ^ 49 * 2 ^ 64 + low)) (high / 2 ^ 49 % 2 ^ 14) in
    let finite = cond (nat_eq (high / 2 ^ 61 % 4) 3) large small in
    either_decimal (nat_eq (combination high) 31) NaN (cond (nat_eq (combination high) 30) (Infinity negative) finite) (λ _. omega arith)
    (λ nan. either_decimal (nat_eq (combination high) 30) (Infinity negative) finite (λ _. infinity_short negative)
    (λ infinite. either_decimal (nat_eq (high / 2 ^ 61 % 4) 3) large small
    (λ ones. number_short negative 0 (high / 2 ^ 47 % 2 ^ 14) (lit< tt)
    (large_exponent high (eqb-true (high / 2 ^ 61 % 4) 3 ones) (eqb-false (combination high) 31 nan) (eqb-false (combination high) 30 infinite)))
    (λ plain. number_short negative (coefficient_of (high % 2 ^ 49 * 2 ^ 64 + low)) (high / 2 ^ 49 % 2 ^ 14) (coefficient_small (high % 2 ^ 49 * 2 ^ 64 + low))
    (plain_exponent high (eqb-false (high / 2 ^ 61 % 4) 3 plain)))))

-- the text of a Decimal128
pub decimal128_short : (bytes : List ℕ) → length (decimal128_text bytes) ≤ 42
decimal128_short bytes = halves_short (from_le_bytes w64 (take 8 bytes)) (from_le_bytes w64 (drop 8 bytes))
