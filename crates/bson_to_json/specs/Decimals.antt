-- Decimal128 as text: IEEE 754-2008, binary integer decimal, and its conversion to a scientific string.
use Rattle.std.specs.Prelude.{ℕ, ◌+◌, ◌-◌, ◌*◌, ◌/◌, ◌%◌, ◌^◌, ◌==◌, ◌||◌, nat_lt, nat_le, List, [], ◌∷◌, ◌++◌, length, take, drop, replicate, codes, decimal, if◌then◌else◌}
use Rattle.std.specs.Fmt.{sign_text}
use Rattle.std.specs.Int.{w64, from_le_bytes}
use Rattle.bson_to_json.specs.declared.decimals.Decimal.{Decimal}
use Rattle.bson_to_json.specs.declared.decimals.Decimal.TheVariants.{NaN, Infinity, Finite}

-- a coefficient of more than 34 digits is 0
abbrev pub coefficient_of : ℕ → ℕ
coefficient_of n = if nat_lt n (10 ^ 34) then n else 0

-- the five bits after the sign
abbrev pub combination : ℕ → ℕ
combination high = high / 2 ^ 58 % 32

-- The number with these low and high 64 bits: whether it is negative, its coefficient, and its exponent plus 6176. If the combination
-- begins with 11, the coefficient is greater than the greatest, and so is 0.
abbrev pub decimal_of : ℕ → ℕ → Decimal
decimal_of low high =
    if combination high == 31 then NaN
    else if combination high == 30 then Infinity (nat_le (2 ^ 63) high)
    else if high / 2 ^ 61 % 4 == 3 then Finite (nat_le (2 ^ 63) high) 0 (high / 2 ^ 47 % 2 ^ 14)
    else Finite (nat_le (2 ^ 63) high) (coefficient_of (high % 2 ^ 49 * 2 ^ 64 + low)) (high / 2 ^ 49 % 2 ^ 14)

-- the digits after the first one, after a point
abbrev pub behind_point : List ℕ → List ℕ
behind_point [] = []
behind_point (d ∷ ds) = 46 ∷ d ∷ ds

-- the exponent, with its sign, where `reach` is 6177 more than it
abbrev pub exponent_text : ℕ → List ℕ
exponent_text reach = if nat_lt 6176 reach then codes "E+" ++ decimal (reach - 6177) else codes "E-" ++ decimal (6177 - reach)

-- digits with an exponent, one digit before the point
abbrev pub scientific_text : List ℕ → ℕ → List ℕ
scientific_text digits exponent = take 1 digits ++ (behind_point (drop 1 digits) ++ exponent_text (exponent + length digits))

-- digits with a point before the last `places` of them
abbrev pub plain_text : List ℕ → ℕ → List ℕ
plain_text digits places =
    if places == 0 then digits
    else if nat_lt places (length digits) then take (length digits - places) digits ++ (46 ∷ drop (length digits - places) digits)
    else codes "0." ++ (replicate (places - length digits) 48 ++ digits)

-- The digits times 10 to the power of the exponent less 6176. They are written with an exponent if that is positive, or if more than five
-- zeros would be between the point and the digits.
abbrev pub finite_text : List ℕ → ℕ → List ℕ
finite_text digits exponent =
    if nat_lt 6176 exponent || nat_lt (exponent + length digits + 5) 6176 then scientific_text digits exponent
    else plain_text digits (6176 - exponent)

-- the text of a value of a Decimal128
abbrev pub decimal_text : Decimal → List ℕ
decimal_text NaN = codes "NaN"
decimal_text (Infinity negative) = sign_text negative ++ codes "Infinity"
decimal_text (Finite negative coefficient exponent) = sign_text negative ++ finite_text (decimal coefficient) exponent

-- the text of a Decimal128 by its sixteen bytes, least significant byte first
abbrev pub decimal128_text : List ℕ → List ℕ
decimal128_text bytes = decimal_text (decimal_of (from_le_bytes w64 (take 8 bytes)) (from_le_bytes w64 (drop 8 bytes)))
