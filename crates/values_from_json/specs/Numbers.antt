-- Numbers, by the "Special rules for parsing JSON numbers" of Extended JSON v2. A number without a fraction and an exponent has the
-- smallest BSON integer type that holds it; every other number is a Double. An integer of more than 64 bits has no meaning.
use Rattle.std.specs.Prelude.{◌≡◌, ◌⊎◌, ◌==◌, ◌||◌, ◌+◌, ◌^◌, Bool, ℕ, ℤ, pos, true, List, Some, codes, Float, to_bits, FitsSigned, if◌then◌else◌}
use Rattle.std.specs.List.{list_any}
use Rattle.std.specs.Int.{w32, w64}
use Rattle.std.specs.Fmt.{signed_decimal}
use Rattle.std.specs.Float.{binary64, float_is_finite}
use Rattle.std.specs.Float.Parse.{without_sign}
use Rattle.std.specs.Str.Parse.{IsNumeral, signed_digits_value, starts_with_minus, without_leading_sign}
use Rattle.fast_float.specs.Parse.{parse_float}
use Rattle.json.specs.Print.{IsNumber}
use Rattle.bson_model.specs.Leaf.{Leaf, double, int32, int64}
use Rattle.values_from_json.specs.DecimalTexts.{IsWord}
use Rattle.values_from_json.specs.Spaces.{trimmed, trimmed_start}

-- The text writes the integer: a minus if it is negative, then its digits, without leading zeros. 0 may have a minus.
abbrev pub WritesInteger : List ℕ → ℤ → Type 0
WritesInteger s z = (s ≡ signed_decimal z) ⊎ ((s ≡ codes "-0") × (z ≡ pos 0))

-- The text is a number: perhaps a sign, then digits, perhaps a point among them, and perhaps an exponent. These are the 64 bits of the
-- double nearest to it, which is finite.
abbrev pub WritesNearest : List ℕ → ℕ → Type 0
WritesNearest s bits = (x : Float) × (parse_float binary64 s ≡ Some x) × (float_is_finite x ≡ true) × (bits ≡ to_bits binary64 x)

-- the same of a JSON number
abbrev pub WritesFinite : List ℕ → ℕ → Type 0
WritesFinite s bits = IsNumber s × WritesNearest s bits

-- whether a JSON number has a fraction or an exponent: a point, e or E
abbrev pub is_fractional : List ℕ → Bool
is_fractional s = list_any (λ b. (b == 46) || (b == 101) || (b == 69)) s

-- a number without a wrapper: Int32, otherwise Int64; with a fraction or an exponent a Double
abbrev pub IsPlain : List ℕ → Leaf → Type 0
IsPlain s l =
    ((z : ℤ) × WritesInteger s z × FitsSigned w32 z × (l ≡ int32 z))
    ⊎ ((z : ℤ) × WritesInteger s z × ¬ FitsSigned w32 z × FitsSigned w64 z × (l ≡ int64 z))
    ⊎ ((is_fractional s ≡ true) × ((bits : ℕ) × WritesFinite s bits × (l ≡ double bits)))

-- In quotes an integer is decimal digits, perhaps after a sign, and perhaps after white space. "with no leading zeros" is said of what is
-- written; other programs read 007 and +7, too.
abbrev pub WritesQuotedInteger : List ℕ → ℤ → Type 0
WritesQuotedInteger s z = IsNumeral 10 (without_leading_sign (trimmed_start s)) × (z ≡ signed_digits_value 10 (trimmed_start s))

-- {"$numberInt": <32-bit signed integer as a string>}
abbrev pub IsQuotedInt32 : List ℕ → Leaf → Type 0
IsQuotedInt32 s l = (z : ℤ) × WritesQuotedInteger s z × FitsSigned w32 z × (l ≡ int32 z)

-- {"$numberLong": <64-bit signed integer as a string>}
abbrev pub IsQuotedInt64 : List ℕ → Leaf → Type 0
IsQuotedInt64 s l = (z : ℤ) × WritesQuotedInteger s z × FitsSigned w64 z × (l ≡ int64 z)

-- the bit of the sign of a text
abbrev pub sign_bits : List ℕ → ℕ
sign_bits s = if starts_with_minus s then 2 ^ 63 else 0

-- the bits of the doubles that are no numbers; NaN is the default one
abbrev pub infinity_bits : ℕ
infinity_bits = 0x7FF0_0000_0000_0000

-- the bits of NaN
abbrev pub nan_bits : ℕ
nan_bits = 0x7FF8_0000_0000_0000

-- the text writes the double with these bits: a number, or perhaps a sign and then a word, in upper or lower case
abbrev pub WritesDouble : List ℕ → ℕ → Type 0
WritesDouble s bits =
    ((IsWord (codes "infinity") (without_sign s) ⊎ IsWord (codes "inf") (without_sign s)) × (bits ≡ sign_bits s + infinity_bits))
    ⊎ (IsWord (codes "nan") (without_sign s) × (bits ≡ sign_bits s + nan_bits))
    ⊎ WritesNearest s bits

-- {"$numberDouble": <64-bit signed floating point as a decimal string>}, or one of "Infinity", "-Infinity", "NaN". Around it may be white
-- space; other programs read that, +1, 1. and .5, and inf, too.
abbrev pub IsQuotedDouble : List ℕ → Leaf → Type 0
IsQuotedDouble s l = (bits : ℕ) × WritesDouble (trimmed s) bits × (l ≡ double bits)
