-- The text of an integer writes no other, and is in a JSON string as it is.
use Rattle.std.proofs.Common.{◌≡◌, ◌<◌, ◌^◌, ◌==◌, ℕ, ℤ, pos, negsuc, neg_ℤ, suc, Bool, true, false, cond, List, [], ◌∷◌, codes, decimal, FitsSigned, inl, inr, refl, sym, ap, subst, ◌∙◌, arith}
use Rattle.std.specs.Fmt.{signed_decimal}
use Rattle.std.specs.Int.{w32, w64}
use Rattle.std.specs.Str.Parse.{AllDigits, IsNumeral, digits_value, signed_digits_value, starts_with_minus, without_leading_sign}
use Rattle.std.proofs.lemmas.Bool.{ne_eqb}
use Rattle.std.proofs.lemmas.Str.Parse.{digit_from_value}
use lib.Signed.{mag}
use Rattle.std.proofs.lemmas.Fmt.{decimal_is_IsNumeral, signed_decimal_injective}
use Rattle.json.specs.Json.{Json, object, string, number, member}
use Rattle.bson_model.specs.Leaf.{Leaf, date_time, int32, int64, timestamp}
use Rattle.bson_from_json.specs.Numbers.{IsQuotedInt32, IsQuotedInt64, WritesInteger, WritesQuotedInteger}
use Rattle.bson_from_json.specs.Wrapped.{IsDate, IsTimestamp, WritesUnsigned, one_member}
use Rattle.values_from_json.proofs.Face.{no_minus_0}
use Rattle.json_round_trip.proofs.leaves.Plain.{are_plain, plain_digits}
use Rattle.json_round_trip.proofs.leaves.Shapes.{same_number, two_only}
use Rattle.json_round_trip.proofs.leaves.Dense.{dense_start, digits_dense}

pub small_32 : (z : ℤ) → FitsSigned w32 z → mag z < 2 ^ 63
small_32 z fits = omega (arith, fits.sfits)

pub small_64 : (z : ℤ) → FitsSigned w64 z → mag z < 2 ^ 63
small_64 z fits = fits.sfits

pub integer_plain : (z : ℤ) → mag z < 2 ^ 63 → are_plain (signed_decimal z) ≡ true
integer_plain (pos n) h = plain_digits (decimal n) (decimal_is_IsNumeral n (omega arith)).0.1
integer_plain (negsuc n) h = plain_digits (decimal (suc n)) (decimal_is_IsNumeral (suc n) (omega arith)).0.1

pub one_integer : (z y : ℤ) → mag z < 2 ^ 63 → mag y < 2 ^ 63 → WritesInteger (signed_decimal z) y → y ≡ z
one_integer z y h k (inl is) = sym (signed_decimal_injective z y h k is)
one_integer z y h k (inr is) = absurd (no_minus_0 z h is.0)

-- the text is digits after a sign, whose value is this
abbrev Writes : List ℕ → ℤ → Type 0
Writes s z = IsNumeral 10 (without_leading_sign s) × (z ≡ signed_digits_value 10 s)

no_sign : (ds : List ℕ) → AllDigits 10 ds → (starts_with_minus ds ≡ false) × (without_leading_sign ds ≡ ds)
no_sign [] h = (refl, refl)
no_sign (d ∷ ds) h =
    let r = digit_from_value d h.0 in
    let minus : (d == 45) ≡ false = ne_eqb d 45 (λ e. omega (arith, r.0, e)) in
    let plus : (d == 43) ≡ false = ne_eqb d 43 (λ e. omega (arith, r.0, e)) in
    (minus, rw (minus, plus) refl)

other : (b : Bool) (x y : ℤ) → b ≡ false → cond b x y ≡ y
other true x y h = cc
other false x y h = refl

digits_write : (ds : List ℕ) (n : ℕ) → IsNumeral 10 ds → digits_value 10 ds ≡ n → Writes ds (pos n)
digits_write ds n numeral is =
    let none = no_sign ds numeral.1 in
    let value : pos n ≡ pos (digits_value 10 (without_leading_sign ds)) = ap pos (sym is ∙ ap (digits_value 10) (sym none.1)) in
    (subst (IsNumeral 10) (sym none.1) numeral, value ∙ sym (other (starts_with_minus ds) _ _ none.0))

-- the text of an integer is read as it
pub quoted_written : (z : ℤ) → mag z < 2 ^ 63 → WritesQuotedInteger (signed_decimal z) z
quoted_written (pos n) h =
    let is = decimal_is_IsNumeral n (omega arith) in
    subst (λ (s : List ℕ). Writes s (pos n)) (sym (dense_start (decimal n) (digits_dense (decimal n) is.0.1))) (digits_write (decimal n) n is.0 is.1)
quoted_written (negsuc n) h =
    let is = decimal_is_IsNumeral (suc n) (omega arith) in
    (is.0, ap (λ (k : ℕ). neg_ℤ (pos k)) (sym is.1))

-- and as no other
one_quoted : (z y : ℤ) → mag z < 2 ^ 63 → WritesQuotedInteger (signed_decimal z) y → y ≡ z
one_quoted z y h w = w.1 ∙ sym (quoted_written z h).1

pub one_int32 : (z : ℤ) → FitsSigned w32 z → (l : Leaf) → IsQuotedInt32 (signed_decimal z) l → l ≡ int32 z
one_int32 z fits l (y, w, also, is) = is ∙ ap int32 (one_quoted z y (small_32 z fits) w)

pub one_int64 : (z : ℤ) → FitsSigned w64 z → (l : Leaf) → IsQuotedInt64 (signed_decimal z) l → l ≡ int64 z
one_int64 z fits l (y, w, also, is) = is ∙ ap int64 (one_quoted z y (small_64 z fits) w)

abbrev pub long_object : List ℕ → Json
long_object s = object (one_member (codes "$numberLong") (string s))

pub is_date : (z : ℤ) → FitsSigned w64 z → IsDate (long_object (signed_decimal z)) (date_time z)
is_date z fits = (z, (signed_decimal z, refl, quoted_written z (small_64 z fits)), fits, refl)

text_of_one : (key s t : List ℕ) → one_member key (string s) ≡ one_member key (string t) → t ≡ s
text_of_one key s t e = cc

pub one_date : (z : ℤ) → FitsSigned w64 z → (l : Leaf) → IsDate (long_object (signed_decimal z)) l → l ≡ date_time z
one_date z fits l (y, (s, is, w), also, e) =
    let same : s ≡ signed_decimal z = text_of_one (codes "$numberLong") (signed_decimal z) s is in
    e ∙ ap date_time (one_quoted z y (small_64 z fits) (subst (λ (x : List ℕ). WritesQuotedInteger x y) same w))

abbrev pub pair_object : ℕ → ℕ → Json
pair_object time increment = object (member (codes "t") (number (decimal time)) (one_member (codes "i") (number (decimal increment))))

pub is_timestamp : (time increment : ℕ) → time < 2 ^ 32 → increment < 2 ^ 32 → IsTimestamp (pair_object time increment) (timestamp time increment)
is_timestamp time increment h k = (decimal time, decimal increment, time, increment, inl refl, (inl refl, h), (inl refl, k), refl)

one_unsigned : (n m : ℕ) (s : List ℕ) → n < 2 ^ 32 → s ≡ decimal n → WritesUnsigned s m → m ≡ n
one_unsigned n m s h is (w, k) =
    let same : pos m ≡ pos n = one_integer (pos n) (pos m) (omega arith) (omega arith) (subst (λ (x : List ℕ). WritesInteger x (pos m)) is w) in cc

pub one_timestamp : (time increment : ℕ) → time < 2 ^ 32 → increment < 2 ^ 32 → (l : Leaf) → IsTimestamp (pair_object time increment) l → l ≡ timestamp time increment
one_timestamp time increment h k l (t, i, x, y, two, wx, wy, is) =
    let both = two_only (codes "t") (codes "i") 0 (λ e. omega (arith, e)) two in
    is ∙ ap (λ (n : ℕ). timestamp n y) (one_unsigned time x t h (same_number both.0) wx) ∙ ap (timestamp time) (one_unsigned increment y i k (same_number both.1) wy)
