-- The text of a value that holds no others is UTF-8.
use Rattle.bson_to_json.proofs.Common.{AllDigits, Canonical, Decimal, Finite, Float, Infinity, IsAscii, IsAscii-encode_of, IsAscii-from_digits, IsDateJson, IsDoubleJson, IsDoubleText, IsInstantText, IsLeafJson, IsUtf8, IsWrappedDate, IsWrappedDouble, Leaf, NaN, Relaxed, behind_point, binary, boolean, date_time, db_pointer, decimal128, decimal128_text, decimal_of, decimal_text, digit_glyph, digits_onto, double, encode_lower, encode_of, exponent_of, fin, from_le_bytes, inf, int32, int64, javascript_code, lower_digits, max_key, min_key, nan, nat_tests, null, object_id, quoted, regular_expression, second_text, signed_decimal, standard, string, subtype_byte, symbol, three_digits, timestamp, undefined, w64}
use Rattle.std.specs.Fmt.{digits}
use Rattle.std.proofs.Common.{◌≡◌, ◌+◌, ◌-◌, ◌*◌, ◌/◌, ◌%◌, ◌<◌, ◌++◌, [], ◌∷◌, ℕ, ℤ, pos, negsuc, zero, suc, Bool, true, false, cond, List, inl, inr, replicate, take, drop, length, codes, decimal, refl, sym, subst, arith, ◌||◌, nat_lt, nat_eq}
use Rattle.std.proofs.lemmas.Str.{IsAscii-take, IsAscii-drop, IsUtf8-append, IsUtf8-from_ascii, IsUtf8-nil}
use Rattle.std.proofs.lemmas.Str.Ascii.{IsAscii-cons, IsAscii-nil}
use Rattle.hex.proofs.HexLemmas.{IsAscii-encode_with}
use Rattle.json.proofs.Printed.Utf8.{are_ascii, IsUtf8-are_ascii, IsUtf8-quoted}
use Rattle.bson_to_json.specs.declared.style.Format.{Format}

-- texts

-- a text that is UTF-8
pub record Text : Type 0 where
  pub bytes : List ℕ
  pub utf8 : IsUtf8 bytes

-- texts one after another
abbrev pub joined : Text → List Text → List ℕ
joined t [] = t.bytes
joined t (u ∷ us) = t.bytes ++ joined u us

pub joined_utf8 : (t : Text) (us : List Text) → IsUtf8 (joined t us)
joined_utf8 t [] = t.utf8
joined_utf8 t (u ∷ us) = IsUtf8-append t.bytes (joined u us) t.utf8 (joined_utf8 u us)

pub is_joined : (t : Text) (us : List Text) (text : List ℕ) → text ≡ joined t us → IsUtf8 text
is_joined t us text e = subst IsUtf8 (sym e) (joined_utf8 t us)

abbrev pub whole : Text → List Text → Text
whole t us = record { bytes = joined t us; utf8 = joined_utf8 t us }

-- a literal, and bytes that are ASCII
abbrev pub literal : (text : List ℕ) → are_ascii text ≡ true → Text
literal text e = record { bytes = text; utf8 = IsUtf8-are_ascii text e }

abbrev pub ascii : (text : List ℕ) → IsAscii text → Text
ascii text h = record { bytes = text; utf8 = IsUtf8-from_ascii text h }

abbrev AreSmall : List ℕ → Type 0
AreSmall [] = Unit {0}
AreSmall (x ∷ xs) = (x < 128) × AreSmall xs

pub small_ascii : (text : List ℕ) → AreSmall text → IsAscii text
small_ascii [] h = IsAscii-nil
small_ascii (x ∷ xs) h = IsAscii-cons x xs h.0 (small_ascii xs h.1)

abbrev pub small : (text : List ℕ) → AreSmall text → Text
small text h = ascii text (small_ascii text h)

either : (P : List ℕ → Type 0) (b : Bool) (x y : List ℕ) → P x → P y → P (cond b x y)
either P true x y p q = p
either P false x y p q = q

abbrev choice : Bool → Text → Text → Text
choice b t u = record { bytes = cond b t.bytes u.bytes; utf8 = either IsUtf8 b t.bytes u.bytes t.utf8 u.utf8 }

glyph_ascii : (d : ℕ) → d < 10 → digit_glyph false d < 128
glyph_ascii d h = grind (arith, nat_tests)

onto_ascii : (k n : ℕ) (acc : List ℕ) → IsAscii acc → IsAscii (digits_onto k 10 false n acc)
onto_ascii zero n acc h = h
onto_ascii (suc k) n acc h =
    let one = IsAscii-cons (digit_glyph false (n % 10)) acc (glyph_ascii (n % 10) (omega arith)) h in
    either IsAscii (nat_eq (n / 10) 0) _ _ one (onto_ascii k (n / 10) (digit_glyph false (n % 10) ∷ acc) one)

decimal_ascii : (n : ℕ) → IsAscii (decimal n)
unfolding digits
decimal_ascii n = onto_ascii 64 n [] IsAscii-nil

abbrev number : ℕ → Text
number n = ascii (decimal n) (decimal_ascii n)

signed_utf8 : (z : ℤ) → IsUtf8 (signed_decimal z)
signed_utf8 (pos n) = (number n).utf8
signed_utf8 (negsuc n) = joined_utf8 (literal (45 ∷ []) refl) (number (suc n) ∷ [])

abbrev signed : ℤ → Text
signed z = record { bytes = signed_decimal z; utf8 = signed_utf8 z }

abbrev sign : Bool → Text
sign negative = choice negative (literal (codes "-") refl) (literal [] refl)

abbrev hex : List ℕ → Text
hex bytes = ascii (encode_lower bytes) (IsAscii-encode_with lower_digits bytes (small_ascii lower_digits (omega arith)))

abbrev pub quote : (text : List ℕ) → IsUtf8 text → Text
quote text u = record { bytes = quoted text; utf8 = IsUtf8-quoted text u }

pub same_ascii : (k byte : ℕ) → byte < 128 → IsAscii (replicate k byte)
same_ascii zero byte h = IsAscii-nil
same_ascii (suc k) byte h = IsAscii-cons byte (replicate k byte) h (same_ascii k byte h)

-- dates

instant_utf8 : (z : ℤ) (text : List ℕ) → IsInstantText z text → IsUtf8 text
instant_utf8 z text (year, month, day, millis, civil, few, at, is) =
    let fraction = choice (nat_eq (millis % 1000) 0) (literal [] refl) (small (46 ∷ three_digits (millis % 1000)) (omega arith)) in
    is_joined (small (second_text year month day (millis / 1000)) (omega arith)) (fraction ∷ literal (codes "Z") refl ∷ []) text is

wrapped_date_utf8 : (z : ℤ) (text : List ℕ) → IsWrappedDate z text → IsUtf8 text
wrapped_date_utf8 z text is = is_joined (literal (codes "{\"$date\":{\"$numberLong\":\"") refl) (signed z ∷ literal (codes "\"}}") refl ∷ []) text is

date_utf8 : (format : Format) (z : ℤ) (text : List ℕ) → IsDateJson format z text → IsUtf8 text
date_utf8 Relaxed (pos n) text (inl (low, (instant, is, e))) =
    is_joined (literal (codes "{\"$date\":\"") refl) (record { bytes = instant; utf8 = instant_utf8 (pos n) instant is } ∷ literal (codes "\"}") refl ∷ []) text e
date_utf8 Relaxed (pos n) text (inr (high, is)) = wrapped_date_utf8 (pos n) text is
date_utf8 Relaxed (negsuc n) text is = wrapped_date_utf8 (negsuc n) text is
date_utf8 Canonical z text is = wrapped_date_utf8 z text is

-- doubles

exponent_ascii : (negative : Bool) (ds : List ℕ) → AllDigits 10 ds → IsAscii (exponent_of negative ds)
exponent_ascii negative [] h = IsAscii-nil
exponent_ascii true (d ∷ ds) h = IsAscii-cons 101 (45 ∷ d ∷ ds) (omega arith) (IsAscii-cons 45 (d ∷ ds) (omega arith) (IsAscii-from_digits (d ∷ ds) h))
exponent_ascii false (d ∷ ds) h = IsAscii-cons 101 (d ∷ ds) (omega arith) (IsAscii-from_digits (d ∷ ds) h)

double_text_utf8 : (x : Float) (text : List ℕ) → IsDoubleText x text → IsUtf8 text
double_text_utf8 nan text e = is_joined (literal (codes "NaN") refl) [] text e
double_text_utf8 (inf negative) text e = is_joined (sign negative) (literal (codes "Infinity") refl ∷ []) text e
double_text_utf8 (fin negative m k) text ((s, p, e, plain), parse) =
    let w = plain.well_formed in
    let point = whole (literal (46 ∷ []) refl) (ascii p.fraction (IsAscii-from_digits p.fraction w.fraction_digits) ∷ []) in
    let exponent = ascii (exponent_of p.exponent_negative p.exponent) (exponent_ascii p.exponent_negative p.exponent w.exponent_digits) in
    is_joined (sign s) (ascii p.whole (IsAscii-from_digits p.whole w.whole_digits) ∷ choice p.point point (literal [] refl) ∷ exponent ∷ []) text e

wrapped_double_utf8 : (x : Float) (text : List ℕ) → IsWrappedDouble x text → IsUtf8 text
wrapped_double_utf8 x text (shown, is, e) =
    is_joined (literal (codes "{\"$numberDouble\":\"") refl) (record { bytes = shown; utf8 = double_text_utf8 x shown is } ∷ literal (codes "\"}") refl ∷ []) text e

double_utf8 : (format : Format) (x : Float) (text : List ℕ) → IsDoubleJson format x text → IsUtf8 text
double_utf8 Relaxed (fin negative m e) text is = double_text_utf8 (fin negative m e) text is
double_utf8 Relaxed nan text is = wrapped_double_utf8 nan text is
double_utf8 Relaxed (inf negative) text is = wrapped_double_utf8 (inf negative) text is
double_utf8 Canonical x text is = wrapped_double_utf8 x text is

-- decimals

behind_ascii : (ds : List ℕ) → IsAscii ds → IsAscii (behind_point ds)
behind_ascii [] h = IsAscii-nil
behind_ascii (d ∷ ds) h = IsAscii-cons 46 (d ∷ ds) (omega arith) h

-- digits with an exponent
abbrev scientific : (ds : List ℕ) → ℕ → IsAscii ds → Text
scientific ds reach h =
    let exponent = choice (nat_lt 6176 reach) (whole (literal (codes "E+") refl) (number (reach - 6177) ∷ [])) (whole (literal (codes "E-") refl) (number (6177 - reach) ∷ [])) in
    whole (ascii (take 1 ds) (IsAscii-take ds 1 h)) (ascii (behind_point (drop 1 ds)) (behind_ascii (drop 1 ds) (IsAscii-drop ds 1 h)) ∷ exponent ∷ [])

-- digits with some of them after the point
abbrev plain : (ds : List ℕ) → ℕ → IsAscii ds → Text
plain ds places h =
    let cut = length ds - places in
    let behind = whole (literal (46 ∷ []) refl) (ascii (drop cut ds) (IsAscii-drop ds cut h) ∷ []) in
    let zeros = ascii (replicate (places - length ds) 48) (same_ascii (places - length ds) 48 (omega arith)) in
    choice (nat_eq places 0) (ascii ds h) (choice (nat_lt places (length ds)) (whole (ascii (take cut ds) (IsAscii-take ds cut h)) (behind ∷ []))
    (whole (literal (codes "0.") refl) (zeros ∷ ascii ds h ∷ [])))

decimal_text_utf8 : (d : Decimal) → IsUtf8 (decimal_text d)
decimal_text_utf8 NaN = (literal (codes "NaN") refl).utf8
decimal_text_utf8 (Infinity negative) = joined_utf8 (sign negative) (literal (codes "Infinity") refl ∷ [])
decimal_text_utf8 (Finite negative coefficient exponent) =
    let ds = decimal coefficient in
    let h = decimal_ascii coefficient in
    joined_utf8 (sign negative) (choice (nat_lt 6176 exponent || nat_lt (exponent + length ds + 5) 6176) (scientific ds (exponent + length ds) h) (plain ds (6176 - exponent) h) ∷ [])

-- leaves

-- the texts of a value that holds no others are UTF-8
abbrev pub AreLeafTexts : Leaf → Type 0
AreLeafTexts (string s) = IsUtf8 s
AreLeafTexts (javascript_code s) = IsUtf8 s
AreLeafTexts (symbol s) = IsUtf8 s
AreLeafTexts (regular_expression pattern options) = IsUtf8 pattern × IsUtf8 options
AreLeafTexts (db_pointer namespace id) = IsUtf8 namespace
AreLeafTexts _ = Unit {0}

pub leaf_utf8 : (format : Format) (l : Leaf) (text : List ℕ) → AreLeafTexts l → IsLeafJson format l text → IsUtf8 text
leaf_utf8 format (double bits) text u is = double_utf8 format _ text is
leaf_utf8 format (string s) text u e = is_joined (quote s u) [] text e
leaf_utf8 format (binary subtype bytes) text u e =
    let base64 = ascii (encode_of standard bytes) (IsAscii-encode_of standard bytes) in
    is_joined (literal (codes "{\"$binary\":{\"base64\":\"") refl) (base64 ∷ literal (codes "\",\"subType\":\"") refl ∷ hex (subtype_byte subtype ∷ []) ∷ literal (codes "\"}}") refl ∷ []) text e
leaf_utf8 format undefined text u e = is_joined (literal (codes "{\"$undefined\":true}") refl) [] text e
leaf_utf8 format (object_id bytes) text u e = is_joined (literal (codes "{\"$oid\":\"") refl) (hex bytes ∷ literal (codes "\"}") refl ∷ []) text e
leaf_utf8 format (boolean true) text u e = is_joined (literal (codes "true") refl) [] text e
leaf_utf8 format (boolean false) text u e = is_joined (literal (codes "false") refl) [] text e
leaf_utf8 format (date_time millis) text u is = date_utf8 format millis text is
leaf_utf8 format null text u e = is_joined (literal (codes "null") refl) [] text e
leaf_utf8 format (regular_expression pattern options) text u e =
    is_joined (literal (codes "{\"$regularExpression\":{\"pattern\":") refl) (quote pattern u.0 ∷ literal (codes ",\"options\":") refl ∷ quote options u.1 ∷ literal (codes "}}") refl ∷ []) text e
leaf_utf8 format (db_pointer namespace id) text u e =
    is_joined (literal (codes "{\"$dbPointer\":{\"$ref\":") refl)
    (quote namespace u ∷ literal (codes ",\"$id\":") refl ∷ literal (codes "{\"$oid\":\"") refl ∷ hex id ∷ literal (codes "\"}}}") refl ∷ []) text e
leaf_utf8 format (javascript_code code) text u e = is_joined (literal (codes "{\"$code\":") refl) (quote code u ∷ literal (codes "}") refl ∷ []) text e
leaf_utf8 format (symbol s) text u e = is_joined (literal (codes "{\"$symbol\":") refl) (quote s u ∷ literal (codes "}") refl ∷ []) text e
leaf_utf8 Relaxed (int32 z) text u e = is_joined (signed z) [] text e
leaf_utf8 Canonical (int32 z) text u e = is_joined (literal (codes "{\"$numberInt\":\"") refl) (signed z ∷ literal (codes "\"}") refl ∷ []) text e
leaf_utf8 format (timestamp time increment) text u e =
    is_joined (literal (codes "{\"$timestamp\":{\"t\":") refl) (number time ∷ literal (codes ",\"i\":") refl ∷ number increment ∷ literal (codes "}}") refl ∷ []) text e
leaf_utf8 Relaxed (int64 z) text u e = is_joined (signed z) [] text e
leaf_utf8 Canonical (int64 z) text u e = is_joined (literal (codes "{\"$numberLong\":\"") refl) (signed z ∷ literal (codes "\"}") refl ∷ []) text e
leaf_utf8 format (decimal128 bytes) text u e =
    let shown = decimal_text_utf8 (decimal_of (from_le_bytes w64 (take 8 bytes)) (from_le_bytes w64 (drop 8 bytes))) in
    is_joined (literal (codes "{\"$numberDecimal\":\"") refl) (record { bytes = decimal128_text bytes; utf8 = shown } ∷ literal (codes "\"}") refl ∷ []) text e
leaf_utf8 format max_key text u e = is_joined (literal (codes "{\"$maxKey\":1}") refl) [] text e
leaf_utf8 format min_key text u e = is_joined (literal (codes "{\"$minKey\":1}") refl) [] text e
