-- Each value that holds no others has a text.
use Rattle.bson_to_json.proofs.Common.{Canonical, Float, IsDateJson, IsDoubleJson, IsDoubleText, IsLeafJson, Leaf, Relaxed, binary, binary64, binary_json, boolean, boolean_json, cases_lt, date_time, db_pointer, decimal128, decimal128_text, double, fin, inf, int32, int32_json, int64, int64_json, javascript_code, last_millis, max_key, min_key, nan, null, object_id, object_id_json, pointer_json, quoted, regex_json, regular_expression, signed_decimal, string, symbol, timestamp, timestamp_json, undefined, wrapped_double}
use Rattle.std.proofs.Common.{◌++◌, ℕ, ℤ, pos, negsuc, List, codes, inl, inr, refl, from_bits}
use Rattle.bson_to_json.specs.declared.style.Format.{Format}
use Rattle.bson_to_json.proofs.Calendar.{instant_has}
use Rattle.bson_to_json.proofs.Exact.{bits_have}

double_has : (format : Format) (x : Float) (t : List ℕ) → IsDoubleText x t → (text : List ℕ) × IsDoubleJson format x text
double_has Relaxed nan t is = (wrapped_double t, (t, is, refl))
double_has Relaxed (inf s) t is = (wrapped_double t, (t, is, refl))
double_has Relaxed (fin s m e) t is = (t, is)
double_has Canonical x t is = (wrapped_double t, (t, is, refl))

abbrev wrapped_date : ℤ → List ℕ
wrapped_date millis = codes "{\"$date\":{\"$numberLong\":\"" ++ (signed_decimal millis ++ codes "\"}}")

date_has : (format : Format) (z : ℤ) → (text : List ℕ) × IsDateJson format z text
date_has Relaxed (pos millis) = elim (cases_lt last_millis millis) [
  | inl late ↦ (wrapped_date (pos millis), inr (late, refl))
  | inr early ↦ let (t, is) = instant_has millis early in (codes "{\"$date\":\"" ++ (t ++ codes "\"}"), inl (early, (t, is, refl)))
]
date_has Relaxed (negsuc n) = (wrapped_date (negsuc n), refl)
date_has Canonical z = (wrapped_date z, refl)

pub leaf_has : (format : Format) (l : Leaf) → (text : List ℕ) × IsLeafJson format l text
leaf_has format (double bits) = double_has format (from_bits binary64 bits) (bits_have bits).0 (bits_have bits).1
leaf_has format (string s) = (quoted s, refl)
leaf_has format (binary subtype bytes) = (binary_json subtype bytes, refl)
leaf_has format undefined = (codes "{\"$undefined\":true}", refl)
leaf_has format (object_id bytes) = (object_id_json bytes, refl)
leaf_has format (boolean b) = (boolean_json b, refl)
leaf_has format (date_time millis) = date_has format millis
leaf_has format null = (codes "null", refl)
leaf_has format (regular_expression pattern options) = (regex_json pattern options, refl)
leaf_has format (db_pointer namespace id) = (pointer_json namespace id, refl)
leaf_has format (javascript_code code) = (codes "{\"$code\":" ++ (quoted code ++ codes "}"), refl)
leaf_has format (symbol s) = (codes "{\"$symbol\":" ++ (quoted s ++ codes "}"), refl)
leaf_has format (int32 z) = (int32_json format z, refl)
leaf_has format (timestamp time increment) = (timestamp_json time increment, refl)
leaf_has format (int64 z) = (int64_json format z, refl)
leaf_has format (decimal128 bytes) = (codes "{\"$numberDecimal\":\"" ++ (decimal128_text bytes ++ codes "\"}"), refl)
leaf_has format max_key = (codes "{\"$maxKey\":1}", refl)
leaf_has format min_key = (codes "{\"$minKey\":1}", refl)
