-- Values that hold no others, in Extended JSON v2.
use Rattle.std.specs.Prelude.{◌≡◌, ℕ, ℤ, Bool, true, false, List, [], ◌∷◌, ◌++◌, codes, decimal, from_bits}
use Rattle.std.specs.Fmt.{signed_decimal}
use Rattle.std.specs.Float.{binary64}
use Rattle.base64.specs.Engines.{standard}
use Rattle.base64.specs.GeneralPurpose.{encode_of}
use Rattle.hex.specs.Hex.{encode_lower}
use Rattle.json.specs.Print.{quoted}
use Rattle.bson_model.specs.Leaf.{Leaf, double, string, binary, undefined, object_id, boolean, date_time, null, regular_expression, db_pointer, javascript_code, symbol, int32, timestamp, int64, decimal128, max_key, min_key}
use Rattle.bson_model.specs.Subtype.{subtype_byte}
use Rattle.bson_model.specs.declared.binaries.BinarySubtype.{BinarySubtype}
use Rattle.bson_to_json.specs.Dates.{IsDateJson}
use Rattle.bson_to_json.specs.Decimals.{decimal128_text}
use Rattle.bson_to_json.specs.Doubles.{IsDoubleJson}
use Rattle.bson_to_json.specs.declared.style.Format.{Format}
use Rattle.bson_to_json.specs.declared.style.Format.TheVariants.{Relaxed, Canonical}

-- a number of 32 bits: its digits, or wrapped
abbrev pub int32_json : Format → ℤ → List ℕ
int32_json Relaxed z = signed_decimal z
int32_json Canonical z = codes "{\"$numberInt\":\"" ++ (signed_decimal z ++ codes "\"}")

-- a number of 64 bits: its digits, or wrapped
abbrev pub int64_json : Format → ℤ → List ℕ
int64_json Relaxed z = signed_decimal z
int64_json Canonical z = codes "{\"$numberLong\":\"" ++ (signed_decimal z ++ codes "\"}")

-- a boolean
abbrev pub boolean_json : Bool → List ℕ
boolean_json false = codes "false"
boolean_json true = codes "true"

-- the bytes in base64 (RFC 4648, section 4), and the subtype as two hexadecimal digits; the bytes of subtype 2 exclude the inner length
abbrev pub binary_json : BinarySubtype → List ℕ → List ℕ
binary_json subtype bytes =
    codes "{\"$binary\":{\"base64\":\"" ++ (encode_of standard bytes ++ (codes "\",\"subType\":\"" ++ (encode_lower (subtype_byte subtype ∷ []) ++ codes "\"}}")))

-- the twelve bytes as 24 hexadecimal digits
abbrev pub object_id_json : List ℕ → List ℕ
object_id_json bytes = codes "{\"$oid\":\"" ++ (encode_lower bytes ++ codes "\"}")

-- the pattern and the options as they are
abbrev pub regex_json : List ℕ → List ℕ → List ℕ
regex_json pattern options =
    codes "{\"$regularExpression\":{\"pattern\":" ++ (quoted pattern ++ (codes ",\"options\":" ++ (quoted options ++ codes "}}")))

-- the namespace and the identifier
abbrev pub pointer_json : List ℕ → List ℕ → List ℕ
pointer_json namespace id =
    codes "{\"$dbPointer\":{\"$ref\":" ++ (quoted namespace ++ (codes ",\"$id\":" ++ (codes "{\"$oid\":\"" ++ (encode_lower id ++ codes "\"}}}"))))

-- the seconds and the increment
abbrev pub timestamp_json : ℕ → ℕ → List ℕ
timestamp_json time increment = codes "{\"$timestamp\":{\"t\":" ++ (decimal time ++ (codes ",\"i\":" ++ (decimal increment ++ codes "}}")))

-- a value that holds no others
abbrev pub IsLeafJson : Format → Leaf → List ℕ → Type 0
IsLeafJson format (double bits) text = IsDoubleJson format (from_bits binary64 bits) text
IsLeafJson format (string s) text = text ≡ quoted s
IsLeafJson format (binary subtype bytes) text = text ≡ binary_json subtype bytes
IsLeafJson format undefined text = text ≡ codes "{\"$undefined\":true}"
IsLeafJson format (object_id bytes) text = text ≡ object_id_json bytes
IsLeafJson format (boolean b) text = text ≡ boolean_json b
IsLeafJson format (date_time millis) text = IsDateJson format millis text
IsLeafJson format null text = text ≡ codes "null"
IsLeafJson format (regular_expression pattern options) text = text ≡ regex_json pattern options
IsLeafJson format (db_pointer namespace id) text = text ≡ pointer_json namespace id
IsLeafJson format (javascript_code code) text = text ≡ codes "{\"$code\":" ++ (quoted code ++ codes "}")
IsLeafJson format (symbol s) text = text ≡ codes "{\"$symbol\":" ++ (quoted s ++ codes "}")
IsLeafJson format (int32 z) text = text ≡ int32_json format z
IsLeafJson format (timestamp time increment) text = text ≡ timestamp_json time increment
IsLeafJson format (int64 z) text = text ≡ int64_json format z
IsLeafJson format (decimal128 bytes) text = text ≡ codes "{\"$numberDecimal\":\"" ++ (decimal128_text bytes ++ codes "\"}")
IsLeafJson format max_key text = text ≡ codes "{\"$maxKey\":1}"
IsLeafJson format min_key text = text ≡ codes "{\"$minKey\":1}"
