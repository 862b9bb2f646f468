-- Values as a person reads them, in a line.
use Rattle.std.specs.Prelude.{◌≡◌, ◌⊎◌, ◌<◌, ◌≤◌, ◌%◌, ℕ, List, [], ◌++◌, Bool, true, false, Some, codes, cond, decimal, from_bits, length, nat_lt}
use Rattle.std.specs.Fmt.{signed_decimal}
use Rattle.std.specs.Float.{binary64}
use Rattle.ryu.specs.Parse.{parse_float}
use Rattle.hex.specs.Hex.{encode_lower}
use Rattle.bson_model.specs.Leaf.{Leaf, double, string, binary, undefined, object_id, boolean, date_time, null, regular_expression, db_pointer, javascript_code, symbol, int32, timestamp, int64, decimal128, max_key, min_key}
use Rattle.bson_model.specs.Subtype.{subtype_byte}
use Rattle.raw_view.specs.Frame.Kind.{kind_text}
use Rattle.raw_view.specs.Meaning.{RawValue, kind_of_raw}
use Rattle.raw_view.specs.Meaning as raw
use Rattle.dump_io.specs.lines.Quoting.{quoted}

-- texts and bytes longer than this aren't shown
abbrev pub short : ℕ
short = 64

-- a number of bytes
abbrev pub size_text : ℕ → List ℕ
size_text n = codes ", " ++ decimal n ++ codes " bytes"

-- the number of these bytes, and what shows them if they are few
abbrev pub sized_text : List ℕ → List ℕ → List ℕ
sized_text bytes shown = size_text (length bytes) ++ cond (nat_lt short (length bytes)) [] (codes ": " ++ shown)

abbrev pub boolean_text : Bool → List ℕ
boolean_text true = codes ": true"
boolean_text false = codes ": false"

-- the double with these bits: NaN, or a text that is read as this double
abbrev pub ShowsDouble : ℕ → List ℕ → Type 0
ShowsDouble bits text =
    ((0x7ff0_0000_0000_0000 < bits % 0x8000_0000_0000_0000) × (text ≡ codes "NaN"))
    ⊎ ((bits % 0x8000_0000_0000_0000 ≤ 0x7ff0_0000_0000_0000) × (parse_float binary64 text ≡ Some (from_bits binary64 bits)))

-- what is after the kind of a value that holds no others; the numbers of a timestamp are its seconds and its increment
abbrev pub ShowsLeaf : Leaf → List ℕ → Type 0
ShowsLeaf (double bits) text = (number : List ℕ) × ShowsDouble bits number × (text ≡ codes ": " ++ number)
ShowsLeaf (string s) text = text ≡ sized_text s (quoted s)
ShowsLeaf (binary subtype bytes) text = text ≡ codes ", subtype " ++ decimal (subtype_byte subtype) ++ sized_text bytes (encode_lower bytes)
ShowsLeaf undefined text = text ≡ []
ShowsLeaf (object_id bytes) text = text ≡ codes ": " ++ encode_lower bytes
ShowsLeaf (boolean b) text = text ≡ boolean_text b
ShowsLeaf (date_time millis) text = text ≡ codes ": " ++ signed_decimal millis ++ codes " ms"
ShowsLeaf null text = text ≡ []
ShowsLeaf (regular_expression pattern options) text = text ≡ sized_text pattern (quoted pattern) ++ sized_text options (quoted options)
ShowsLeaf (db_pointer namespace id) text = text ≡ sized_text namespace (quoted namespace) ++ codes ", " ++ encode_lower id
ShowsLeaf (javascript_code s) text = text ≡ sized_text s (quoted s)
ShowsLeaf (symbol s) text = text ≡ sized_text s (quoted s)
ShowsLeaf (int32 z) text = text ≡ codes ": " ++ signed_decimal z
ShowsLeaf (timestamp time increment) text = text ≡ codes ": " ++ decimal time ++ codes ", " ++ decimal increment
ShowsLeaf (int64 z) text = text ≡ codes ": " ++ signed_decimal z
ShowsLeaf (decimal128 bytes) text = text ≡ codes ": " ++ encode_lower bytes
ShowsLeaf max_key text = text ≡ []
ShowsLeaf min_key text = text ≡ []

-- what is after the kind of a value
abbrev pub ShowsBehind : RawValue → List ℕ → Type 0
ShowsBehind (raw.single l) text = ShowsLeaf l text
ShowsBehind (raw.document d) text = text ≡ size_text (length d)
ShowsBehind (raw.array d) text = text ≡ size_text (length d)
ShowsBehind (raw.scoped code d) text = text ≡ sized_text code (quoted code) ++ size_text (length d)

-- a value: the name of its kind, and what is after that
abbrev pub ShowsValue : RawValue → List ℕ → Type 0
ShowsValue v text = (behind : List ℕ) × ShowsBehind v behind × (text ≡ kind_text (kind_of_raw v) ++ behind)
