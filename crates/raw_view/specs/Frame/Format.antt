-- The format: the productions of BSON 1.1 as functions from parts to bytes. Both writing and reading are defined by
-- these, except the envelope of a document (Envelope) and the framing of a code with scope (Frame). That a length fits
-- and that a text is UTF-8 is said where they are used.
use Rattle.std.specs.Prelude.{ℕ, pos, ◌+◌, ◌-◌, Bool, true, false, List, [], ◌∷◌, ◌++◌, length, take, drop}
use Rattle.bson_model.specs.Leaf.{Leaf, double, string, binary, undefined, object_id, boolean, date_time, null, regular_expression, db_pointer, javascript_code, symbol, int32, timestamp, int64, decimal128, max_key, min_key}
use Rattle.bson_model.specs.Subtype.{subtype_byte}
use Rattle.bson_model.specs.declared.binaries.BinarySubtype.{BinarySubtype}
use Rattle.bson_model.specs.declared.binaries.BinarySubtype.TheVariants.{BinaryOld}
use Rattle.raw_view.specs.Frame.Kind.{tag_of}
use Rattle.raw_view.specs.Frame.Number.{le32, le_u32, le64, le_u64}
use Rattle.raw_view.specs.declared.element_type.ElementType.{ElementType}

-- a text, a 0, and what follows. BSON 1.1, `cstring`.
abbrev pub c_string : List ℕ → List ℕ → List ℕ
c_string text behind = text ++ 0 ∷ behind

-- the length of the text and its 0, the text, and a 0. BSON 1.1, `string`.
abbrev pub string_payload : List ℕ → List ℕ
string_payload text = le32 (pos (length text + 1)) ++ c_string text []

-- the length of the bytes, their subtype, and the bytes. BSON 1.1, `binary`.
abbrev pub plain_binary_payload : ℕ → List ℕ → List ℕ
plain_binary_payload subtype bytes = le32 (pos (length bytes)) ++ subtype ∷ bytes

-- what an old binary has instead of its bytes: their own length, then the bytes. BSON 1.1, `binary`, subtype 2.
abbrev pub inner_payload : List ℕ → List ℕ
inner_payload bytes = le32 (pos (length bytes)) ++ bytes

-- a binary: an old one with the inner length, any other without
abbrev pub binary_payload : BinarySubtype → List ℕ → List ℕ
binary_payload BinaryOld bytes = plain_binary_payload 2 (inner_payload bytes)
binary_payload subtype bytes = plain_binary_payload (subtype_byte subtype) bytes

-- false or true. BSON 1.1, `element`, type 8.
abbrev pub boolean_payload : Bool → List ℕ
boolean_payload false = 0 ∷ []
boolean_payload true = 1 ∷ []

-- a pattern and options, each followed by a 0. BSON 1.1, `cstring cstring`.
abbrev pub regex_payload : List ℕ → List ℕ → List ℕ
regex_payload pattern options = c_string pattern (c_string options [])

-- a namespace as a string, and the twelve bytes of an ObjectId. BSON 1.1, `string (byte*12)`.
abbrev pub pointer_payload : List ℕ → List ℕ → List ℕ
pointer_payload namespace id = string_payload namespace ++ id

-- the increment, then the time. BSON 1.1, `element`, type 17.
abbrev pub timestamp_payload : ℕ → ℕ → List ℕ
timestamp_payload time increment = le_u32 increment ++ le_u32 time

-- the payload of a value that holds no others. BSON 1.1, `element`.
abbrev pub leaf_payload : Leaf → List ℕ
leaf_payload (double bits) = le_u64 bits
leaf_payload (string text) = string_payload text
leaf_payload (binary subtype bytes) = binary_payload subtype bytes
leaf_payload undefined = []
leaf_payload (object_id bytes) = bytes
leaf_payload (boolean b) = boolean_payload b
leaf_payload (date_time millis) = le64 millis
leaf_payload null = []
leaf_payload (regular_expression pattern options) = regex_payload pattern options
leaf_payload (db_pointer namespace id) = pointer_payload namespace id
leaf_payload (javascript_code code) = string_payload code
leaf_payload (symbol text) = string_payload text
leaf_payload (int32 z) = le32 z
leaf_payload (timestamp time increment) = timestamp_payload time increment
leaf_payload (int64 z) = le64 z
leaf_payload (decimal128 bytes) = bytes
leaf_payload max_key = []
leaf_payload min_key = []

-- the length of the whole, its own four bytes included, then these bytes
abbrev pub counted : List ℕ → List ℕ
counted rest = le32 (pos (4 + length rest)) ++ rest

-- the length of the whole, the code, and the scope. BSON 1.1, `code_w_s`.
abbrev pub scoped_payload : List ℕ → List ℕ → List ℕ
scoped_payload code scope = counted (string_payload code ++ scope)

-- a document with these bytes between its length and its final 0. BSON 1.1, `document`.
abbrev pub framed : List ℕ → List ℕ
framed inside = counted (inside ++ 0 ∷ [])

-- a document without its first four bytes and its last
abbrev pub inside_of : List ℕ → List ℕ
inside_of b = take (length b - 5) (drop 4 b)

-- a tag, a key, a 0, and what follows
abbrev pub tagged : ℕ → List ℕ → List ℕ → List ℕ
tagged tag key behind = tag ∷ c_string key behind

-- an element: the tag of its kind, its key, its payload, and what may follow. BSON 1.1, `element`.
abbrev pub element_of : ElementType → List ℕ → List ℕ → List ℕ
element_of kind key payload = tagged (tag_of kind) key payload
