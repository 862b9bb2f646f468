-- The meaning of a payload: a value, or a fault. A payload p here was cut off by its frame, so it has the shape of its
-- kind.
pub mod Item
pub mod Value
pub mod Typed
use Rattle.std.specs.Prelude.{◌≡◌, ◌≢◌, ◌⊎◌, ℕ, ◌<◌, ◌≤◌, ◌^◌, ◌+ℤ◌, ◌≤ℤ◌, ℤ, pos, negsuc, Bool, List, [], ◌∷◌, length, take, drop, Option, Some, None}
use Rattle.std.specs.Str.{IsUtf8}
use Rattle.bson_model.specs.Leaf.{Leaf, double, string, binary, undefined, object_id, boolean, date_time, null, regular_expression, db_pointer, javascript_code, symbol, int32, timestamp, int64, decimal128, max_key, min_key}
use Rattle.bson_model.specs.Subtype.{subtype_of}
use Rattle.bson_model.specs.declared.binaries.BinarySubtype.TheVariants.{BinaryOld}
use Rattle.raw_view.specs.Frame.Number.{max_length, IsLe32, IsLe64, IsUnsigned64}
use Rattle.raw_view.specs.Frame.Envelope.{IsEnvelope, Refuses}
use Rattle.raw_view.specs.Frame.Format.{boolean_payload, inner_payload, scoped_payload, timestamp_payload}
use Rattle.raw_view.specs.Frame.Kind.{kind_of_leaf}
use Rattle.raw_view.specs.declared.element_type.ElementType.{ElementType}
use Rattle.raw_view.specs.declared.element_type.ElementType.TheVariants as kind
use Rattle.raw_view.specs.declared.error.Reason.{Reason}
use Rattle.raw_view.specs.declared.error.Reason.TheVariants as reason
use Rattle.raw_view.specs.Frame.Reasons.{IsStringReason}
use Rattle.raw_view.specs.Frame.{Frame, IsString, HasNoString, IsBinary, IsRegex, IsDbPointer, Fault, Malformed, Utf8}

-- a value: one that holds no others, or the bytes of a nested document, of an array, or of a code and its scope
pub data RawValue : Type 0 where
  single : Leaf → RawValue
  document : List ℕ → RawValue
  array : List ℕ → RawValue
  -- the code, the scope
  scoped : List ℕ → List ℕ → RawValue

-- the kind of a value
abbrev pub kind_of_raw : RawValue → ElementType
kind_of_raw (single leaf) = kind_of_leaf leaf
kind_of_raw (document _) = kind.EmbeddedDocument
kind_of_raw (array _) = kind.Array
kind_of_raw (scoped _ _) = kind.JavaScriptCodeWithScope

-- outer is what an old binary has instead of these bytes
pub record HasInnerLength (outer bytes : List ℕ) : Type 0 where
  pub fits : length bytes ≤ max_length
  pub spelled : outer ≡ inner_payload bytes

-- p is the code with scope that has this code, and these bytes as its scope
pub record IsCodeWithScope (p code scope : List ℕ) : Type 0 where
  pub fits : length p ≤ max_length
  pub spelled : p ≡ scoped_payload code scope

-- p is the timestamp with this time and this increment
pub record IsTimestamp (p : List ℕ) (time increment : ℕ) : Type 0 where
  pub time_fits : time < 2 ^ 32
  pub increment_fits : increment < 2 ^ 32
  pub spelled : p ≡ timestamp_payload time increment

-- the payload is the string of a UTF-8 text
abbrev pub SpellsText : List ℕ → List ℕ → Type 0
SpellsText p text = IsString p text × IsUtf8 text

-- the value of a binary with this subtype byte
abbrev pub IsBinaryValue : ℕ → List ℕ → RawValue → Type 0
IsBinaryValue subtype bytes v =
    ((subtype ≢ 2) × (v ≡ single (binary (subtype_of subtype) bytes)))
    ⊎ ((subtype ≡ 2) × (inner : List ℕ) × HasInnerLength bytes inner × (v ≡ single (binary BinaryOld inner)))

-- the payload p of this kind means the value v
abbrev pub MeansValue : ElementType → List ℕ → RawValue → Type 0
MeansValue kind.Double p v = (bits : ℕ) × IsUnsigned64 p bits × (v ≡ single (double bits))
MeansValue kind.String p v = (text : List ℕ) × SpellsText p text × (v ≡ single (string text))
MeansValue kind.EmbeddedDocument p v = v ≡ document p
MeansValue kind.Array p v = v ≡ array p
MeansValue kind.Binary p v = (subtype : ℕ) × (bytes : List ℕ) × IsBinary p subtype bytes × IsBinaryValue subtype bytes v
MeansValue kind.Undefined p v = v ≡ single undefined
MeansValue kind.ObjectId p v = v ≡ single (object_id p)
MeansValue kind.Boolean p v = (b : Bool) × (p ≡ boolean_payload b) × (v ≡ single (boolean b))
MeansValue kind.DateTime p v = (millis : ℤ) × IsLe64 p millis × (v ≡ single (date_time millis))
MeansValue kind.Null p v = v ≡ single null
MeansValue kind.RegularExpression p v = (pattern options : List ℕ) × IsRegex p pattern options × (v ≡ single (regular_expression pattern options))
MeansValue kind.DbPointer p v = (namespace id : List ℕ) × IsDbPointer p namespace id × IsUtf8 namespace × (v ≡ single (db_pointer namespace id))
MeansValue kind.JavaScriptCode p v = (text : List ℕ) × SpellsText p text × (v ≡ single (javascript_code text))
MeansValue kind.Symbol p v = (text : List ℕ) × SpellsText p text × (v ≡ single (symbol text))
MeansValue kind.JavaScriptCodeWithScope p v = (code scope : List ℕ) × IsCodeWithScope p code scope × IsUtf8 code × IsEnvelope scope × (v ≡ scoped code scope)
MeansValue kind.Int32 p v = (z : ℤ) × IsLe32 p z × (v ≡ single (int32 z))
MeansValue kind.Timestamp p v = (time increment : ℕ) × IsTimestamp p time increment × (v ≡ single (timestamp time increment))
MeansValue kind.Int64 p v = (z : ℤ) × IsLe64 p z × (v ≡ single (int64 z))
MeansValue kind.Decimal128 p v = v ≡ single (decimal128 p)
MeansValue kind.MaxKey p v = v ≡ single max_key
MeansValue kind.MinKey p v = v ≡ single min_key

-- a fault: how reading fails, and the key that the fault carries
pub record KeyedFault : Type 0 where
  pub fault : Fault
  pub key : Option (List ℕ)

-- malformed for this reason, with the element's key
abbrev pub malformed_at : Reason → List ℕ → KeyedFault
malformed_at why key = record { fault = Malformed why; key = Some key }

-- malformed for this reason, without a key
abbrev pub malformed : Reason → KeyedFault
malformed why = record { fault = Malformed why; key = None }

-- a text that isn't UTF-8, without a key
abbrev pub not_text : KeyedFault
not_text = record { fault = Utf8; key = None }

-- the payload is the string of a text that isn't UTF-8
abbrev pub SpellsNoText : List ℕ → Type 0
SpellsNoText p = (text : List ℕ) × IsString p text × ¬ IsUtf8 text

-- an inner length from -4 to -1
abbrev pub Overflows : ℤ → Type 0
Overflows inner = (negsuc 3 ≤ℤ inner) × (inner ≤ℤ negsuc 0)

-- the fault of `outer`, the bytes of an old binary
pub data OldBinaryFault (key outer : List ℕ) (fault : KeyedFault) : Type 0 where
  -- there are fewer than four
  no_inner_length : length outer < 4 → fault ≡ malformed_at reason.OldNoInner key → OldBinaryFault key outer fault
  -- the inner length is from -4 to -1
  overflow : (inner : ℤ) → 4 ≤ length outer → IsLe32 (take 4 outer) inner → Overflows inner → fault ≡ malformed reason.AddOverflow → OldBinaryFault key outer fault
  -- the inner length is any other, and isn't their number less four
  wrong_inner_length : (inner : ℤ) → 4 ≤ length outer → IsLe32 (take 4 outer) inner → (¬ Overflows inner) → (inner +ℤ pos 4) ≢ pos (length outer)
      → fault ≡ malformed_at reason.OldWrongInner key → OldBinaryFault key outer fault

-- after its four length bytes, a code with scope doesn't begin with a string
abbrev pub HasNoCode : List ℕ → Type 0
HasNoCode p = HasNoString (drop 4 p)

-- the fault of a code with scope
pub data ScopeFault (key p : List ℕ) (fault : KeyedFault) : Type 0 where
  -- it has fewer than 14 bytes
  too_small : length p < 14 → fault ≡ malformed_at reason.CodeTooSmall key → ScopeFault key p fault
  -- no string follows its length, for this reason
  no_code : (why : Reason) → 14 ≤ length p → HasNoCode p → IsStringReason (drop 4 p) why → fault ≡ malformed why → ScopeFault key p fault
  -- the text of the string isn't UTF-8
  code_no_text : (code scope : List ℕ) → 14 ≤ length p → IsCodeWithScope p code scope → (¬ IsUtf8 code) → fault ≡ not_text → ScopeFault key p fault
  -- the rest has no envelope, for this reason
  no_scope : (code scope : List ℕ) (why : Reason) → 14 ≤ length p → IsCodeWithScope p code scope → IsUtf8 code → Refuses scope why → fault ≡ malformed why → ScopeFault key p fault

-- the payload p of this kind, under this key, means this fault; a kind that isn't here means none
abbrev pub MeansFault : ElementType → List ℕ → List ℕ → KeyedFault → Type 0
MeansFault kind.String key p fault = SpellsNoText p × (fault ≡ not_text)
MeansFault kind.JavaScriptCode key p fault = SpellsNoText p × (fault ≡ not_text)
MeansFault kind.Symbol key p fault = SpellsNoText p × (fault ≡ not_text)
MeansFault kind.DbPointer key p fault = (namespace id : List ℕ) × IsDbPointer p namespace id × (¬ IsUtf8 namespace) × (fault ≡ not_text)
MeansFault kind.Boolean key p fault = (byte : ℕ) × (p ≡ byte ∷ []) × (1 < byte) × (fault ≡ malformed_at (reason.BadBoolean byte) key)
MeansFault kind.Binary key p fault = (outer : List ℕ) × IsBinary p 2 outer × OldBinaryFault key outer fault
MeansFault kind.JavaScriptCodeWithScope key p fault = ScopeFault key p fault
MeansFault _ key p fault = ⊥

-- what a frame means
pub data Meaning : Type 0 where
  value : RawValue → Meaning
  faulty : KeyedFault → Meaning

-- what this frame means
abbrev pub Means : Frame → Meaning → Type 0
Means f (value v) = MeansValue f.kind f.payload v
Means f (faulty fault) = MeansFault f.kind f.key f.payload fault
