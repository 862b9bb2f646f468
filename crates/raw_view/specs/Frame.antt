-- What is in a document: frames, and where they end. These are relations between whole byte lists. In all of them s is
-- what is left of a document, p is a payload, and r is what follows the payload. That their elements are bytes is part
-- of the envelope of the document.
pub mod Number
pub mod Format
pub mod Envelope
pub mod FirstDocument
pub mod Kind
pub mod ElementSteps
pub mod Front
pub mod Reasons
use Rattle.std.specs.Prelude.{◌≡◌, ◌≢◌, ◌⊎◌, ℕ, ◌+◌, ◌<◌, ◌≤◌, pos, List, [], ◌∷◌, ◌++◌, length, take, Option, Some, None}
use Rattle.std.specs.Str.{IsUtf8}
use Rattle.bson_model.specs.Bytes.{NulFree}
use Rattle.raw_view.specs.Frame.Number.{max_length, IsLe32}
use Rattle.raw_view.specs.Frame.Envelope.{IsEnvelope}
use Rattle.raw_view.specs.Frame.Format.{c_string, string_payload, plain_binary_payload, regex_payload, pointer_payload, tagged, element_of}
use Rattle.raw_view.specs.Frame.Kind.{tag_of}
use Rattle.raw_view.specs.Frame.Reasons.{IsStringReason, IsDocumentReason, IsBinaryReason, IsScopeReason}
use Rattle.raw_view.specs.declared.element_type.ElementType.{ElementType}
use Rattle.raw_view.specs.declared.element_type.ElementType.TheVariants as kind
use Rattle.raw_view.specs.declared.error.Reason.{Reason}
use Rattle.raw_view.specs.declared.error.Reason.TheVariants as reason

-- p is the string of `text`, which may contain a 0 and need not be UTF-8
pub record IsString (p text : List ℕ) : Type 0 where
  pub fits : length text < max_length
  pub spelled : p ≡ string_payload text

-- p is the string of some text
abbrev pub HasText : List ℕ → Type 0
HasText p = (text : List ℕ) × IsString p text

-- p is the binary with this subtype byte and these bytes
pub record IsBinary (p : List ℕ) (subtype : ℕ) (bytes : List ℕ) : Type 0 where
  pub fits : length bytes ≤ max_length
  pub spelled : p ≡ plain_binary_payload subtype bytes

-- p is the regular expression with this pattern and these options, each a UTF-8 text without a 0
pub record IsRegex (p pattern options : List ℕ) : Type 0 where
  pub spelled : p ≡ regex_payload pattern options
  pub pattern_nul_free : NulFree pattern
  pub pattern_text : IsUtf8 pattern
  pub options_nul_free : NulFree options
  pub options_text : IsUtf8 options

-- p is the pointer with this namespace and this identifier
pub record IsDbPointer (p namespace id : List ℕ) : Type 0 where
  pub fits : length namespace < max_length
  pub id_len : length id ≡ 12
  pub spelled : p ≡ pointer_payload namespace id

-- p and the following bytes r are at least four bytes, which begin with the length of p. So a code with scope is cut
-- off by its declared length alone. If that is less than four, the next element begins inside the length itself. BSON
-- 1.1, `code_w_s`.
pub record HasDeclaredLength (p r : List ℕ) : Type 0 where
  pub enough : 4 ≤ length (p ++ r)
  pub header : IsLe32 (take 4 (p ++ r)) (pos (length p))

-- p is a payload of this kind, followed by r
abbrev pub HasShape : ElementType → List ℕ → List ℕ → Type 0
HasShape kind.Double p r = length p ≡ 8
HasShape kind.String p r = HasText p
HasShape kind.EmbeddedDocument p r = IsEnvelope p
HasShape kind.Array p r = IsEnvelope p
HasShape kind.Binary p r = (subtype : ℕ) × (bytes : List ℕ) × IsBinary p subtype bytes
HasShape kind.Undefined p r = length p ≡ 0
HasShape kind.ObjectId p r = length p ≡ 12
HasShape kind.Boolean p r = length p ≡ 1
HasShape kind.DateTime p r = length p ≡ 8
HasShape kind.Null p r = length p ≡ 0
HasShape kind.RegularExpression p r = (pattern options : List ℕ) × IsRegex p pattern options
HasShape kind.DbPointer p r = (namespace id : List ℕ) × IsDbPointer p namespace id
HasShape kind.JavaScriptCode p r = HasText p
HasShape kind.Symbol p r = HasText p
HasShape kind.JavaScriptCodeWithScope p r = HasDeclaredLength p r
HasShape kind.Int32 p r = length p ≡ 4
HasShape kind.Timestamp p r = length p ≡ 8
HasShape kind.Int64 p r = length p ≡ 8
HasShape kind.Decimal128 p r = length p ≡ 16
HasShape kind.MaxKey p r = length p ≡ 0
HasShape kind.MinKey p r = length p ≡ 0

-- p is a payload of this kind, whatever follows it
abbrev pub HasPayload : ElementType → List ℕ → Type 0
HasPayload kind p = (r : List ℕ) × HasShape kind p r

-- an element's kind, its key and its payload
pub record Frame : Type 0 where
  pub kind : ElementType
  pub key : List ℕ
  pub payload : List ℕ

-- the frame is at the front of s as an element, and r follows it
pub record IsFrame (s : List ℕ) (f : Frame) (r : List ℕ) : Type 0 where
  pub spelled : s ≡ element_of f.kind f.key (f.payload ++ r)
  pub key_nul_free : NulFree f.key
  pub key_utf8 : IsUtf8 f.key
  pub payload_is : HasShape f.kind f.payload r

-- a code with scope whose declared length is less than four
abbrev pub IsShortScope : Frame → Type 0
IsShortScope f = (f.kind ≡ kind.JavaScriptCodeWithScope) × (length f.payload < 4)

-- the frame is an element whatever follows it
abbrev pub StandsAnywhere : Frame → Type 0
StandsAnywhere f = (r : List ℕ) → IsFrame (element_of f.kind f.key (f.payload ++ r)) f r

-- no frame is at the front of s
abbrev pub HasNoFrame : List ℕ → Type 0
HasNoFrame s = (f : Frame) (r : List ℕ) → ¬ IsFrame s f r

-- how reading fails: the bytes are malformed for this reason, or a text isn't UTF-8
pub data Fault : Type 0 where
  Malformed : Reason → Fault
  Utf8 : Fault

-- s is a tag, the key up to the next 0, and what follows that 0
pub record HasKey (s : List ℕ) (key : List ℕ) : Type 0 where
  pub tag : ℕ
  pub behind : List ℕ
  pub spelled : s ≡ tagged tag key behind
  pub nul_free : NulFree key

-- z begins with bytes that aren't UTF-8, up to a 0
abbrev pub BeginsWithBadText : List ℕ → Type 0
BeginsWithBadText z = (x w : List ℕ) × (z ≡ c_string x w) × NulFree x × ¬ IsUtf8 x

-- the pattern ends with a 0 and isn't UTF-8; or the pattern is UTF-8, and the options end with a 0 and aren't
abbrev pub HasBadRegexText : List ℕ → Type 0
HasBadRegexText z = BeginsWithBadText z ⊎ ((x w : List ℕ) × (z ≡ c_string x w) × NulFree x × IsUtf8 x × BeginsWithBadText w)

-- the tag is that of a regular expression, and after the key its pattern or its options aren't UTF-8
abbrev pub HasBadText : ℕ → List ℕ → Type 0
HasBadText tag behind = (tag ≡ tag_of kind.RegularExpression) × HasBadRegexText behind

-- no string is at the front of z
abbrev pub HasNoString : List ℕ → Type 0
HasNoString z = (string behind : List ℕ) → z ≡ string ++ behind → ¬ HasText string

-- why no pointer is at the front of z: no string is there; or fewer than twelve bytes follow the string
abbrev pub IsPointerReason : List ℕ → Reason → Type 0
IsPointerReason z why =
    (HasNoString z × IsStringReason z why)
    ⊎ ((string behind : List ℕ) × (z ≡ string ++ behind) × HasText string × (why ≡ reason.PastEnd (length string + 12) (length z)))

-- Why no payload of this kind is at the front of z. A payload of no bytes is always there. A regular expression whose
-- texts are UTF-8 can only lack a 0.
abbrev pub IsPayloadReason : ElementType → List ℕ → Reason → Type 0
IsPayloadReason kind.Double z why = why ≡ reason.PastEnd 8 (length z)
IsPayloadReason kind.String z why = IsStringReason z why
IsPayloadReason kind.EmbeddedDocument z why = IsDocumentReason z why
IsPayloadReason kind.Array z why = IsDocumentReason z why
IsPayloadReason kind.Binary z why = IsBinaryReason z why
IsPayloadReason kind.Undefined z why = ⊥
IsPayloadReason kind.ObjectId z why = why ≡ reason.PastEnd 12 (length z)
IsPayloadReason kind.Boolean z why = why ≡ reason.PastEnd 1 (length z)
IsPayloadReason kind.DateTime z why = why ≡ reason.PastEnd 8 (length z)
IsPayloadReason kind.Null z why = ⊥
IsPayloadReason kind.RegularExpression z why = why ≡ reason.NoTerminator
IsPayloadReason kind.DbPointer z why = IsPointerReason z why
IsPayloadReason kind.JavaScriptCode z why = IsStringReason z why
IsPayloadReason kind.Symbol z why = IsStringReason z why
IsPayloadReason kind.JavaScriptCodeWithScope z why = IsScopeReason z why
IsPayloadReason kind.Int32 z why = why ≡ reason.PastEnd 4 (length z)
IsPayloadReason kind.Timestamp z why = why ≡ reason.PastEnd 8 (length z)
IsPayloadReason kind.Int64 z why = why ≡ reason.PastEnd 8 (length z)
IsPayloadReason kind.Decimal128 z why = why ≡ reason.PastEnd 16 (length z)
IsPayloadReason kind.MaxKey z why = ⊥
IsPayloadReason kind.MinKey z why = ⊥

-- Where frames end without the final 0: s stops with this fault, and with the key if there is one that is UTF-8.
pub data IsStop (s : List ℕ) (fault : Fault) (key : Option (List ℕ)) : Type 0 where
  -- no byte is left
  no_byte_left : s ≡ [] → fault ≡ Malformed reason.Overflowed → key ≡ None → IsStop s fault key
  -- the key isn't UTF-8
  key_not_utf8 : (k : List ℕ) → HasKey s k → (¬ IsUtf8 k) → fault ≡ Utf8 → key ≡ None → IsStop s fault key
  -- no kind has the tag
  no_such_tag : (k : List ℕ) (at : HasKey s k) → IsUtf8 k → ((t : ElementType) → at.tag ≢ tag_of t)
      → fault ≡ Malformed (reason.InvalidTag at.tag) → key ≡ Some k → IsStop s fault key
  -- the tag is that of a regular expression, and its pattern or its options aren't UTF-8
  regex_not_utf8 : (k : List ℕ) (at : HasKey s k) → IsUtf8 k → HasNoFrame s → HasBadText at.tag at.behind
      → fault ≡ Utf8 → key ≡ Some k → IsStop s fault key
  -- the tag is that of the kind t, and for this reason no payload of t follows the key; its texts are no reason
  no_payload : (k : List ℕ) (at : HasKey s k) (t : ElementType) (why : Reason) → IsUtf8 k → at.tag ≡ tag_of t → HasNoFrame s
      → (¬ HasBadText at.tag at.behind) → IsPayloadReason t at.behind why → fault ≡ Malformed why → key ≡ Some k → IsStop s fault key

-- how a walk ends: at the final 0, or at a stop
pub data End : Type 0 where
  Done : End
  Stopped : Fault → Option (List ℕ) → End

-- the walk ends in this way, with s left
abbrev pub EndsIn : List ℕ → End → Type 0
EndsIn s Done = s ≡ 0 ∷ []
EndsIn s (Stopped fault key) = IsStop s fault key

-- these frames follow one another in s, and the walk ends in this way after them
abbrev pub IsWalk : List ℕ → List Frame → End → Type 0
IsWalk s [] end = EndsIn s end
IsWalk s (f ∷ fs) end = (r : List ℕ) × IsFrame s f r × IsWalk r fs end

-- these frames follow one another in s, and r follows them
abbrev pub LeadsTo : List ℕ → List Frame → List ℕ → Type 0
LeadsTo s [] r = s ≡ r
LeadsTo s (f ∷ fs) r = (t : List ℕ) × IsFrame s f t × LeadsTo t fs r
