-- Documents in which each text of a value that isn't UTF-8 is replaced. The bytes b of a document or of an array have an envelope.
use Rattle.std.specs.Prelude.{◌≡◌, ◌⊎◌, ◌≤◌, ◌++◌, ℕ, suc, zero, List, [], ◌∷◌, Option, None, Some, Vec, drop, length}
use Rattle.std.specs.Global.{Global}
use Rattle.std.specs.Str.{IsUtf8}
use Rattle.std.specs.Str.Lossy.{utf8_lossy}
use Rattle.bson_model.specs.Tree.{Tree}
use Rattle.bson_model.specs.Leaf.{string, javascript_code, symbol, db_pointer}
use Rattle.raw_view.specs.Frame.{Frame, IsDbPointer, IsString, IsWalk, Done}
use Rattle.raw_view.specs.Frame.Envelope.{IsEnvelope}
use Rattle.raw_view.specs.Frame.Format.{framed}
use Rattle.raw_view.specs.Frame.Number.{max_length}
use Rattle.raw_view.specs.Meaning.{RawValue, Means, IsCodeWithScope, value}
use Rattle.raw_view.specs.Meaning as raw
use Rattle.raw_view.specs.declared.element_type.ElementType.{ElementType}
use Rattle.raw_view.specs.declared.element_type.ElementType.TheVariants as kind
use Rattle.raw_tree.specs.Payload.{element_bytes}
use Rattle.raw_tree.specs.WithinLimits.{ReadsWithin}
use Rattle.raw_tree.specs.declared.reader.limits.Limits.{Limits}

-- The payload p of this kind has this text, which isn't UTF-8, and then this rest: a string, a symbol or a code; the namespace of a pointer, and its
-- identifier; or a code and its scope.
abbrev pub HasBadText : ElementType → (p text rest : List ℕ) → Type 0
HasBadText kind.String p text rest = IsString p text × (¬ IsUtf8 text) × (rest ≡ [])
HasBadText kind.JavaScriptCode p text rest = IsString p text × (¬ IsUtf8 text) × (rest ≡ [])
HasBadText kind.Symbol p text rest = IsString p text × (¬ IsUtf8 text) × (rest ≡ [])
HasBadText kind.DbPointer p text rest = IsDbPointer p text rest × ¬ IsUtf8 text
HasBadText kind.JavaScriptCodeWithScope p text rest = IsCodeWithScope p text rest × (¬ IsUtf8 text) × (14 ≤ length p)
HasBadText _ p text rest = ⊥

-- the value of this kind with this text and this rest
abbrev pub IsValueWith : ElementType → (text rest : List ℕ) → RawValue → Type 0
IsValueWith kind.String text rest v = v ≡ raw.single (string text)
IsValueWith kind.JavaScriptCode text rest v = v ≡ raw.single (javascript_code text)
IsValueWith kind.Symbol text rest v = v ≡ raw.single (symbol text)
IsValueWith kind.DbPointer text rest v = v ≡ raw.single (db_pointer text rest)
IsValueWith kind.JavaScriptCodeWithScope text rest v = IsEnvelope rest × (v ≡ raw.scoped text rest)
IsValueWith _ text rest v = ⊥

-- The payload p of this kind means this value once its text, which isn't UTF-8, is replaced: each part of the text that isn't well-formed is U+FFFD then,
-- as in `String::from_utf8_lossy`.
abbrev pub MeansReplaced : ElementType → List ℕ → RawValue → Type 0
MeansReplaced k p v = (text rest : List ℕ) × HasBadText k p text rest × IsValueWith k (utf8_lossy text) rest v

-- where the string begins in a payload of this kind that has one; no public contract cites it
abbrev pub string_at : ElementType → List ℕ → List ℕ
string_at kind.JavaScriptCodeWithScope p = drop 4 p
string_at _ p = p

-- the frame means this value, or means it once its text is replaced
abbrev pub MeansKept : Frame → RawValue → Type 0
MeansKept f v = Means f (value v) ⊎ MeansReplaced f.kind f.payload v

-- Replacing; `Nested` says what nested bytes become.
module _ (Nested : List ℕ → List ℕ → Type 0) where
  -- the value becomes this one: what is nested in it is replaced
  abbrev pub Becomes : RawValue → RawValue → Type 0
  Becomes (raw.single l) w = w ≡ raw.single l
  Becomes (raw.document d) w = (e : List ℕ) × Nested d e × (w ≡ raw.document e)
  Becomes (raw.array d) w = (e : List ℕ) × Nested d e × (w ≡ raw.array e)
  Becomes (raw.scoped code d) w = (e : List ℕ) × Nested d e × (w ≡ raw.scoped code e)

  -- the frames become these bytes: an element for each, under the same key
  abbrev pub BecomeBytes : List Frame → List ℕ → Type 0
  BecomeBytes [] bytes = bytes ≡ []
  BecomeBytes (f ∷ fs) bytes = (v w : RawValue) × (rest : List ℕ) × MeansKept f v × Becomes v w × BecomeBytes fs rest × (bytes ≡ element_bytes f.key w ++ rest)

  -- s, the rest of a document or an array, becomes these bytes and a final 0: its walk ends at one
  abbrev pub RestBecomes : List ℕ → List ℕ → Type 0
  RestBecomes s bytes = (frames : List Frame) × IsWalk s frames Done × BecomeBytes frames bytes

-- The bytes b, which have at most n levels, become a. What follows their length is replaced, and the lengths of a are its own.
abbrev pub BecomesUpTo : ℕ → List ℕ → List ℕ → Type 0
BecomesUpTo zero b a = ⊥
BecomesUpTo (suc n) b a = (inside : List ℕ) × RestBecomes (BecomesUpTo n) (drop 4 b) inside × (a ≡ framed inside)

-- the document b, which has few enough levels, becomes a, which has few enough bytes; all its elements can be read, and no value has a fault but texts
pub record IsReplaced (limits : Limits) (b a : List ℕ) : Type 0 where
  pub becomes : BecomesUpTo limits.depth b a
  pub few_bytes : length a ≤ limits.bytes
  pub fits : length a ≤ max_length

-- what is returned for the document b: what it becomes, which is one document; or nothing if it becomes none
abbrev pub TellsReplaced : Limits → List ℕ → Option (Vec ℕ Global) → Type 0
TellsReplaced limits b None = (a : List ℕ) → ¬ IsReplaced limits b a
TellsReplaced limits b (Some made) = IsReplaced limits b made.items × ((a : List ℕ) → IsReplaced limits b a → a ≡ made.items)

-- what is returned is a document that is read as a tree within the limits
abbrev pub IsWithin : Limits → Option (Vec ℕ Global) → Type 0
IsWithin limits None = Unit {0}
IsWithin limits (Some made) = IsEnvelope made.items × ((t : Tree) × ReadsWithin limits made.items t)
