-- What is kept of levels while texts are replaced, and what the helpers return. No public contract cites this file.
use Rattle.std.specs.Prelude.{◌≡◌, ◌⊎◌, ◌<◌, ◌≤◌, ◌+◌, ◌++◌, ℕ, suc, List, [], ◌∷◌, Option, None, Some, drop, length}
use Rattle.bson_model.specs.Leaf.{Leaf}
use Rattle.raw_view.specs.Errors.{IsOutOfMemory}
use Rattle.raw_view.specs.Frame.{Frame}
use Rattle.raw_view.specs.Frame.Format.{tagged}
use Rattle.raw_view.specs.Frame.Kind.{tag_of}
use Rattle.raw_view.specs.Frame.Number.{max_length}
use Rattle.raw_view.specs.Meaning.{RawValue, kind_of_raw, single}
use Rattle.raw_view.specs.Meaning.Value.{holding}
use Rattle.raw_view.specs.declared.error.Error.{Error}
use Rattle.raw_view.specs.declared.level.Holder.{Holder}
use Rattle.raw_view.specs.declared.level.Holder.TheVariants as holder
use Rattle.raw_tree.specs.Payload.{element_bytes}
use Rattle.raw_form.specs.Replacing.{Becomes, BecomesUpTo, MeansKept, RestBecomes}
use Rattle.raw_form.specs.Rewriting.{ended_by, header_len, held_opening}
use Rattle.raw_form.specs.declared.replaced.Open.{Open}
use Rattle.raw_form.specs.declared.replaced.Put.{Put}
use Rattle.raw_form.specs.declared.replaced.Put.TheVariants as put

-- the length of the code of a code with scope
abbrev pub code_len_of : Holder → Option ℕ
code_len_of holder.Document = None
code_len_of holder.Array = None
code_len_of (holder.Code code) = Some (length code.now)

-- the tag and the key of a value that holds these nested bytes are appended
abbrev pub begun_with : List ℕ → List ℕ → Holder → List ℕ → List ℕ
begun_with old key h d = old ++ tagged (tag_of (kind_of_raw (holding h d))) key []

-- an element whose value holds these nested bytes is begun, and its level is open
pub record Opens (key : List ℕ) (h : Holder) (d old new : List ℕ) (level : Open) : Type 0 where
  pub elements : level.elements ≡ Some (drop 4 d)
  pub start_is : level.start ≡ length (begun_with old key h d)
  pub code_is : level.code_len ≡ code_len_of h
  pub put : new ≡ begun_with old key h d ++ held_opening h

-- what is put of a frame: its element; or the beginning of the one whose value holds a level; or nothing, since it has a fault that is no text
abbrev pub Puts : Frame → (old new : List ℕ) → Put → Type 0
Puts f old new put.Whole = (l : Leaf) × MeansKept f (single l) × (new ≡ old ++ element_bytes f.key (single l))
Puts f old new (put.Inside level) = (h : Holder) × (d : List ℕ) × MeansKept f (holding h d) × Opens f.key h d old new level
Puts f old new put.Fault = (v : RawValue) → ¬ MeansKept f v

-- there are more bytes then, and no more than a document may have, unless nothing was put
abbrev pub Grows : (old new : ℕ) → Put → Type 0
Grows old new put.Whole = (old < new) × (new ≤ max_length)
Grows old new (put.Inside level) = (old < new) × (new ≤ max_length)
Grows old new put.Fault = Unit {0}

-- memory ran out; or this number of bytes is too large for a document
abbrev pub Exceeds : ℕ → Error → Type 0
Exceeds n e = IsOutOfMemory e ⊎ (max_length < n)

-- memory ran out; or no document has the element of the frame after this number of bytes
abbrev pub ExceedsFor : Frame → ℕ → Error → Type 0
ExceedsFor f n e = IsOutOfMemory e ⊎ ((levels : ℕ) (v w : RawValue) → MeansKept f v → Becomes (BecomesUpTo levels) v w → max_length < n + length (element_bytes f.key w))

-- memory ran out; or what the document b, which may have this many levels, becomes is too long
abbrev pub ExceedsAll : ℕ → List ℕ → Error → Type 0
ExceedsAll levels b e = IsOutOfMemory e ⊎ ((a : List ℕ) → BecomesUpTo levels b a → max_length < length a)

-- what is left of a level becomes these bytes
abbrev pub LeftBecomes : ℕ → Option (List ℕ) → List ℕ → Type 0
LeftBecomes n None x = ⊥
LeftBecomes n (Some s) x = RestBecomes (BecomesUpTo n) s x

-- a level is ended after these bytes
abbrev pub ended_level : Open → List ℕ → List ℕ
ended_level level out = ended_by level.code_len level.start (out ++ 0 ∷ [])

-- Once what is left of these levels, the innermost first, is appended to the bytes and they are ended, the bytes are a. At most n levels may be inside
-- the first.
abbrev pub Completes : ℕ → List Open → (out a : List ℕ) → Type 0
Completes n [] out a = a ≡ out
Completes n (level ∷ levels) out a = (x : List ℕ) × LeftBecomes n level.elements x × Completes (suc n) levels (ended_level level (out ++ x)) a

-- these levels didn't stop, and their beginnings are within this number of bytes
abbrev pub AreOpen : List Open → ℕ → Type 0
AreOpen [] n = Unit {0}
AreOpen (level ∷ levels) n = ((s : List ℕ) × (level.elements ≡ Some s)) × (level.start + header_len level.code_len ≤ n) × AreOpen levels n

-- what is told of the document b, which may have this many levels
abbrev pub TellsMade : ℕ → List ℕ → Option (List ℕ) → Type 0
TellsMade levels b None = (a : List ℕ) → ¬ BecomesUpTo levels b a
TellsMade levels b (Some made) = BecomesUpTo levels b made × ((a : List ℕ) → BecomesUpTo levels b a → a ≡ made)
