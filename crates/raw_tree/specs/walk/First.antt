-- The first place of a document at which what is sought is found, depth first in byte order. The bytes b of a document or
-- of an array have an envelope.
use Rattle.std.specs.Prelude.{◌≡◌, ◌⊎◌, ◌+◌, ◌++◌, ℕ, suc, zero, List, [], ◌∷◌, Option, Some, drop, length}
use Rattle.raw_view.specs.Frame.{Frame, IsFrame, LeadsTo}
use Rattle.raw_view.specs.Meaning.{RawValue, Means, value}
use Rattle.raw_view.specs.Meaning as raw

-- bytes are read as a document, or as an array, whose keys are ignored
pub data Sort : Type 0 where
  as_document : Sort
  as_array : Sort

-- the value holds these nested bytes, as a document or as an array
abbrev pub HoldsAs : RawValue → Sort → List ℕ → Type 0
HoldsAs (raw.single l) sort d = ⊥
HoldsAs (raw.document e) sort d = (sort ≡ as_document) × (d ≡ e)
HoldsAs (raw.array e) sort d = (sort ≡ as_array) × (d ≡ e)
HoldsAs (raw.scoped code e) sort d = (sort ≡ as_document) × (d ≡ e)

-- A step of a path: the number of an element in its level, counted from 0, and its key. The number of a stop is the
-- number of elements before it, and it has no key.
pub record Step : Type 0 where
  pub number : ℕ
  pub key : Option (List ℕ)

-- s is the end of b from this offset on
abbrev pub BeginsAt : List ℕ → List ℕ → ℕ → Type 0
BeginsAt b s offset = offset + length s ≡ length b

-- Where in b a place is that is in the nested bytes of a frame. The frame begins s, an end of b, and its nested bytes begin
-- `nested`, a later end of b. The place is `inside` bytes after those begin. With no further step it is the frame.
abbrev pub IsOffsetOf : (b s nested : List ℕ) → List Step → (inside offset : ℕ) → Type 0
IsOffsetOf b s nested [] inside offset = BeginsAt b s offset
IsOffsetOf b s nested (step ∷ steps) inside offset = (start : ℕ) × BeginsAt b nested start × (offset ≡ start + inside)

-- x is in the nested bytes of the frame at the front of s, to which these frames of b lead; `Nested` says where in these
abbrev pub IsInside : {X : Type 0} → (Sort → List ℕ → X → List Step → ℕ → Type 0) → List Frame → (b s : List ℕ) → X → List Step → ℕ → Type 0
IsInside Nested passed b s x path offset =
    (f : Frame) × (q : List ℕ) × (v : RawValue) × (sort : Sort) × (d : List ℕ) × (steps : List Step) × (inside : ℕ)
    × IsFrame s f q × Means f (value v) × HoldsAs v sort d × Nested sort d x steps inside
    × (path ≡ record { number = length passed; key = Some f.key } ∷ steps) × IsOffsetOf b s (d ++ q) steps inside offset

-- what is sought in the levels of a document
pub record Sought (X : Type 0) : Type 1 where
  -- it isn't in these first frames of a level, whose nested bytes have at most this many levels
  pub passes : ℕ → Sort → List Frame → Type 0
  -- after these frames of a level, x is at the front of s: it is a stop, or of the frame with this key
  pub is_at : Sort → List Frame → List ℕ → Option (List ℕ) → X → Type 0
  -- a level that is too deep
  pub deep : X

module _ {X : Type 0} (sought : Sought X) where
  -- x is at the front of s, to which these frames of b lead
  abbrev pub IsHere : Sort → List Frame → (b s : List ℕ) → X → List Step → ℕ → Type 0
  IsHere sort passed b s x path offset =
      (key : Option (List ℕ)) × sought.is_at sort passed s key x × (path ≡ record { number = length passed; key = key } ∷ []) × BeginsAt b s offset

  -- nothing is at the front of s
  abbrev pub HasNothing : Sort → List Frame → List ℕ → Type 0
  HasNothing sort passed s = (key : Option (List ℕ)) (y : X) → ¬ sought.is_at sort passed s key y

  -- The first x in these bytes; the path to it; and the offset in these bytes at which it begins. After frames in which it
  -- isn't, it is at the front of what is left, or inside the frame there. These bytes are the first level, and a level deeper
  -- than n is too deep. The path to these bytes themselves is empty, and the offset 0.
  abbrev pub IsFirst : ℕ → Sort → List ℕ → X → List Step → ℕ → Type 0
  IsFirst zero sort b x path offset = (x ≡ sought.deep) × (path ≡ []) × (offset ≡ 0)
  IsFirst (suc n) sort b x path offset =
      (passed : List Frame) × (s : List ℕ) × LeadsTo (drop 4 b) passed s × sought.passes n sort passed
      × (IsHere sort passed b s x path offset ⊎ (HasNothing sort passed s × IsInside (IsFirst n) passed b s x path offset))
