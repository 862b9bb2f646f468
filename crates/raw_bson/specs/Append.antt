-- What an append to a document returns, and the bytes after it.
use Rattle.std.specs.Prelude.{◌≡◌, ◌≤◌, ℕ, List, [], ◌∷◌, ◌++◌, length, drop, None, Result, Ok, Err}
use Rattle.bson_model.specs.Bytes.{NulFree}
use Rattle.bson_model.specs.Proper.{IsLeafSubtypeProper}
use Rattle.raw_view.specs.Errors.{key_of}
use Rattle.raw_view.specs.Frame.Format.{framed, inside_of, element_of}
use Rattle.raw_view.specs.Frame.{Frame, IsWalk, Done, IsShortScope}
use Rattle.raw_view.specs.Meaning.{RawValue, single, document, kind_of_raw, Means, value}
use Rattle.raw_view.specs.Frame.Number.{max_length}
use Rattle.raw_view.specs.OneReading.{IsTheWalk}
use Rattle.raw_view.specs.declared.error.Error.{Error}
use Rattle.raw_view.specs.declared.error.ErrorKind.{ErrorKind}
use Rattle.raw_view.specs.declared.error.ErrorKind.TheVariants as kind
use Rattle.raw_view.specs.declared.error.Reason.TheVariants as reason
use Rattle.raw_tree.specs.Payload.{payload_of, IsValueNulFree}

-- the frame of a value under a key
abbrev pub value_frame : List ℕ → RawValue → Frame
value_frame key v = record { kind = kind_of_raw v; key = key; payload = payload_of v }

-- the element of a frame
abbrev pub frame_bytes : Frame → List ℕ
frame_bytes f = element_of f.kind f.key f.payload

-- the document b with one more element in place of the final 0; the old content doesn't matter
abbrev pub appended_bytes : List ℕ → Frame → List ℕ
appended_bytes b f = framed (inside_of b ++ frame_bytes f)

-- the document with one more element is no longer than a document may be
abbrev pub HasRoom : List ℕ → Frame → Type 0
HasRoom b f = length (appended_bytes b f) ≤ max_length

-- Why a document of n bytes isn't made: n is too large; otherwise memory ran out.
abbrev pub RefusesLength : ℕ → ErrorKind → Type 0
RefusesLength n (kind.MalformedValue reason.TooLong) = ¬ (n ≤ max_length)
RefusesLength n kind.OutOfMemory = n ≤ max_length
RefusesLength n _ = ⊥

-- What an append of an element as it is returns, and the bytes after it: one more element; or an error without a key, and b unchanged.
abbrev pub AppendsFrame : List ℕ → Frame → Result (Unit {0}) Error → List ℕ → Type 0
AppendsFrame b f (Ok _) left = HasRoom b f × (left ≡ appended_bytes b f)
AppendsFrame b f (Err e) left = RefusesLength (length (appended_bytes b f)) e.kind × (key_of e ≡ None) × (left ≡ b)

-- neither the key nor a pattern nor options contain a 0
abbrev pub IsNulFreeElement : List ℕ → RawValue → Type 0
IsNulFreeElement key v = NulFree key × IsValueNulFree v

-- Why an append of a value fails: a 0, then the length, then out of memory.
abbrev pub RefusesAppend : List ℕ → List ℕ → RawValue → ErrorKind → Type 0
RefusesAppend b key v (kind.MalformedValue reason.InteriorNul) = ¬ IsNulFreeElement key v
RefusesAppend b key v e = IsNulFreeElement key v × RefusesLength (length (appended_bytes b (value_frame key v))) e

-- What an append of a value to the document b returns, and the bytes after it: one more element; or an error without a key, and b
-- unchanged.
abbrev pub Appends : List ℕ → List ℕ → RawValue → Result (Unit {0}) Error → List ℕ → Type 0
Appends b key v (Ok _) left = IsNulFreeElement key v × HasRoom b (value_frame key v) × (left ≡ appended_bytes b (value_frame key v))
Appends b key v (Err e) left = RefusesAppend b key v e.kind × (key_of e ≡ None) × (left ≡ b)

-- the last frame is a code with scope of declared length less than four: it is three, and the fourth byte of the length is the final 0
abbrev pub EndsInShortScope : List Frame → Type 0
EndsInShortScope frames = (before : List Frame) × (last : Frame) × (frames ≡ before ++ last ∷ []) × IsShortScope last

-- What is read after an append. If the walk of the old content ends at its final 0, and its last frame isn't such a code with scope, it
-- continues with the new frame and ends at the final 0.
abbrev pub KeepsWalk : List ℕ → Frame → List ℕ → Type 0
KeepsWalk b f left = (frames : List Frame) → IsWalk (drop 4 b) frames Done → ¬ EndsInShortScope frames → IsTheWalk (drop 4 left) (frames ++ f ∷ []) Done

-- none of the frames is a short code with scope
abbrev pub HaveNoShortScope : List Frame → Type 0
HaveNoShortScope [] = Unit {0}
HaveNoShortScope (f ∷ fs) = (¬ IsShortScope f) × HaveNoShortScope fs

-- The walk of the document b is these frames, up to its final 0, and none is a short code with scope. This holds of every document that was
-- made by appends of values to an empty one.
pub record HoldsFrames (b : List ℕ) (frames : List Frame) : Type 0 where
  pub walk : IsWalk (drop 4 b) frames Done
  pub no_short_scope : HaveNoShortScope frames

-- the subtype of a binary is the one that its byte gives
abbrev pub IsValueSubtypeProper : RawValue → Type 0
IsValueSubtypeProper (single leaf) = IsLeafSubtypeProper leaf
IsValueSubtypeProper _ = Unit {0}

-- What an append of a value to the document b does to the frames that b holds: these remain, and one more follows, which means the value.
pub record AddsValue (b key : List ℕ) (v : RawValue) (left : List ℕ) : Type 0 where
  pub holds : (frames : List Frame) → HoldsFrames b frames → HoldsFrames left (frames ++ value_frame key v ∷ [])
  pub means : IsValueSubtypeProper v → Means (value_frame key v) (value v)
