-- How an input is searched for documents that count: which places are looked at, which are left out, and what that costs. s is the rest of
-- the input, from the offset `at` on; places are counted from the front of s.
use Rattle.std.specs.Prelude.{◌≡◌, ◌⊎◌, ◌<◌, ◌≤◌, ◌+◌, ℕ, suc, List, [], ◌∷◌, ◌++◌, Bool, true, false, ◌&&◌, drop, length, take}
use Rattle.raw_view.specs.Frame.Envelope.{IsEnvelope}
use Rattle.raw_view.specs.Frame.Kind.{tag_of}
use Rattle.raw_view.specs.declared.element_type.ElementType.{ElementType}
use Rattle.raw_tree.specs.declared.reader.limits.Limits.{Limits}
use Rattle.raw_resync.specs.Pieces.{IsPiece}
use Rattle.raw_resync.specs.Resync.{EndsInKey, IsFramed}
use Rattle.raw_resync.specs.Charge.{HasRoom, IsProbed, IsWalked, charged}
use Rattle.raw_resync.specs.declared.length.Length.{Length}
use Rattle.raw_resync.specs.declared.length.Length.TheVariants as lengths
use Rattle.raw_resync.specs.declared.work.Work.{Work}

-- a tag follows the length of b
abbrev pub IsBegun : List ℕ → Type 0
IsBegun b = (kind : ElementType) × (r : List ℕ) × (drop 4 b ≡ tag_of kind ∷ r)

-- A document that counts may begin at this place: a piece of over 8 bytes with an envelope does, a tag follows its length, and the bytes
-- before it don't end as they do before a nested one, or before the number of an int32. No other place is looked into or charged.
pub record IsLikely (limits : Limits) (s : List ℕ) (place : ℕ) : Type 0 where
  pub b : List ℕ
  pub rest : List ℕ
  pub split : drop place s ≡ b ++ rest
  pub piece : IsPiece limits.bytes b
  pub long : 8 < length b
  pub envelope : IsEnvelope b
  pub begun : IsBegun b
  pub alone : ¬ EndsInKey (take place s)

-- there isn't enough for a look into the piece at this place
abbrev pub IsLeftOut : Limits → List ℕ → (at place : ℕ) → Work → Type 0
IsLeftOut limits s at place work = (p : IsLikely limits s place) × ¬ HasRoom work (length p.b) (at + (place + length p.b))

-- the piece at this place is looked into, which shows whether it is an undamaged document, and is charged
abbrev pub LooksInto : Limits → List ℕ → (at place : ℕ) → (old new : Work) → Bool → Type 0
LooksInto limits s at place old new is =
    (p : IsLikely limits s place) × HasRoom old (length p.b) (at + (place + length p.b)) × (n : ℕ) × IsProbed limits p.b is n × (new ≡ charged old n (at + (place + length p.b)))

-- documents are found to continue at this place: the input ends there, or a look shows a document that counts
abbrev pub IsFoundAt : Limits → List ℕ → (at place : ℕ) → (old new : Work) → Type 0
IsFoundAt limits s at place old new = ((drop place s ≡ []) × (new ≡ old)) ⊎ LooksInto limits s at place old new true

-- documents aren't found to continue at this place: none that counts may begin there; or it is left out; or a look shows damage
abbrev pub IsPassedAt : Limits → List ℕ → (at place : ℕ) → (old new : Work) → Type 0
IsPassedAt limits s at place old new =
    (place < length s)
    × (((¬ IsLikely limits s place) × (new ≡ old)) ⊎ (IsLeftOut limits s at place old × (new ≡ old)) ⊎ LooksInto limits s at place old new false)

-- The places from `from` on and before `to` are passed one after another. `work` says what searches cost before each place, `all` whether
-- none is left out.
pub record PassesOver (limits : Limits) (s : List ℕ) (at from to : ℕ) (old new : Work) (all : Bool) : Type 0 where
  pub work : ℕ → Work
  pub start : work from ≡ old
  pub end : work to ≡ new
  pub each : (place : ℕ) → from ≤ place → place < to → IsPassedAt limits s at place (work place) (work (suc place))
  pub whole : all ≡ true → (place : ℕ) → from ≤ place → place < to → ¬ IsLeftOut limits s at place (work place)
  pub some : all ≡ false → (place : ℕ) × (from ≤ place) × (place < to) × IsLeftOut limits s at place (work place)

-- The elements of the piece of `len` bytes at the front of s are walked and charged, which shows whether they follow one another up to its
-- end; or there isn't enough for it.
abbrev pub Walks : (at : ℕ) → List ℕ → (len : ℕ) → (old new : Work) → Length → Type 0
Walks at s len old new lengths.Explained = HasRoom old len (at + len) × IsFramed (take len s) × (n : ℕ) × IsWalked (take len s) n × (new ≡ charged old n (at + len))
Walks at s len old new lengths.Unexplained = HasRoom old len (at + len) × (¬ IsFramed (take len s)) × (n : ℕ) × IsWalked (take len s) n × (new ≡ charged old n (at + len))
Walks at s len old new lengths.LeftOut = (¬ HasRoom old len (at + len)) × (new ≡ old)

-- documents are found to continue at this place inside the piece of `len` bytes at the front of s, and at none before
abbrev pub IsFoundInside : Limits → List ℕ → (at len : ℕ) → (old new : Work) → (place : ℕ) → (all : Bool) → Type 0
IsFoundInside limits s at len old new place all =
    (there : Work) × (0 < place) × (place < len) × PassesOver limits s at 1 place old there all × IsFoundAt limits s at place there new

-- documents are found to continue at the front of t, the rest of an input from this offset on; or that place is left out
abbrev pub IsOpen : Limits → List ℕ → (at : ℕ) → (old new : Work) → (all : Bool) → Type 0
IsOpen limits t at old new true = IsFoundAt limits t at 0 old new
IsOpen limits t at old new false = IsLeftOut limits t at 0 old × (new ≡ old)

-- documents aren't found to continue at the front of t, and that place isn't left out
abbrev pub IsShut : Limits → List ℕ → (at : ℕ) → (old new : Work) → Type 0
IsShut limits t at old new = IsPassedAt limits t at 0 old new × ¬ IsLeftOut limits t at 0 old

-- documents are found to continue at no place inside the piece of `len` bytes at the front of s, but right after it, or that place is left
-- out; `all` says that no place is
abbrev pub GoesOnBehind : Limits → List ℕ → (at len : ℕ) → (old new : Work) → (all : Bool) → Type 0
GoesOnBehind limits s at len old new all =
    (there : Work) × (a : Bool) × (b : Bool) × PassesOver limits s at 1 len old there a × IsOpen limits (drop len s) (at + len) there new b × (all ≡ (a && b))

-- documents are found to continue inside the piece, or not right after it
abbrev pub GoesOnElsewhere : Limits → List ℕ → (at len : ℕ) → (old new : Work) → Type 0
GoesOnElsewhere limits s at len old new =
    ((place : ℕ) × (all : Bool) × IsFoundInside limits s at len old new place all)
    ⊎ ((there : Work) × (all : Bool) × PassesOver limits s at 1 len old there all × IsShut limits (drop len s) (at + len) there new)

-- The length of the damaged document of `len` bytes at the front of s is believed. Its elements explain it; or there isn't enough to know; or
-- they don't, and documents are found to continue after it and at no place inside.
abbrev pub BelievesLength : Limits → List ℕ → (at len : ℕ) → (old new : Work) → (all : Bool) → Type 0
BelievesLength limits s at len old new all =
    (Walks at s len old new lengths.Explained × (all ≡ true))
    ⊎ (Walks at s len old new lengths.LeftOut × (all ≡ false))
    ⊎ ((mid : Work) × Walks at s len old mid lengths.Unexplained × GoesOnBehind limits s at len mid new all)

-- The length isn't believed: its elements don't explain it, and documents are found to continue elsewhere.
abbrev pub DoubtsLength : Limits → List ℕ → (at len : ℕ) → (old new : Work) → Type 0
DoubtsLength limits s at len old new = (mid : Work) × Walks at s len old mid lengths.Unexplained × GoesOnElsewhere limits s at len mid new
