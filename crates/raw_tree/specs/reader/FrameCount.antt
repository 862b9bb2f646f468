-- The number of frames in a document at all levels, and the number of frames up to its first fault. The bytes b of a
-- document or of an array have an envelope.
use Rattle.std.specs.Prelude.{◌≡◌, ◌⊎◌, ℕ, suc, zero, ◌+◌, ◌-◌, ◌/◌, ◌≤◌, List, [], ◌∷◌, length, drop, Result, Ok, Err}
use Rattle.bson_model.specs.Tree.{Tree}
use Rattle.raw_view.specs.Frame.Envelope.{IsEnvelope}
use Rattle.raw_view.specs.Errors.{IsOutOfMemory}
use Rattle.raw_view.specs.Frame.{Frame, HasNoFrame, IsFrame, End, IsWalk, LeadsTo}
use Rattle.raw_view.specs.Meaning.{KeyedFault, Meaning, Means, value, faulty}
use Rattle.raw_view.specs.Meaning as raw
use Rattle.raw_view.specs.declared.error.Error.{Error}
use Rattle.raw_tree.specs.reader.Reading.{StandForEach, ReadsAs, FirstFaultOfFrame}

-- counts; `Nested` says how many frames are in nested bytes
module _ (Nested : List ℕ → ℕ → Type 0) where
  -- n is what `Nested` says of the nested bytes in the meaning of a frame; 0 for a value that holds no others, and for a
  -- fault
  abbrev pub HasInside : Meaning → ℕ → Type 0
  HasInside (value (raw.single l)) n = n ≡ 0
  HasInside (value (raw.document d)) n = Nested d n
  HasInside (value (raw.array d)) n = Nested d n
  HasInside (value (raw.scoped code d)) n = Nested d n
  HasInside (faulty fault) n = n ≡ 0

  -- the number of these frames and of the frames inside their meanings
  abbrev pub CountsFrames : List Frame → ℕ → Type 0
  CountsFrames [] n = n ≡ 0
  CountsFrames (f ∷ fs) n = (m : Meaning) × (inside : ℕ) × (others : ℕ) × Means f m × HasInside m inside × CountsFrames fs others × (n ≡ 1 + inside + others)

-- n frames are in these bytes, which have at most this many levels
abbrev pub HasFrameCountUpTo : ℕ → List ℕ → ℕ → Type 0
HasFrameCountUpTo zero b n = ⊥
HasFrameCountUpTo (suc levels) b n = (frames : List Frame) × (end : End) × IsWalk (drop 4 b) frames end × CountsFrames (HasFrameCountUpTo levels) frames n

-- the number of frames in these bytes: those of their walk, and those of all bytes that are nested in them
abbrev pub HasFrameCount : List ℕ → ℕ → Type 0
HasFrameCount b n = (levels : ℕ) × HasFrameCountUpTo levels b n

-- n frames are at the front of r up to the first fault, or to the end; `Nested` says how many are in nested bytes
pub data CountsFront (Nested : List ℕ → ℕ → Type 0) (r : List ℕ) (n : ℕ) : Type 0 where
  -- no frame is left: the walk ends there, or stops
  over : HasNoFrame r → n ≡ 0 → CountsFront Nested r n
  -- the frame there has the first fault; it counts, and so do the frames inside its meaning up to the fault
  at_fault : (f : Frame) (q : List ℕ) (m : Meaning) (fault : KeyedFault) (inside : ℕ) → IsFrame r f q → Means f m → FirstFaultOfFrame f fault → HasInside Nested m inside
      → n ≡ 1 + inside → CountsFront Nested r n

-- n frames are in these bytes up to their first fault, which is at most this many levels deep, or to the end: frames that
-- stand for trees, with all frames inside them, then those at the front of what is left
abbrev pub HasFramesUntilUpTo : ℕ → List ℕ → ℕ → Type 0
HasFramesUntilUpTo zero b n = ⊥
HasFramesUntilUpTo (suc levels) b n =
    (passed : List Frame) × (pairs : List (List ℕ × Tree)) × (r : List ℕ) × (before front : ℕ) × LeadsTo (drop 4 b) passed r × StandForEach ReadsAs passed pairs
    × CountsFrames HasFrameCount passed before × CountsFront (HasFramesUntilUpTo levels) r front × (n ≡ before + front)

-- the frames of these bytes up to their first fault, including the frame that has it; all of them if there is none
abbrev pub HasFramesUntilFault : List ℕ → ℕ → Type 0
HasFramesUntilFault b n = (levels : ℕ) × HasFramesUntilUpTo levels b n

-- all bytes with an envelope have exactly one frame count, which is at most half the number of bytes after the length
abbrev pub AllHaveOneFrameCount : Type 0
AllHaveOneFrameCount = (b : List ℕ) → IsEnvelope b → (n : ℕ) × HasFrameCount b n × (n ≤ (length b - 4) / 2) × ((other : ℕ) → HasFrameCount b other → other ≡ n)

-- all bytes with an envelope have exactly one number of frames up to the first fault
abbrev pub AllAreCountedOneWay : Type 0
AllAreCountedOneWay = (b : List ℕ) → IsEnvelope b → (n : ℕ) × HasFramesUntilFault b n × ((other : ℕ) → HasFramesUntilFault b other → other ≡ n)

-- What a result of reading b says of this count. With a tree it is the number of all frames. With the first fault it
-- is the number of frames up to it. If memory ran out, it is at most that.
abbrev pub TellsFrames : {X : Type 0} → List ℕ → Result X Error → ℕ → Type 0
TellsFrames b (Ok _) n = HasFramesUntilFault b n × HasFrameCount b n
TellsFrames b (Err e) n = (until : ℕ) × HasFramesUntilFault b until × (n ≤ until) × (IsOutOfMemory e ⊎ (n ≡ until))
