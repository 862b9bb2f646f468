-- What a look at a level finds. Public contracts cite only `size_of` and `HasNoneBefore` of this file.
use Rattle.std.specs.Prelude.{◌≡◌, ◌+◌, ℕ, suc, List, [], ◌∷◌, drop, length, Option, None, Some}
use Rattle.std.specs.Option.{option_copied}
use Rattle.raw_view.specs.Frame.ElementSteps.{frame_of}
use Rattle.bson_model.specs.Tree.{Tree}
use Rattle.raw_view.specs.Frame.{Frame, HasNoFrame, IsFrame, LeadsTo}
use Rattle.raw_view.specs.Frame.Front.{TellsBorrowed}
use Rattle.raw_view.specs.Meaning.{KeyedFault, Means, value}
use Rattle.raw_view.specs.Meaning.Value.{IsSingle, held_value, value_of}
use Rattle.raw_view.specs.declared.element.RawElement.{RawElement}
use Rattle.raw_tree.specs.reader.Reading.{FailsAt, StandForEach, ReadsUpTo}
use Rattle.raw_tree.specs.walk.First.{BeginsAt}
use Rattle.raw_tree.specs.declared.walk.level.Next.{Next}
use Rattle.raw_tree.specs.declared.walk.level.Next.TheVariants as seen

-- the number of bytes of a frame: its tag, its key with a 0, and its payload
abbrev pub size_of : Frame → ℕ
size_of f = length f.key + length f.payload + 2

-- how many bytes remain
abbrev pub left_of : Option (List ℕ) → ℕ
left_of None = 0
left_of (Some s) = length s

-- what a look finds at the front of s, and what is left after it: the final 0; an element whose value holds no level; an
-- element, and the level in its value; or a stop or a fault, with the key of its element
abbrev pub Finds : Option (List ℕ) → Option (List ℕ) → Next → Type 0
Finds None new x = Unit {0}
Finds (Some s) new seen.End = s ≡ 0 ∷ []
Finds (Some s) new (seen.Whole e v) = (r : List ℕ) × IsFrame s (frame_of e) r × Means (frame_of e) (value (value_of v)) × IsSingle (value_of v) × (new ≡ Some r)
Finds (Some s) new (seen.Inside e inner) = (r : List ℕ) × IsFrame s (frame_of e) r × Means (frame_of e) (value (held_value inner)) × (new ≡ Some r)
Finds (Some s) new (seen.Fault key e) = (fault : KeyedFault) × FailsAt s (option_copied key) fault × TellsBorrowed e fault

-- a look finds this
pub record HasLooked (old new : Option (List ℕ)) (x : Next) : Type 0 where
  pub finds : Finds old new x

-- the number of frames that a look reads: one, even if it means a fault; none for the final 0 or a stop
abbrev pub frames_in : Next → ℕ
frames_in seen.End = 0
frames_in (seen.Whole e v) = 1
frames_in (seen.Inside e inner) = 1
frames_in (seen.Fault None e) = 0
frames_in (seen.Fault (Some key) e) = 1

-- no frame is at the front of the rest; or the element is that frame, and this follows it
abbrev pub TakesFrame : Option (List ℕ) → Option RawElement → Option (List ℕ) → Type 0
TakesFrame None e new = e ≡ None
TakesFrame (Some s) None new = HasNoFrame s
TakesFrame (Some s) (Some e) new = (r : List ℕ) × IsFrame s (frame_of e) r × (new ≡ Some r)

-- this many elements of the document b are before this offset, and stand for trees with at most `inside` levels
pub record AreReadBefore (inside : ℕ) (b : List ℕ) (number offset : ℕ) : Type 0 where
  pub frames : List Frame
  pub pairs : List (List ℕ × Tree)
  pub s : List ℕ
  pub reaches : LeadsTo (drop 4 b) frames s
  pub each : StandForEach (ReadsUpTo inside) frames pairs
  pub number_is : number ≡ length frames
  pub begins : BeginsAt b s offset

-- the same, where a document may have `depth` levels in all
abbrev pub HasNoneBefore : ℕ → List ℕ → (number offset : ℕ) → Type 0
HasNoneBefore depth b number offset = (inside : ℕ) → suc inside ≡ depth → AreReadBefore inside b number offset
