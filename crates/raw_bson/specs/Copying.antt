-- Copies of a document that are made element by element. Each element is left out, kept as it is, or replaced.
use Rattle.std.specs.Prelude.{◌≡◌, ◌⊎◌, ℕ, List, [], ◌∷◌, ◌++◌, drop, length, Option}
use Rattle.raw_view.specs.Errors.{IsOutOfMemory, TellsFault}
use Rattle.raw_view.specs.Frame.Number.{max_length}
use Rattle.raw_view.specs.Frame.{Frame, Fault, Done, Stopped, IsFrame, IsWalk, LeadsTo}
use Rattle.raw_view.specs.Meaning.{RawValue}
use Rattle.raw_view.specs.declared.error.Error.{Error}
use Rattle.raw_view.specs.declared.error.ErrorKind.TheVariants as kind
use Rattle.raw_view.specs.declared.error.Reason.TheVariants as reason
use Rattle.raw_bson.specs.Append.{HaveNoShortScope, HoldsFrames, RefusesAppend, RefusesLength, appended_bytes, value_frame}

-- these frames become those; `Gives` says what one frame becomes
abbrev pub GiveFrames : (Frame → List Frame → Type 0) → List Frame → List Frame → Type 0
GiveFrames Gives [] given = given ≡ []
GiveFrames Gives (f ∷ fs) given = (one : List Frame) × (more : List Frame) × Gives f one × GiveFrames Gives fs more × (given ≡ one ++ more)

-- the walk of b ends at its final 0, and the walk of a is what the frames of b become, unless one of these is a short code with scope
pub record IsCopy (Gives : Frame → List Frame → Type 0) (b a : List ℕ) : Type 0 where
  pub frames : List Frame
  pub given : List Frame
  pub walk : IsWalk (drop 4 b) frames Done
  pub gives : GiveFrames Gives frames given
  pub holds : HaveNoShortScope given → HoldsFrames a given

-- the walk of b stops, and the error says how
abbrev pub TellsStop : List ℕ → Error → Type 0
TellsStop b e = (frames : List Frame) × (fault : Fault) × (key : Option (List ℕ)) × IsWalk (drop 4 b) frames (Stopped fault key) × TellsFault e fault key

-- Why no more elements of b are appended to a copy that leaves elements out: memory ran out; or the copy would be too long, since b has the
-- greatest length, and an element contains its final 0.
abbrev pub RefusesElement : List ℕ → Error → Type 0
RefusesElement b e = IsOutOfMemory e ⊎ ((e.kind ≡ kind.MalformedValue reason.TooLong) × (length b ≡ max_length))

-- frames of b come before this one, and the copy holds what they become
pub record CopiesUpTo (Gives : Frame → List Frame → Type 0) (b copy : List ℕ) (f : Frame) : Type 0 where
  pub before : List Frame
  pub given : List Frame
  pub rest : List ℕ
  pub behind : List ℕ
  pub leads : LeadsTo (drop 4 b) before rest
  pub next : IsFrame rest f behind
  pub gives : GiveFrames Gives before given
  pub holds : HaveNoShortScope given → HoldsFrames copy given

-- why what a frame becomes isn't appended to the copy: the frame itself, or a value under its key
abbrev pub RefusesFrame : (Frame → List Frame → Type 0) → List ℕ → Frame → Error → Type 0
RefusesFrame Gives copy f e =
    (Gives f (f ∷ []) × RefusesLength (length (appended_bytes copy f)) e.kind)
    ⊎ ((v : RawValue) × Gives f (value_frame f.key v ∷ []) × RefusesAppend copy f.key v e.kind)

-- Why such a copy of b isn't made: memory ran out; or the walk stops; or after what was copied, what a frame becomes can't be appended, or
-- can't be computed, for which `Inside` gives the reason.
pub record EndsCopy (Gives : Frame → List Frame → Type 0) (Inside : Frame → Error → Type 0) (b : List ℕ) (e : Error) : Type 0 where
  pub why :
      IsOutOfMemory e
      ⊎ TellsStop b e
      ⊎ ((copy : List ℕ) × (f : Frame) × CopiesUpTo Gives b copy f × (RefusesFrame Gives copy f e ⊎ Inside f e))
