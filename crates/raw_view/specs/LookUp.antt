-- Look-up by key and by position.
pub mod ElementLookUp
use Rattle.std.specs.Prelude.{◌≡◌, ◌≢◌, ◌<◌, ◌≤◌, ℕ, List, [], ◌∷◌, length, drop, Option, Some, None}
use Rattle.raw_view.specs.Frame.{Frame, IsFrame, End, Done, Stopped, IsWalk, LeadsTo}
use Rattle.raw_view.specs.Meaning.{Meaning, faulty, Means}

-- this frame has the key
abbrev pub HasThisKey : List ℕ → Frame → Type 0
HasThisKey key f = f.key ≡ key

-- none of these frames has the key
abbrev pub HasNoKey : List ℕ → List Frame → Type 0
HasNoKey key [] = Unit {0}
HasNoKey key (f ∷ fs) = (f.key ≢ key) × HasNoKey key fs

-- what a look-up of an element finds: this frame; or no frame, and the walk ends in this way
pub data FoundElement : Type 0 where
  found : Frame → FoundElement
  missing : End → FoundElement

-- What a look-up of an element by key finds in the document b: the first frame of the walk with this key; or no frame
-- has it. Keys are compared byte by byte. What follows the found frame doesn't matter.
abbrev pub FindsElement : List ℕ → List ℕ → FoundElement → Type 0
FindsElement b key (found f) = (passed : List Frame) × (s : List ℕ) × (r : List ℕ) × LeadsTo (drop 4 b) passed s × HasNoKey key passed × IsFrame s f r × HasThisKey key f
FindsElement b key (missing end) = (frames : List Frame) × IsWalk (drop 4 b) frames end × HasNoKey key frames

-- what a look-up of an element by number, counted from 0, finds in the document b; or the walk has no such frame
abbrev pub FindsElementAt : List ℕ → ℕ → FoundElement → Type 0
FindsElementAt b number (found f) = (passed : List Frame) × (s : List ℕ) × (r : List ℕ) × LeadsTo (drop 4 b) passed s × (length passed ≡ number) × IsFrame s f r
FindsElementAt b number (missing end) = (frames : List Frame) × IsWalk (drop 4 b) frames end × (length frames ≤ number)

-- what a look-up finds at the end of the walk: the stop, or nothing
abbrev pub found_at_end : End → Option Meaning
found_at_end Done = None
found_at_end (Stopped fault key) = Some (faulty (record { fault = fault; key = key }))

-- the answer is the meaning of the frame
abbrev pub IsMeant : Frame → Option Meaning → Type 0
IsMeant f answer = (m : Meaning) × Means f m × (answer ≡ Some m)

-- the answer is the meaning of the found element; if there is none, the stop, or nothing
abbrev pub MeansFound : FoundElement → Option Meaning → Type 0
MeansFound (found f) answer = IsMeant f answer
MeansFound (missing end) answer = answer ≡ found_at_end end

-- What a look-up by key finds in the document b: the meaning of the first frame with the key; otherwise the stop;
-- otherwise nothing.
pub record LooksUp (b key : List ℕ) (answer : Option Meaning) : Type 0 where
  pub element : FoundElement
  pub finds : FindsElement b key element
  pub means : MeansFound element answer

-- what is at a position of a walk: a frame; after the last frame, the end; after that, nothing
pub data FoundItem : Type 0 where
  at_frame : Frame → FoundItem
  at_end : End → FoundItem
  past_end : FoundItem

-- this is at this position of the document b, counted from 0
abbrev pub FindsItem : List ℕ → ℕ → FoundItem → Type 0
FindsItem b index (at_frame f) = FindsElementAt b index (found f)
FindsItem b index (at_end end) = (frames : List Frame) × IsWalk (drop 4 b) frames end × (length frames ≡ index)
FindsItem b index past_end = (frames : List Frame) × (end : End) × IsWalk (drop 4 b) frames end × (length frames < index)

-- the answer is the meaning of the frame; at the end, the stop or nothing; after the end, nothing
abbrev pub MeansItem : FoundItem → Option Meaning → Type 0
MeansItem (at_frame f) answer = IsMeant f answer
MeansItem (at_end end) answer = answer ≡ found_at_end end
MeansItem past_end answer = answer ≡ None

-- What a look-up by position finds in the document b: the item with that number, counted from 0, where faults and the
-- stop count as items. After the last item it finds nothing.
pub record IsAt (b : List ℕ) (index : ℕ) (answer : Option Meaning) : Type 0 where
  pub item : FoundItem
  pub finds : FindsItem b index item
  pub means : MeansItem item answer

-- whether a key is in a document: a frame has it; or none has, and the walk ends in this way
pub data KeyAnswer : Type 0 where
  present : KeyAnswer
  absent : End → KeyAnswer

-- Whether the key is in the document b. Either a frame of its walk has it, whatever that frame means and whatever
-- follows it; or no frame of the walk has it. Keys are compared byte by byte.
abbrev pub FindsKey : List ℕ → List ℕ → KeyAnswer → Type 0
FindsKey b key present = (passed : List Frame) × (s : List ℕ) × (f : Frame) × (r : List ℕ) × LeadsTo (drop 4 b) passed s × IsFrame s f r × HasThisKey key f
FindsKey b key (absent end) = (frames : List Frame) × IsWalk (drop 4 b) frames end × HasNoKey key frames
