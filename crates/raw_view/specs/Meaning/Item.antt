-- Items: the meanings of the frames of a walk in order, then the stop.
use Rattle.std.specs.Prelude.{◌≡◌, ◌⊎◌, ℕ, List, [], ◌∷◌, drop}
use Rattle.raw_view.specs.Frame.{Frame, IsFrame, IsStop, End, Done, Stopped, IsWalk, LeadsTo}
use Rattle.raw_view.specs.Meaning.{RawValue, KeyedFault, Meaning, value, faulty, Means}

-- a frame's key with the meaning of the frame, or the stop
pub data Item : Type 0 where
  entry : List ℕ → Meaning → Item
  stopped : KeyedFault → Item

-- these are the items of the frames in order, then the stop if there is one
abbrev pub ItemsOf : List Frame → End → List Item → Type 0
ItemsOf [] Done items = items ≡ []
ItemsOf [] (Stopped fault key) items = items ≡ stopped (record { fault = fault; key = key }) ∷ []
ItemsOf (f ∷ fs) end items = (m : Meaning) × (rest : List Item) × Means f m × (items ≡ entry f.key m ∷ rest) × ItemsOf fs end rest

-- the items of the document b
abbrev pub AreItems : List ℕ → List Item → Type 0
AreItems b items = (frames : List Frame) × (end : End) × IsWalk (drop 4 b) frames end × ItemsOf frames end items

-- each item is a key with a value, and none is a fault
abbrev pub AreValues : List Item → Type 0
AreValues [] = Unit {0}
AreValues (entry key (value v) ∷ items) = AreValues items
AreValues (entry key (faulty fault) ∷ items) = ⊥
AreValues (stopped fault ∷ items) = ⊥

-- each of these frames means a value
abbrev pub HaveValues : List Frame → Type 0
HaveValues [] = Unit {0}
HaveValues (f ∷ fs) = ((v : RawValue) × Means f (value v)) × HaveValues fs

-- s stops with this fault, or the frame at its front means it
abbrev pub BeginsWithFault : List ℕ → KeyedFault → Type 0
BeginsWithFault s fault = IsStop s fault.fault fault.key ⊎ ((f : Frame) × (r : List ℕ) × IsFrame s f r × Means f (faulty fault))

-- The first fault of one level of the document b, after frames that mean values. Nested documents are not looked into.
abbrev pub HasFirstFault : List ℕ → KeyedFault → Type 0
HasFirstFault b fault = (passed : List Frame) × (s : List ℕ) × LeadsTo (drop 4 b) passed s × HaveValues passed × BeginsWithFault s fault
