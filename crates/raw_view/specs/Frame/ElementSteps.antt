-- What iteration over elements returns, in terms of the walk.
use Rattle.std.specs.Prelude.{◌≡◌, ℕ, ◌+◌, ◌/◌, List, [], ◌∷◌, length, Option, None, Some, Result, Ok, Err}
use Rattle.std.specs.Iterator.{Count, at_most}
use Rattle.raw_view.specs.declared.element.RawElement.{RawElement}
use Rattle.raw_view.specs.declared.error.Error.{Error}
use Rattle.raw_view.specs.Errors.{TellsFault}
use Rattle.raw_view.specs.Frame.{Frame, IsFrame, Fault, IsStop, End, Done, Stopped, LeadsTo}
use Rattle.raw_view.specs.Meaning.Item.{Item, ItemsOf, AreValues}

-- the frame that an element views
abbrev pub frame_of : RawElement → Frame
frame_of e = record { kind = e.kind; key = e.key.now; payload = e.payload.now }

-- What a call of `next` returns. The state is the remaining bytes, and nothing after a stop.
abbrev pub StepsElement : Option (List ℕ) → Option (Result RawElement Error) → Option (List ℕ) → Type 0
StepsElement None item t = (item ≡ None) × (t ≡ None)
StepsElement (Some s) None t = (s ≡ 0 ∷ []) × (t ≡ Some s)
StepsElement (Some s) (Some (Ok e)) t = (r : List ℕ) × IsFrame s (frame_of e) r × (t ≡ Some r)
StepsElement (Some s) (Some (Err e)) t = (fault : Fault) × (key : Option (List ℕ)) × IsStop s fault key × TellsFault e fault key × (t ≡ None)

-- how many items are left at most: an element takes at least two bytes
abbrev pub items_left : Option (List ℕ) → Count
items_left None = at_most 0
items_left (Some s) = at_most (length s / 2 + 1)

-- the items are the frames in order, and then the stop if there is one
abbrev pub ListsWalk : List (Result RawElement Error) → List Frame → End → Type 0
ListsWalk [] [] Done = Unit {0}
ListsWalk [] [] (Stopped fault key) = ⊥
ListsWalk [] (f ∷ fs) end = ⊥
ListsWalk (Ok e ∷ items) [] end = ⊥
ListsWalk (Ok e ∷ items) (f ∷ fs) end = (frame_of e ≡ f) × ListsWalk items fs end
ListsWalk (Err e ∷ []) [] Done = ⊥
ListsWalk (Err e ∷ []) [] (Stopped fault key) = TellsFault e fault key
ListsWalk (Err e ∷ []) (f ∷ fs) end = ⊥
ListsWalk (Err e ∷ _ ∷ _) fs end = ⊥

-- these frames of s were read, and they lead to the remaining bytes
abbrev pub HasRead : List ℕ → List Frame → Option (List ℕ) → Type 0
HasRead s fs None = ⊥
HasRead s fs (Some r) = LeadsTo s fs r

-- these items of s were read, each a value, and their frames lead to the remaining bytes
pub record HasReadItems (s : List ℕ) (items : List Item) (left : Option (List ℕ)) : Type 0 where
  pub frames : List Frame
  pub read : HasRead s frames left
  pub items_are : ItemsOf frames Done items
  pub values : AreValues items
