-- Look-up of an element by key and by number, and the number of elements. The values of elements don't matter.
use Rattle.std.specs.Prelude.{◌≡◌, ℕ, List, length, drop, Option, Some, None, Result, Ok, Err}
use Rattle.raw_view.specs.Frame.{Frame, End, Done, Stopped, IsWalk}
use Rattle.raw_view.specs.LookUp.{FoundElement, found, missing, FindsElement, FindsElementAt}
use Rattle.raw_view.specs.Frame.ElementSteps.{frame_of}
use Rattle.raw_view.specs.Frame.Front.{TellsBorrowed}
use Rattle.raw_view.specs.declared.element.RawElement.{RawElement}
use Rattle.raw_view.specs.declared.error.BorrowedError.{BorrowedError}

-- the walk ends without the element: nothing at the final 0, otherwise the stop
abbrev pub TellsEnd : Option BorrowedError → End → Type 0
TellsEnd None end = end ≡ Done
TellsEnd (Some e) Done = ⊥
TellsEnd (Some e) (Stopped fault key) = TellsBorrowed e (record { fault = fault; key = key })

-- the result is the found element; or how the walk ends without it
abbrev pub TellsElement : Result (Option RawElement) BorrowedError → FoundElement → Type 0
TellsElement (Ok (Some e)) x = x ≡ found (frame_of e)
TellsElement (Ok None) (found f) = ⊥
TellsElement (Ok None) (missing end) = TellsEnd None end
TellsElement (Err e) (found f) = ⊥
TellsElement (Err e) (missing end) = TellsEnd (Some e) end

-- the number of frames of the walk of the document b, if it ends at the final 0; otherwise its stop
abbrev pub TellsCount : List ℕ → Result ℕ BorrowedError → Type 0
TellsCount b (Ok count) = (frames : List Frame) × IsWalk (drop 4 b) frames Done × (length frames ≡ count)
TellsCount b (Err e) = (frames : List Frame) × (end : End) × IsWalk (drop 4 b) frames end × TellsEnd (Some e) end

-- a look-up of the element with this key in the document b finds this, and nothing else
abbrev pub IsTheElement : List ℕ → List ℕ → FoundElement → Type 0
IsTheElement b key x = FindsElement b key x × ((other : FoundElement) → FindsElement b key other → other ≡ x)

-- a look-up of the element with this number in the document b finds this, and nothing else
abbrev pub IsTheElementAt : List ℕ → ℕ → FoundElement → Type 0
IsTheElementAt b number x = FindsElementAt b number x × ((other : FoundElement) → FindsElementAt b number other → other ≡ x)
