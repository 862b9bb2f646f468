-- A look-up of an element along a walk.
use Rattle.std.proofs.Common.{◌≡◌, ℕ, List, length, drop, refl, Option, Some, None, Ok, Err}
use Rattle.std.specs.Option.{option_copied}
use Rattle.raw_view.specs.declared.element.RawElement.{RawElement}
use Rattle.raw_view.specs.declared.error.BorrowedError.{BorrowedError}
use Rattle.raw_view.specs.Frame.{Frame, End, Stopped, IsWalk}
use Rattle.raw_view.specs.Frame.Front.{StepsFront}
use Rattle.raw_view.specs.Frame.ElementSteps.{StepsElement, HasRead, frame_of}
use Rattle.raw_view.specs.LookUp.{HasNoKey, found, FindsElement, FindsElementAt}
use Rattle.raw_view.specs.LookUp.ElementLookUp.{TellsEnd}
use Rattle.raw_view.proofs.Frames.Loops.{LeadsTo-walk}
use Rattle.raw_view.proofs.LookUps.ByNumber.{stop_said}

-- at the frame that is looked for

pub element_with_key : (b key : List ℕ) (passed : List Frame) (old new : Option (List ℕ)) (e : RawElement) → HasRead (drop 4 b) passed old → HasNoKey key passed
    → StepsElement old (Some (Ok e)) new → (frame_of e).key ≡ key → FindsElement b key (found (frame_of e))
element_with_key b key passed None new e read none st k = absurd read
element_with_key b key passed (Some s) new e read none st k = (passed, s, st.0, read, none, st.1, k)

pub element_behind : (b : List ℕ) (number : ℕ) (passed : List Frame) (old new : Option (List ℕ)) (e : RawElement) → HasRead (drop 4 b) passed old
    → length passed ≡ number → StepsElement old (Some (Ok e)) new → FindsElementAt b number (found (frame_of e))
element_behind b number passed None new e read n st = absurd read
element_behind b number passed (Some s) new e read n st = (passed, s, st.0, read, n, st.1)

-- at the stop
pub stopped_walk : (b : List ℕ) (passed : List Frame) (old new : Option (List ℕ)) (e : BorrowedError) → HasRead (drop 4 b) passed old
    → StepsFront old (Some (Err e)) new → (end : End) × IsWalk (drop 4 b) passed end × TellsEnd (Some e) end
stopped_walk b passed None new e read st = absurd read
stopped_walk b passed (Some s) new e read st =
    let said = stop_said e.kind (option_copied e.key) s st.0 in
    let end : End = Stopped said.0 (option_copied e.key) in
    (end, LeadsTo-walk (drop 4 b) passed s end read said.2, record { says = said.1; key_is = refl })
