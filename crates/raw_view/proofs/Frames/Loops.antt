-- What a caller's loop over the elements preserves.
use Rattle.std.proofs.Common.{ℕ, List, [], ◌∷◌, ◌++◌, ◌+◌, ◌*◌, ◌≤◌, length, ap, sym, subst, refl, Option, Some, None, Ok, Err, arith, length-append}
use Rattle.raw_view.specs.declared.element.RawElement.{RawElement}
use Rattle.raw_view.specs.declared.error.Error.{Error}
use Rattle.raw_view.specs.Frame.{Frame, IsFrame, Fault, IsWalk, End, Done, Stopped, LeadsTo, EndsIn}
use Rattle.raw_view.specs.Frame.ElementSteps.{StepsElement, frame_of, HasRead}
use Rattle.raw_view.specs.Errors.{TellsFault}

pub LeadsTo-walk : (s : List ℕ) (fs : List Frame) (r : List ℕ) (end : End) → LeadsTo s fs r → EndsIn r end → IsWalk s fs end
LeadsTo-walk s [] r end l e = subst (λ (x : List ℕ). EndsIn x end) (sym l) e
LeadsTo-walk s (f ∷ fs) r end l e = (l.0, l.1, LeadsTo-walk l.0 fs r end l.2 e)

pub LeadsTo-more : (s : List ℕ) (fs : List Frame) (r : List ℕ) (f : Frame) (t : List ℕ) → LeadsTo s fs r → IsFrame r f t → LeadsTo s (fs ++ f ∷ []) t
LeadsTo-more s [] r f t l b = (t, subst (λ (x : List ℕ). IsFrame x f t) (sym l) b, refl)
LeadsTo-more s (g ∷ fs) r f t l b = (l.0, l.1, LeadsTo-more l.0 fs r f t l.2 b)

pub IsFrame-shorter : (s : List ℕ) (f : Frame) (r : List ℕ) → IsFrame s f r → length r + 2 ≤ length s
IsFrame-shorter s f r b =
    let e = ap length b.spelled in
    omega (arith, e, length-append f.key (0 ∷ (f.payload ++ r)), length-append f.payload r)

pub LeadsTo-bound : (s : List ℕ) (fs : List Frame) (r : List ℕ) → LeadsTo s fs r → 2 * length fs + length r ≤ length s
LeadsTo-bound s [] r l = omega (arith, ap length l)
LeadsTo-bound s (f ∷ fs) r l = omega (arith, IsFrame-shorter s f l.0 l.1, LeadsTo-bound l.0 fs r l.2)

-- one more element
pub HasRead-more : (s : List ℕ) (fs : List Frame) (old new : Option (List ℕ)) (e : RawElement) → HasRead s fs old → StepsElement old (Some (Ok e)) new → HasRead s (fs ++ frame_of e ∷ []) new
HasRead-more s fs None new e l st = absurd l
HasRead-more s fs (Some r) new e l st = subst (HasRead s (fs ++ frame_of e ∷ [])) (sym st.2) (LeadsTo-more s fs r (frame_of e) st.0 l st.1)

-- no element is left
pub HasRead-end : (s : List ℕ) (fs : List Frame) (old new : Option (List ℕ)) → HasRead s fs old → StepsElement old None new → IsWalk s fs Done
HasRead-end s fs None new l st = absurd l
HasRead-end s fs (Some r) new l st = LeadsTo-walk s fs r Done l st.0

-- the walk stops
pub HasRead-stop : (s : List ℕ) (fs : List Frame) (old new : Option (List ℕ)) (e : Error) → HasRead s fs old → StepsElement old (Some (Err e)) new
    → (fault : Fault) × (key : Option (List ℕ)) × IsWalk s fs (Stopped fault key) × TellsFault e fault key
HasRead-stop s fs None new e l st = absurd l
HasRead-stop s fs (Some r) new e l st = (st.0, st.1, LeadsTo-walk s fs r (Stopped st.0 st.1) l st.2, st.3)

pub HasRead-bound : (s : List ℕ) (fs : List Frame) (old : Option (List ℕ)) → HasRead s fs old → 2 * length fs ≤ length s
HasRead-bound s fs None l = absurd l
HasRead-bound s fs (Some r) l = omega (arith, LeadsTo-bound s fs r l)
