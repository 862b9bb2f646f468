-- Frames at the front of the rest, and what a step over them takes.
use Rattle.std.proofs.Common.{◌≡◌, ◌∙◌, ◌<◌, ◌+◌, ◌++◌, ◌∷◌, [], ℕ, true, List, Option, None, Some, Err, drop, length, ltb, slice_get, slice_index_or, arith, ap, refl, sym, subst, length-append}
use Rattle.std.proofs.lemmas.Bool.Decides.{nat_tests}
use Rattle.raw_tree.proofs.Common.{BorrowedError, Done, Frame, IsFrame, IsWalk, StepsFront, drop-append-add, element_of, slice_get-get_or}
use Rattle.raw_tree.proofs.walk.Common.{HasNoFrame, TakesFrame, end_of, option_copied, size_of}
use Rattle.raw_view.proofs.Face.{front_and_rest, no_frame_at_final, no_frame_at_stop, one_frame, stop_said}

-- what is at the front of a walk

-- the element at the front is the first frame
pub walk_step : (s : List ℕ) (frames : List Frame) (f : Frame) (r : List ℕ) → IsWalk s frames Done → IsFrame s f r → (fs : List Frame) × (frames ≡ f ∷ fs) × IsWalk r fs Done
walk_step s [] f r w at = absurd (no_frame_at_final s w f r at)
walk_step s (g ∷ fs) f r w at =
    let one = one_frame s g f w.0 r w.1 at in
    (fs, ap (λ (x : Frame). x ∷ fs) one.0, subst (λ (q : List ℕ). IsWalk q fs Done) one.1 w.2)

-- what a step over the elements takes

pub taken_stop : (old new : Option (List ℕ)) (e : BorrowedError) → StepsFront old (Some (Err e)) new → TakesFrame old None new
taken_stop None new e st = refl
taken_stop (Some s) new e st = let (fault, says, stop) = stop_said e.kind (option_copied e.key) s st.0 in no_frame_at_stop s fault (option_copied e.key) stop

-- where no frame is at the front, the walk has none
pub walk_over : (s : List ℕ) (frames : List Frame) → IsWalk s frames Done → HasNoFrame s → frames ≡ []
walk_over s [] w none = refl
walk_over s (f ∷ fs) w none = absurd (none f w.0 w.1)

pub drop_frame : (s : List ℕ) (f : Frame) (r : List ℕ) (m : ℕ) → IsFrame s f r → drop (size_of f + m) s ≡ drop m r
drop_frame s f r m at =
    let front : List ℕ = element_of f.kind f.key f.payload in
    let len : size_of f + m ≡ length front + m = omega (arith, length-append f.key (0 ∷ f.payload)) in
    ap (λ (n : ℕ). drop n s) len ∙ ap (λ (x : List ℕ). drop (length front + m) x) (front_and_rest s f r at) ∙ drop-append-add front r m

pub frame_size : (s : List ℕ) (f : Frame) (r : List ℕ) → IsFrame s f r → size_of f + length r ≡ length s
frame_size s f r b = omega (arith, ap length b.spelled, length-append f.key (0 ∷ (f.payload ++ r)), length-append f.payload r)

-- after one more frame the rest begins where that frame ends
pub end_behind : (at : ℕ) (fs : List Frame) (f : Frame) → end_of at (fs ++ f ∷ []) ≡ end_of at fs + size_of f
end_behind at [] f = refl
end_behind at (x ∷ fs) f = end_behind (at + size_of x) fs f

-- an item that is lent is at its place
pub item_at : (xs : List ℕ) (i x : ℕ) → true ≡ ltb i (length xs) → x ≡ slice_index_or xs i x → slice_get xs i ≡ Some x
item_at xs i x h is =
    let within : i < length xs = grind (arith, nat_tests) in
    slice_get-get_or xs i x within ∙ ap (λ (n : ℕ). Some n) (sym is)
