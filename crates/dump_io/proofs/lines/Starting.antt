-- A search for what ends the reading of a document may begin at the element of the outermost level that has its first violation.
use Rattle.std.proofs.Common.{◌≡◌, ◌≢◌, ◌⊎◌, ◌∙◌, ◌+◌, ◌∷◌, [], ℕ, zero, suc, List, Some, map, length, drop, arith, ap, sym, slice_get}
use Rattle.std.proofs.lemmas.List.{length-map}
use Rattle.raw_view.specs.Frame.{Frame, LeadsTo}
use Rattle.raw_view.proofs.Face.{one_frame}
use Rattle.raw_tree.specs.Barriers.{step_of, steps_of}
use Rattle.raw_tree.specs.First.{HasNothing, IsHere, IsInside, Step}
use Rattle.raw_tree.specs.Looking.{HasNoneBefore}
use Rattle.raw_tree.specs.Reading.{as_document}
use Rattle.raw_tree.specs.ValidationSteps.{TellsFound, TellsOutermost, first_number, violation_of}
use Rattle.raw_tree.specs.Violations.{FirstViolationTo, Violation, violations}
use Rattle.raw_tree.specs.declared.validator.within.Found.{Found}
use Rattle.raw_tree.specs.declared.walk.place.PathStep.{PathStep}
use Rattle.raw_tree.proofs.Face.{canonical_frames_read}

-- the number of the first step is the number of frames before it
front_begins : (n : ℕ) (passed : List Frame) (b s : List ℕ) (x : Violation) (path : List Step) (offset : ℕ)
    → IsHere violations as_document passed b s x path offset ⊎ (HasNothing violations as_document passed s × IsInside (FirstViolationTo n) passed b s x path offset) → first_number path ≡ length passed
front_begins n passed b s x path offset h = grind arith

-- as many frames lead to the same bytes
led_same : (s : List ℕ) (fs gs : List Frame) (r q : List ℕ) → LeadsTo s fs r → LeadsTo s gs q → length fs ≡ length gs → r ≡ q
led_same s [] [] r q l k e = sym l ∙ k
led_same s (f ∷ fs) (g ∷ gs) r q (t, at, l) (u, there, k) e =
    led_same t fs gs r q l (rw (one_frame s g f u t there at).1 at k) (omega (arith, e))
led_same s fs gs r q l k e = absurd (omega (arith, e))

-- the first step to the violation has this number, and the element begins here
pub found_begins : (depth : ℕ) (b : List ℕ) (found : Found) (number offset : ℕ) → TellsFound depth b (Some found) → TellsOutermost b (Some found)
    → length found.place.path.items ≢ 0 → number ≡ first_number (steps_of found.place) → offset ≡ found.outermost → HasNoneBefore depth b number offset
found_begins zero b found number offset told outermost some is at = absurd (some (sym (length-map found.place.path.items step_of) ∙ ap length told.1))
found_begins (suc n) b found number offset (passed, s, reaches, (keys, canonical), front) there some is at =
    let counted : first_number (steps_of found.place) ≡ length passed =
    front_begins n passed b s (violation_of found.cause) (steps_of found.place) found.place.offset front in
    let left : there.s ≡ s = led_same (drop 4 b) there.frames passed there.s s there.reaches reaches (omega (arith, there.number_is, counted)) in
    let read = canonical_frames_read n passed canonical in
    let begins : offset + length s ≡ length b = omega (arith, there.begins, ap length left, at) in
    λ inside e. let same : inside ≡ n = omega (arith, e) in
    rw same (record { frames = passed; pairs = read.0; s = s; reaches = reaches; each = read.1; number_is = is ∙ counted; begins = begins })

-- the first step of a path
pub first_step : (path : List PathStep) (step : PathStep) → slice_get path 0 ≡ Some step → (length path ≢ 0) × (step.number ≡ first_number (map step_of path))
first_step [] step is = let impossible : ⊥ = cc in absurd impossible
first_step (p ∷ path) step is = (λ none. let impossible : ⊥ = omega (arith, none) in absurd impossible, let same : step ≡ p = cc in ap (λ (s : PathStep). s.number) same)
