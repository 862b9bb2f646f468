-- A search for the first barrier may begin at the element of the outermost level that breaches or holds what breaches; what is before it is
-- written as it is.
use Rattle.std.proofs.Common.{◌≡◌, ◌≢◌, ◌⊎◌, ◌∙◌, ◌+◌, ◌∷◌, [], ℕ, zero, suc, List, None, Some, map, slice_index_or, length, drop, arith, ap, refl, sym}
use Rattle.raw_form.proofs.canonical.Common.{FirstViolationTo, Frame, HasNothing, IsHere, IsInside, LeadsTo, PathStep, Start, Step, Violation, violations, as_document, canonical_frames_read, length-map, one_frame, step_of, steps_of, bytes_of}
use Rattle.raw_tree.specs.ValidationSteps.{TellsFound, TellsOutermost, first_number, violation_of}
use Rattle.raw_tree.proofs.Face.{first_begins}
use Rattle.raw_form.specs.Staying.{TellsStart}
use Rattle.raw_tree.specs.declared.validator.within.Found.{Found}
use Rattle.raw_form.proofs.rewritten.Members.{known_to, known_to_first}
use Rattle.raw_form.proofs.canonical.start_of.Goals as goal

-- the number of the first step is the number of frames before it
front_begins : (n : ℕ) (passed : List Frame) (b s : List ℕ) (x : Violation) (path : List Step) (offset : ℕ)
    → IsHere violations as_document passed b s x path offset ⊎ (HasNothing violations as_document passed s × IsInside (FirstViolationTo n) passed b s x path offset) → first_number path ≡ length passed
front_begins n passed b s x path offset h = grind arith

-- as many frames lead to the same bytes
led_same : (s : List ℕ) (fs gs : List Frame) (r q : List ℕ) → LeadsTo s fs r → LeadsTo s gs q → length fs ≡ length gs → r ≡ q
led_same s [] [] r q l k e = sym l ∙ k
led_same s (f ∷ fs) (g ∷ gs) r q (t, at, l) (u, there, k) e =
    led_same t fs gs r q l (rw (one_frame s g f u t there at).1 at k) (omega (arith, e))
led_same s fs gs r q l k e = absurd (omega (arith, e))

-- the first step to what was found has this number, and the element begins here
found_begins : (depth : ℕ) (b : List ℕ) (found : Found) (start : Start) → TellsFound depth b (Some found) → TellsOutermost b (Some found)
    → length found.place.path.items ≢ 0 → start.number ≡ first_number (steps_of found.place) → start.offset ≡ found.outermost → TellsStart depth b (Some start)
found_begins zero b found start told outermost some number offset = absurd (some (sym (length-map found.place.path.items step_of) ∙ ap length told.1))
found_begins (suc n) b found start (passed, s, reaches, (keys, canonical), front) there some number offset =
    let counted : first_number (steps_of found.place) ≡ length passed =
    front_begins n passed b s (violation_of found.cause) (steps_of found.place) found.place.offset front in
    let left : there.s ≡ s = led_same (drop 4 b) there.frames passed there.s s there.reaches reaches (omega (arith, there.number_is, counted)) in
    let read = canonical_frames_read n passed canonical in
    let begins : start.offset + length s ≡ length b = omega (arith, there.begins, ap length left, offset) in (
      λ inside e. let same : inside ≡ n = omega (arith, e) in
          rw same (record { frames = passed; pairs = read.0; s = s; reaches = reaches; each = read.1; number_is = number ∙ counted; begins = begins }),
      known_to n b start passed s reaches canonical (number ∙ counted) begins,
    )

-- the number of the first step of a path
number_found : (path : List PathStep) → length path ≢ 0 → (slice_index_or path 0 (record { number = 0; key = None })).number ≡ first_number (map step_of path)
number_found [] some = absurd (some refl)
number_found (p ∷ path) some = refl

pub returns-then-path-eq0-clause-start : goal.returns-then-path-eq0-clause-start
returns-then-path-eq0-clause-start c =
    let enough = c.args.document.envelope.enough in
    (first_begins c.args.depth (bytes_of c.args.document) enough, known_to_first _ _ enough refl refl)

pub returns-clause-start : goal.returns-clause-start
returns-clause-start c =
    let some : length c.in-Some.found.place.path.items ≢ 0 = rw c.as_slice-path.ensures.value at c.if-path-eq0.false in
    found_begins c.args.depth (bytes_of c.args.document) c.in-Some.found _ (rw c.in-Some.is at c.in_ok-found.ensures.found)
    (rw c.in-Some.is at c.in_ok-found.ensures.outermost) some (rw c.as_slice-path.ensures.value (number_found _ some)) refl
