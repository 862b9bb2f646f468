-- The parts that are asked for.
use Rattle.std.proofs.Common.{◌≡◌, ◌≢◌, ℕ, ◌+◌, ◌-◌, ◌<◌, ◌≤◌, List, [], ◌∷◌, ◌++◌, Bool, true, false, MatchBool, Option, None, Some, IfSome, add-zero, ap, arith, eq-or-lt_of_le, inl, inr, length, refl, subst, suc, sym, zero-add, ◌∙◌}
use Rattle.dump_io.specs.input.InFront.{IsAllInFront, IsInFront}
use Rattle.dump_io.specs.declared.input.portion.Portion.{Portion}
use Rattle.dump_io.specs.declared.lines.find.Finding.{Finding}
use Rattle.dump_io.specs.declared.lines.find.Finding.TheVariants as finding
use Rattle.dump_io.proofs.Face.{some_any}
use Rattle.dump_commands.specs.Counting.{count_finding}
use Rattle.dump_commands.specs.declared.counts.Counts.{Counts}
use Rattle.dump_commands.specs.declared.job.Job.{Job}
use Rattle.dump_runs.specs.Plays.{Held}
use Rattle.dump_runs.specs.dumps.Portion.{AreAsked, IsChosen, IsRunOver, documents_of_parts}
use Rattle.dump_runs.specs.dumps.Run.{Part, Passed, Point, after, after_all, findings_in, gap, lone, piece, repeats_in, skipped, start_of}
use Rattle.dump_runs.specs.dumps.Steps.{Place}
use Rattle.dump_runs.proofs.dumps.Passing.{HasPassed, counts_passed}

-- nothing is in front
pub in_front_none : (p : Portion) (most : ℕ) (input : Option (List ℕ)) → IsInFront p most input []
in_front_none p most input = record { bytes = []; documents = []; are = refl; up_to = omega arith; behind_offset = some_any input _ (λ s less. refl); pieces = tt; few = omega arith }

-- the command isn't run over anything yet
pub chosen_front : {p : Portion} {most : ℕ} {input : Option (List ℕ)} (front : List ℕ) → IsInFront p most input front → IsChosen p most input front (skipped front ∷ [])
chosen_front front is = record { in_front = is; others = []; are = refl; asked = tt; behind = inr refl }

-- what was passed of the documents that are asked for
pub record HasPassedPortion (job : Job) (name : List ℕ) (input : Option (List ℕ)) (x : Place) (old new : Held) : Type 0 where
  pub front : List ℕ
  pub has : HasPassed job name input x old new
  pub chosen : IsChosen job.portion job.limits.bytes input front has.passed.ps
  pub all : IsAllInFront job.portion job.limits.bytes input front

-- the documents of parts are those that are counted
documents_behind : (job : Job) (here : Point) (ps : List Part) → (after_all job here ps).counts.documents ≡ here.counts.documents + length (documents_of_parts ps)
documents_behind job here [] = sym (add-zero here.counts.documents)
documents_behind job here (skipped b ∷ ps) = documents_behind job (after job here (skipped b)) ps
documents_behind job here (lone a ∷ ps) =
    let n = here.counts in
    let rest : (after_all job here (lone a ∷ ps)).counts.documents ≡ (n.documents + 1) + length (documents_of_parts ps) = documents_behind job (after job here (lone a)) ps in
    let step : (n.documents + 1) + length (documents_of_parts ps) ≡ n.documents + suc (length (documents_of_parts ps)) = omega arith in
    rest ∙ step
documents_behind job here (gap g ∷ ps) = documents_behind job (after job here (gap g)) ps
documents_behind job here (piece e ∷ ps) =
    let n = here.counts in
    let len = length e.bytes in
    let one : (f : Finding) (m : Counts) → (count_finding len f m).documents ≡ m.documents = λ f m. elim f as (λ f. (count_finding len f m).documents ≡ m.documents) [
      | finding.Canonical ↦ refl
      | finding.Breached ↦ refl
      | finding.Damaged ↦ refl
      | finding.TooDeep ↦ refl
      | finding.Unvalidated ↦ refl
    ] in
    let more : (after job here (piece e)).counts.documents ≡ n.documents + 1 =
    one e.finding (record n { documents = n.documents + 1; bytes = n.bytes + length e.bytes; findings = n.findings + (findings_in job.command e.finding + length (repeats_in job here e)) }) in
    let rest : (after_all job here (piece e ∷ ps)).counts.documents ≡ (after job here (piece e)).counts.documents + length (documents_of_parts ps) =
    documents_behind job (after job here (piece e)) ps in
    let step : (n.documents + 1) + length (documents_of_parts ps) ≡ n.documents + suc (length (documents_of_parts ps)) = omega arith in
    rest ∙ ap (λ m. m + length (documents_of_parts ps)) more ∙ step

-- so many are counted of parts that were passed
pub documents_between : {job : Job} {name : List ℕ} {input left : Option (List ℕ)} {rest : List ℕ} {old new : Held} (h : Passed job name input left rest old new)
    → (old.counts.documents ≤ new.counts.documents) × (new.counts.documents - old.counts.documents ≡ length (documents_of_parts h.ps))
documents_between {job = job} {name = name} {old = old} {new = new} h =
    let all : new.counts.documents ≡ old.counts.documents + length (documents_of_parts h.ps) =
    ap (λ (m : Counts). m.documents) (counts_passed h) ∙ documents_behind job (start_of name old) h.ps in
    (omega (arith, all), omega (arith, all))

-- one part more
asked_more : (take : Option ℕ) (count : ℕ) (qs : List Part) (q : Part) → AreAsked take count qs → IsRunOver q
    → IfSome take (λ n. count + length (documents_of_parts qs) < n) → AreAsked take count (qs ++ q ∷ [])
asked_more take count [] q are over few = (over, subst (λ m. IfSome take (λ n. m < n)) (add-zero count) few, tt)
asked_more take count (piece e ∷ qs) q (x, before, rest) over few =
    let step : count + suc (length (documents_of_parts qs)) ≡ (count + 1) + length (documents_of_parts qs) = omega arith in
    (x, before, asked_more take (count + 1) qs q rest over (subst (λ m. IfSome take (λ n. m < n)) step few))
asked_more take count (lone a ∷ qs) q (x, before, rest) over few =
    let step : count + suc (length (documents_of_parts qs)) ≡ (count + 1) + length (documents_of_parts qs) = omega arith in
    (x, before, asked_more take (count + 1) qs q rest over (subst (λ m. IfSome take (λ n. m < n)) step few))
asked_more take count (gap g ∷ qs) q (x, before, rest) over few =
    let step : count + length (documents_of_parts qs) ≡ (count + 0) + length (documents_of_parts qs) = omega arith in
    (x, before, asked_more take (count + 0) qs q rest over (subst (λ m. IfSome take (λ n. m < n)) step few))
asked_more take count (skipped b ∷ qs) q (x, before, rest) over few = absurd x

-- no more documents are run over than are asked for
asked_most : (take count : ℕ) (qs : List Part) → count ≤ take → AreAsked (Some take) count qs → count + length (documents_of_parts qs) ≤ take
asked_most take count [] few are = subst (λ m. m ≤ take) (sym (add-zero count)) few
asked_most take count (piece e ∷ qs) few (x, before, rest) =
    let step : (count + 1) + length (documents_of_parts qs) ≡ count + suc (length (documents_of_parts qs)) = omega arith in
    subst (λ m. m ≤ take) step (asked_most take (count + 1) qs (omega (arith, before)) rest)
asked_most take count (lone a ∷ qs) few (x, before, rest) =
    let step : (count + 1) + length (documents_of_parts qs) ≡ count + suc (length (documents_of_parts qs)) = omega arith in
    subst (λ m. m ≤ take) step (asked_most take (count + 1) qs (omega (arith, before)) rest)
asked_most take count (gap g ∷ qs) few (x, before, rest) =
    let step : (count + 0) + length (documents_of_parts qs) ≡ count + length (documents_of_parts qs) = omega arith in
    subst (λ m. m ≤ take) step (asked_most take (count + 0) qs (omega (arith, few)) rest)
asked_most take count (skipped b ∷ qs) few (x, before, rest) = absurd x

fewer : (take : Option ℕ) (qs : List Part) → AreAsked take 0 qs → take ≢ Some (length (documents_of_parts qs)) → IfSome take (λ n. length (documents_of_parts qs) < n)
fewer None qs are other = tt
fewer (Some n) qs are other =
    let most : length (documents_of_parts qs) ≤ n = omega (arith, asked_most n 0 qs (omega arith) are) in
    elim (eq-or-lt_of_le most) [
      | inl same ↦ absurd (other (ap Some (sym same)))
      | inr less ↦ less
    ]

-- so one part more is asked for, where not enough were
pub chosen_more : {p : Portion} {most : ℕ} {input : Option (List ℕ)} {front : List ℕ} (ps : List Part) (q : Part) → IsChosen p most input front ps → IsAllInFront p most input front → IsRunOver q
    → p.take ≢ Some (length (documents_of_parts ps)) → IsChosen p most input front (ps ++ q ∷ [])
chosen_more {p = p} {most = most} {input = input} {front = front} ps q c all over other =
    let same : length (documents_of_parts ps) ≡ length (documents_of_parts c.others) = ap (λ (xs : List Part). length (documents_of_parts xs)) c.are in
    let differ : p.take ≢ Some (length (documents_of_parts c.others)) = λ is. other (is ∙ ap Some (sym same)) in
    record {
      in_front = c.in_front;
      others = c.others ++ q ∷ [];
      are = ap (λ (xs : List Part). xs ++ q ∷ []) c.are;
      asked = asked_more p.take 0 c.others q c.asked over (subst (λ m. IfSome p.take (λ n. m < n)) (sym (zero-add (length (documents_of_parts c.others)))) (fewer p.take c.others c.asked differ));
      behind = inl all;
    }

-- what a flag says
pub where_true : (P Q : Type 0) (b : Bool) → MatchBool b P Q → b ≡ true → P
where_true P Q b is same = subst (λ (a : Bool). MatchBool a P Q) same is

pub where_false : (P Q : Type 0) (b : Bool) → MatchBool b P Q → b ≡ false → Q
where_false P Q b is same = subst (λ (a : Bool). MatchBool a P Q) same is
