use Rattle.std.proofs.Common.{subst, Option, List, ℕ, Some, None, Ok, Err}
use Rattle.raw_view.specs.Frame.ElementSteps.{StepsElement}
use Rattle.raw_view.proofs.Frames.Iteration.{step_none, step_ok, step_stop}
use Rattle.raw_view.proofs.iter.RawIterIterator.next.Goals as goal
use Rattle.raw_view.proofs.iter.RawIterIterator.next.Goals.{in-None, in-Some-Ok, in-Some-Err}

pub returns-clause-steps : goal.returns-clause-steps
returns-clause-steps c =
    let old = c.self.view_is in
    elim c.match-next.branch [
      | in-None w ↦ rw w.result-is (subst (λ (x : Option (List ℕ)). StepsElement x None c.next.new.self) old (step_none _ _ w.in-None.ensures.steps))
      | in-Some-Ok w ↦ rw w.result-is (subst (λ (x : Option (List ℕ)). StepsElement x (Some (Ok w.in-Some-Ok.element)) c.next.new.self) old
          (step_ok _ _ _ (rw w.in-Some-Ok.field-0-is at w.in-Some-Ok.ensures.steps)))
      | in-Some-Err w ↦ rw w.result-is (subst (λ (x : Option (List ℕ)). StepsElement x (Some (Err w.into_error.result)) c.next.new.self) old
          (step_stop _ _ _ _ (rw w.in-Some-Err.field-0-is at w.in-Some-Err.ensures.steps) w.into_error.ensures))
    ]
