use Rattle.std.proofs.Common.{subst, Option, List, ℕ, Some}
use Rattle.raw_view.specs.Errors.Answers.{StepsItems}
use Rattle.raw_view.proofs.Values.ItemSteps.{item_ok, item_stop}
use Rattle.raw_view.proofs.iter.ItemsIterator.next.Goals as goal

pub returns-in-Some-Ok-clause-steps : goal.returns-in-Some-Ok-clause-steps
returns-in-Some-Ok-clause-steps g c =
    let tells = g.T.FromElement.tells in
    subst (λ (x : Option (List ℕ)). StepsItems tells x (Some c.from_element.result) c.next.new.self) c.self.view_is
    (item_ok tells _ _ _ _ (rw c.in-Some-Ok.field-0-is at c.in-Some-Ok.ensures.steps) c.from_element.ensures)

pub returns-in-Some-Err-clause-steps : goal.returns-in-Some-Err-clause-steps
returns-in-Some-Err-clause-steps g c =
    let tells = g.T.FromElement.tells in
    subst (λ (x : Option (List ℕ)). StepsItems tells x (Some c.from_stop.result) c.next.new.self) c.self.view_is
    (item_stop tells _ _ _ _ (rw c.in-Some-Err.field-0-is at c.in-Some-Err.ensures.steps) c.from_stop.ensures)
