use Rattle.std.proofs.Common.{Some, Ok, Result, subst}
use Rattle.raw_tree.proofs.walk.Fronts.{looks_inside, looks_stop, looks_whole}
use Rattle.raw_tree.proofs.walk.level.look.Goals.{In-Ok}
use Rattle.raw_tree.proofs.Common.{StepsFront, RawElement, BorrowedError}
use Rattle.raw_tree.proofs.walk.level.look.Goals as goal

pub returns-in-Some-Err : goal.returns-in-Some-Err
returns-in-Some-Err c = record { finds = looks_stop c.args.elements.now c.next.new.self c.in-Some-Err.error (rw c.in-Some-Err.field-0-is at c.in-Some-Err.ensures.steps) }

steps : (c : In-Ok) → StepsFront c.args.elements.now (Some (Ok c.in-Some-Ok.element)) c.next.new.self
steps c = subst (λ (x : Result RawElement BorrowedError). StepsFront c.args.elements.now (Some x) c.next.new.self) c.in-Some-Ok.field-0-is c.in-Some-Ok.ensures.steps

pub returns-in-None-level : goal.returns-in-None-level
returns-in-None-level c =
    let single = rw c.in-None-level.is at c.level.ensures in
    record { finds = looks_whole c.args.elements.now c.next.new.self c.in-Some-Ok.element c.in-Ok.value (steps (goal.at.returns-in-None-level c).In-Ok) c.in-Ok.ensures.value single }

pub returns-in-Some : goal.returns-in-Some
returns-in-Some c =
    let held = rw c.in-Some.is at c.level.ensures in
    record { finds = looks_inside c.args.elements.now c.next.new.self c.in-Some-Ok.element c.in-Some.level (steps (goal.at.returns-in-Some c).In-Ok) (rw held at c.in-Ok.ensures.value) }
