use Rattle.std.proofs.Common.{Option, Some, Result, inl, inr, subst}
use Rattle.raw_view.specs.Frame.ElementSteps.{frame_of}
use Rattle.raw_view.specs.Frame.Front.{StepsFront}
use Rattle.raw_view.specs.declared.level.RawLevel.{RawLevel}
use Rattle.raw_view.specs.declared.element.RawElement.{RawElement}
use Rattle.raw_view.specs.declared.error.BorrowedError.{BorrowedError}
use Rattle.dump_commands.specs.elements.Listing.{TellsElement}
use Rattle.dump_commands.proofs.elements.listing.next_line.Goals as goal

pub returns-in_ok-stop_line-in-Some-Err : goal.returns-in_ok-stop_line-in-Some-Err
returns-in_ok-stop_line-in-Some-Err c =
    let steps = subst (λ (x : Result RawElement BorrowedError). StepsFront c.args.level.now (Some x) c.next.new.self) c.in-Some-Err.field-0-is c.in-Some-Err.ensures.steps in
    inr (c.in-Some-Err.error, steps, c.in_ok-stop_line-in-Some-Err.ensures)

pub returns-in-None-2 : goal.returns-in-None-2
returns-in-None-2 c =
    let steps = subst (λ (x : Result RawElement BorrowedError). StepsFront c.args.level.now (Some x) c.next.new.self) c.in-Some-Ok.field-0-is c.in-Some-Ok.ensures.steps in
    let tells = subst (λ (x : Option RawLevel). TellsElement c.args.depth (frame_of c.in-Some-Ok.element) c.element_line.new.line.items x) c.in-None-2.is
    c.in_ok-element_line-in-Some-Ok.ensures in
    inl (c.in-Some-Ok.element, steps, tells)

pub returns-in-Some : goal.returns-in-Some
returns-in-Some c =
    let steps = subst (λ (x : Result RawElement BorrowedError). StepsFront c.args.level.now (Some x) c.next.new.self) c.in-Some-Ok.field-0-is c.in-Some-Ok.ensures.steps in
    let tells = subst (λ (x : Option RawLevel). TellsElement c.args.depth (frame_of c.in-Some-Ok.element) c.element_line.new.line.items x) c.in-Some.is
    c.in_ok-element_line-in-Some-Ok.ensures in
    (c.in-Some-Ok.element, steps, tells)
