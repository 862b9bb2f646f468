use Rattle.std.proofs.Common.{◌≡◌, List, Option, Some, Result, rules, subst, sym, ℕ}
use Rattle.raw_view.specs.Frame.{IsFrame}
use Rattle.raw_view.specs.Frame.ElementSteps.{frame_of}
use Rattle.raw_view.specs.Frame.Front.{StepsFront}
use Rattle.raw_view.specs.declared.element.RawElement.{RawElement}
use Rattle.raw_view.specs.declared.error.BorrowedError.{BorrowedError}
use Rattle.raw_view.specs.declared.level.RawLevel.{RawLevel}
use Rattle.dump_commands.specs.elements.Showing.{HasEndRuns, TellsFrame, left_in}
use Rattle.dump_commands.proofs.elements.Steps.{next_frame}
use Rattle.dump_commands.proofs.elements.showing.push_next.Goals as goal

pub returns-in_ok-push_stop-in-Some-Err-clause-put : goal.returns-in_ok-push_stop-in-Some-Err-clause-put
returns-in_ok-push_stop-in-Some-Err-clause-put c =
    let (runs, ends, put) = c.in_ok-push_stop-in-Some-Err.ensures.put in
    let same : c.split_at.result.1.now ≡ left_in c.args.level.now = search rules in
    (runs, subst (λ (s : List ℕ). HasEndRuns c.args.depth s runs) same ends, put)

pub returns-in-None-2-clause-put : goal.returns-in-None-2-clause-put
returns-in-None-2-clause-put c =
    let s = left_in c.args.level.now in
    let e = c.in-Some-Ok.element in
    let steps = subst (λ (x : Result RawElement BorrowedError). StepsFront c.in-Some.elements (Some x) c.next.new.self) c.in-Some-Ok.field-0-is c.in-Some-Ok.ensures.steps in
    let (r, at) = next_frame c.in-Some.elements c.next.new.self e s c.in-Some.ensures.left steps in
    let (runs, tells, put) = c.in_ok-push_element-in-Some-Ok.ensures.put in (
      runs,
      (
        frame_of e,
        subst (λ (t : List ℕ). IsFrame s (frame_of e) t) (sym (c.after.ensures r at)) at,
        subst (λ (x : Option RawLevel). TellsFrame c.args.depth (frame_of e) runs x) c.in-None-2.is tells,
      ),
      put,
    )

pub returns-in-Some-2-clause-put : goal.returns-in-Some-2-clause-put
returns-in-Some-2-clause-put c =
    let s = left_in c.args.level.now in
    let e = c.in-Some-Ok.element in
    let steps = subst (λ (x : Result RawElement BorrowedError). StepsFront c.in-Some.elements (Some x) c.next.new.self) c.in-Some-Ok.field-0-is c.in-Some-Ok.ensures.steps in
    let (r, at) = next_frame c.in-Some.elements c.next.new.self e s c.in-Some.ensures.left steps in
    let (runs, tells, put) = c.in_ok-push_element-in-Some-Ok.ensures.put in (
      runs,
      (
        frame_of e,
        subst (λ (t : List ℕ). IsFrame s (frame_of e) t) (sym (c.after.ensures r at)) at,
        subst (λ (x : Option RawLevel). TellsFrame c.args.depth (frame_of e) runs x) c.in-Some-2.is tells,
      ),
      put,
    )
