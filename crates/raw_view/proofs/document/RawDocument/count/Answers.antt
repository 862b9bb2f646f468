use Rattle.std.proofs.Common.{◌++◌, ◌∷◌, [], drop, take, length, arith, length-append, length-drop}
use Rattle.raw_view.specs.Frame.ElementSteps.{frame_of}
use Rattle.raw_view.specs.Document.{bytes_of}
use Rattle.raw_view.proofs.Frames.Iteration.{step_none, step_ok}
use Rattle.raw_view.proofs.Frames.Loops.{HasRead-more, HasRead-end, HasRead-bound}
use Rattle.raw_view.proofs.Bytes.Numbers.{length_fits}
use Rattle.raw_view.proofs.LookUps.Elements.{stopped_walk}
use Rattle.raw_view.proofs.document.RawDocument.count.Goals as goal

pub returns-in-Err-clause-count : goal.returns-in-Err-clause-count
returns-in-Err-clause-count c =
    let inv = c.loop-step.invariant in
    let w = stopped_walk (bytes_of c.args.self) inv.0 c.loop-step.step-iterator c.next.new.self c.in-Err.stop inv.1 (rw c.in-Err.is at c.in-Some.ensures.steps) in
    (inv.0, w.0, w.1, w.2)

pub overflow_add-count : goal.overflow_add-count
overflow_add-count c =
    let b = bytes_of c.args.self in
    let inv = c.loop-step.invariant in
    omega (arith, inv.2, HasRead-bound (drop 4 b) inv.0 c.loop-step.step-iterator inv.1, length-drop 4 b, length_fits (take 4 b) (length b) c.args.self.envelope.header)

pub loop-step-preserved : goal.loop-step-preserved
loop-step-preserved c =
    let inv = c.loop-step.invariant in
    let e = c.in-Ok.field-0 in
    let step = step_ok _ _ e (rw c.in-Ok.is at c.in-Some.ensures.steps) in
    (inv.0 ++ frame_of e ∷ [], HasRead-more _ inv.0 c.loop-step.step-iterator c.next.new.self e inv.1 step, omega (arith, inv.2, length-append inv.0 (frame_of e ∷ [])))

pub returns-clause-count : goal.returns-clause-count
returns-clause-count c =
    let inv = c.loop-step.invariant in
    (inv.0, HasRead-end _ inv.0 c.loop-step.step-iterator c.next.new.self inv.1 (step_none _ _ c.in-None.ensures.steps), inv.2)

pub returns-clause-bound : goal.returns-clause-bound
returns-clause-bound c =
    let b = bytes_of c.args.self in
    let inv = c.loop-step.invariant in
    omega (arith, inv.2, HasRead-bound (drop 4 b) inv.0 c.loop-step.step-iterator inv.1, length-drop 4 b)
