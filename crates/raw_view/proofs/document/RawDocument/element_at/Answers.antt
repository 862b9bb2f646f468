use Rattle.std.proofs.Common.{◌++◌, ◌∷◌, [], refl, arith, length-append}
use Rattle.raw_view.specs.Frame.ElementSteps.{frame_of}
use Rattle.raw_view.specs.Document.{bytes_of}
use Rattle.raw_view.specs.Frame.{Done}
use Rattle.raw_view.specs.LookUp.{found, missing}
use Rattle.raw_view.proofs.Frames.Iteration.{step_none, step_ok}
use Rattle.raw_view.proofs.Frames.Loops.{HasRead-more, HasRead-end}
use Rattle.raw_view.proofs.LookUps.Elements.{element_behind, stopped_walk}
use Rattle.raw_view.proofs.Unique.LookUps.{the_element_at}
use Rattle.raw_view.proofs.document.RawDocument.element_at.Goals as goal

pub returns-in-Err-clause-found : goal.returns-in-Err-clause-found
returns-in-Err-clause-found c =
    let inv = c.loop-step.invariant in
    let w = stopped_walk (bytes_of c.args.self) inv.0 c.loop-step.step-iterator c.next.new.self c.in-Err.stop inv.1 (rw c.in-Err.is at c.in-Some.ensures.steps) in
    (missing w.0, (inv.0, w.1, omega (arith, inv.2)), w.2)

pub returns-then-before-eq0-clause-found : goal.returns-then-before-eq0-clause-found
returns-then-before-eq0-clause-found c =
    let inv = c.loop-step.invariant in
    let e = c.in-Ok.element in
    let step = step_ok _ _ e (rw c.in-Ok.is at c.in-Some.ensures.steps) in
    (found (frame_of e), element_behind (bytes_of c.args.self) c.args.number inv.0 c.loop-step.step-iterator c.next.new.self e inv.1 (omega (arith, inv.2)) step, refl)

pub loop-step-preserved : goal.loop-step-preserved
loop-step-preserved c =
    let inv = c.loop-step.invariant in
    let e = c.in-Ok.element in
    let step = step_ok _ _ e (rw c.in-Ok.is at c.in-Some.ensures.steps) in
    (inv.0 ++ frame_of e ∷ [], HasRead-more _ inv.0 c.loop-step.step-iterator c.next.new.self e inv.1 step, omega (arith, inv.2, length-append inv.0 (frame_of e ∷ [])))

pub returns-clause-found : goal.returns-clause-found
returns-clause-found c =
    let inv = c.loop-step.invariant in
    let walk = HasRead-end _ inv.0 c.loop-step.step-iterator c.next.new.self inv.1 (step_none _ _ c.in-None.ensures.steps) in
    (missing Done, (inv.0, walk, omega (arith, inv.2)), refl)

pub returns-in-Err-clause-one_element : goal.returns-in-Err-clause-one_element
returns-in-Err-clause-one_element c = let t = returns-in-Err-clause-found c in (t.0, the_element_at (bytes_of c.args.self) c.args.number t.0 t.1)

pub returns-then-before-eq0-clause-one_element : goal.returns-then-before-eq0-clause-one_element
returns-then-before-eq0-clause-one_element c = let t = returns-then-before-eq0-clause-found c in (t.0, the_element_at (bytes_of c.args.self) c.args.number t.0 t.1)

pub returns-clause-one_element : goal.returns-clause-one_element
returns-clause-one_element c = let t = returns-clause-found c in (t.0, the_element_at (bytes_of c.args.self) c.args.number t.0 t.1)
