use Rattle.std.proofs.Common.{◌≡◌, ◌≢◌, ◌++◌, ◌∷◌, [], refl}
use Rattle.raw_view.specs.Frame.ElementSteps.{frame_of}
use Rattle.raw_view.specs.Document.{bytes_of}
use Rattle.raw_view.specs.Frame.{Done}
use Rattle.raw_view.specs.LookUp.{found, missing}
use Rattle.raw_view.proofs.Frames.Iteration.{step_none, step_ok}
use Rattle.raw_view.proofs.Frames.Loops.{HasRead-more, HasRead-end}
use Rattle.raw_view.proofs.LookUps.ByKey.{HasNoKey-more}
use Rattle.raw_view.proofs.LookUps.Elements.{element_with_key, stopped_walk}
use Rattle.raw_view.proofs.Unique.LookUps.{the_element}
use Rattle.raw_view.proofs.document.RawDocument.get_element.Goals as goal

pub returns-in-Err-clause-found : goal.returns-in-Err-clause-found
returns-in-Err-clause-found c =
    let inv = c.loop-step.invariant in
    let w = stopped_walk (bytes_of c.args.self) inv.0 c.loop-step.step-iterator c.next.new.self c.in-Err.stop inv.1 (rw c.in-Err.is at c.in-Some.ensures.steps) in
    (missing w.0, (inv.0, w.1, inv.2), w.2)

pub returns-then-has_key-clause-found : goal.returns-then-has_key-clause-found
returns-then-has_key-clause-found c =
    let inv = c.loop-step.invariant in
    let e = c.in-Ok.element in
    let step = step_ok _ _ e (rw c.in-Ok.is at c.in-Some.ensures.steps) in
    let same : (frame_of e).key ≡ c.args.key.now = c.has_key.ensures.0 c.if-has_key.true in
    (found (frame_of e), element_with_key (bytes_of c.args.self) c.args.key.now inv.0 c.loop-step.step-iterator c.next.new.self e inv.1 inv.2 step same, refl)

pub loop-step-preserved : goal.loop-step-preserved
loop-step-preserved c =
    let inv = c.loop-step.invariant in
    let e = c.in-Ok.element in
    let step = step_ok _ _ e (rw c.in-Ok.is at c.in-Some.ensures.steps) in
    let other : (frame_of e).key ≢ c.args.key.now = λ k. let yes = c.has_key.ensures.1 k in let no = c.if-has_key.false in cc in
    (inv.0 ++ frame_of e ∷ [], HasRead-more _ inv.0 c.loop-step.step-iterator c.next.new.self e inv.1 step, HasNoKey-more _ inv.0 (frame_of e) inv.2 other)

pub returns-clause-found : goal.returns-clause-found
returns-clause-found c =
    let inv = c.loop-step.invariant in
    let walk = HasRead-end _ inv.0 c.loop-step.step-iterator c.next.new.self inv.1 (step_none _ _ c.in-None.ensures.steps) in
    (missing Done, (inv.0, walk, inv.2), refl)

pub returns-in-Err-clause-one_element : goal.returns-in-Err-clause-one_element
returns-in-Err-clause-one_element c = let t = returns-in-Err-clause-found c in (t.0, the_element (bytes_of c.args.self) c.args.key.now t.0 t.1)

pub returns-then-has_key-clause-one_element : goal.returns-then-has_key-clause-one_element
returns-then-has_key-clause-one_element c = let t = returns-then-has_key-clause-found c in (t.0, the_element (bytes_of c.args.self) c.args.key.now t.0 t.1)

pub returns-clause-one_element : goal.returns-clause-one_element
returns-clause-one_element c = let t = returns-clause-found c in (t.0, the_element (bytes_of c.args.self) c.args.key.now t.0 t.1)
