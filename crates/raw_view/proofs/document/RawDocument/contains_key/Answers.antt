use Rattle.std.proofs.Common.{◌≡◌, ◌≢◌, ◌++◌, ◌∷◌, [], refl}
use Rattle.raw_view.specs.Frame.ElementSteps.{frame_of}
use Rattle.raw_view.specs.Document.{bytes_of}
use Rattle.raw_view.specs.Frame.{Done}
use Rattle.raw_view.specs.LookUp.{present, absent}
use Rattle.raw_view.proofs.Frames.Iteration.{step_none, step_ok, step_stop}
use Rattle.raw_view.proofs.Frames.Loops.{HasRead-more}
use Rattle.raw_view.proofs.LookUps.ByKey.{HasNoKey-more, key_present, key_stop, key_absent}
use Rattle.raw_view.proofs.Unique.LookUps.{the_key_answer}
use Rattle.raw_view.proofs.document.RawDocument.contains_key.Goals as goal

pub returns-in-Err-clause-found : goal.returns-in-Err-clause-found
returns-in-Err-clause-found c =
    let inv = c.loop-step.invariant in
    let front = rw c.in-Err.is at c.in-Some.ensures.steps in
    key_stop (bytes_of c.args.self) c.args.key.now inv.0 c.loop-step.step-iterator c.next.new.self c.into_error.result inv.1 inv.2
    (step_stop _ _ c.in-Err.stop c.into_error.result front c.into_error.ensures)

pub returns-then-has_key-clause-found : goal.returns-then-has_key-clause-found
returns-then-has_key-clause-found c =
    let inv = c.loop-step.invariant in
    let e = c.in-Ok.candidate in
    let step = step_ok _ _ e (rw c.in-Ok.is at c.in-Some.ensures.steps) in
    let same : (frame_of e).key ≡ c.args.key.now = c.has_key.ensures.0 c.if-has_key.true in
    (present, key_present (bytes_of c.args.self) c.args.key.now inv.0 c.loop-step.step-iterator c.next.new.self e inv.1 step same, refl)

pub loop-step-preserved : goal.loop-step-preserved
loop-step-preserved c =
    let inv = c.loop-step.invariant in
    let e = c.in-Ok.candidate in
    let step = step_ok _ _ e (rw c.in-Ok.is at c.in-Some.ensures.steps) in
    let other : (frame_of e).key ≢ c.args.key.now = λ k. let yes = c.has_key.ensures.1 k in let no = c.if-has_key.false in cc in
    (inv.0 ++ frame_of e ∷ [], HasRead-more _ inv.0 c.loop-step.step-iterator c.next.new.self e inv.1 step, HasNoKey-more _ inv.0 (frame_of e) inv.2 other)

pub returns-clause-found : goal.returns-clause-found
returns-clause-found c =
    let inv = c.loop-step.invariant in
    (absent Done, key_absent (bytes_of c.args.self) c.args.key.now inv.0 c.loop-step.step-iterator c.next.new.self inv.1 inv.2 (step_none _ _ c.in-None.ensures.steps), refl)

pub returns-in-Err-clause-one_answer : goal.returns-in-Err-clause-one_answer
returns-in-Err-clause-one_answer c = let t = returns-in-Err-clause-found c in (t.0, the_key_answer (bytes_of c.args.self) c.args.key.now t.0 t.1)

pub returns-then-has_key-clause-one_answer : goal.returns-then-has_key-clause-one_answer
returns-then-has_key-clause-one_answer c = let t = returns-then-has_key-clause-found c in (t.0, the_key_answer (bytes_of c.args.self) c.args.key.now t.0 t.1)

pub returns-clause-one_answer : goal.returns-clause-one_answer
returns-clause-one_answer c = let t = returns-clause-found c in (t.0, the_key_answer (bytes_of c.args.self) c.args.key.now t.0 t.1)
