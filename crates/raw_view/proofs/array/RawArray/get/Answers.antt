use Rattle.std.proofs.Common.{refl, Option, List, ℕ, Some, None, Ok, Err, subst}
use Rattle.std.specs.Iterator.{SkipsThenYields}
use Rattle.raw_view.specs.Frame.Front.{StepsFront}
use Rattle.raw_view.specs.Meaning.{faulty}
use Rattle.raw_view.specs.Meaning.Value.{array_bytes_of}
use Rattle.raw_view.proofs.Frames.Iteration.{told_fault}
use Rattle.raw_view.proofs.LookUps.ByKey.{found_value, found_fault}
use Rattle.raw_view.proofs.LookUps.ByNumber.{nth_none, nth_element, nth_stop}
use Rattle.raw_view.proofs.Unique.LookUps.{the_answer_at}
use Rattle.raw_view.proofs.array.RawArray.get.Goals as goal

pub returns-in-None-clause-found : goal.returns-in-None-clause-found
returns-in-None-clause-found c =
    let ran = subst (λ (x : Option (List ℕ)). SkipsThenYields StepsFront x c.args.index None c.nth.new.self) c.new.ensures c.in-None.ensures.ran in
    (None, nth_none (array_bytes_of c.args.self) _ _ ran, refl)

pub returns-in-Some-Err-clause-found : goal.returns-in-Some-Err-clause-found
returns-in-Some-Err-clause-found c =
    let at = rw c.in-Some-Err.field-0-is at c.in-Some-Err.ensures.ran in
    let ran = subst (λ (x : Option (List ℕ)). SkipsThenYields StepsFront x c.args.index (Some (Err c.in-Some-Err.stop)) c.nth.new.self) c.new.ensures at in
    let t = nth_stop (array_bytes_of c.args.self) _ _ _ ran in
    (Some (faulty t.0), t.2, told_fault c.in-Some-Err.stop t.0 c.into_error.result t.1 c.into_error.ensures)

pub returns-in-Ok-clause-found : goal.returns-in-Ok-clause-found
returns-in-Ok-clause-found c =
    let at = rw c.in-Some-Ok.field-0-is at c.in-Some-Ok.ensures.ran in
    let ran = subst (λ (x : Option (List ℕ)). SkipsThenYields StepsFront x c.args.index (Some (Ok c.in-Some-Ok.element)) c.nth.new.self) c.new.ensures at in
    let m = c.in-Ok.ensures.meaning in
    (Some m.0, nth_element (array_bytes_of c.args.self) _ _ _ ran m.0 m.1, found_value c.in-Ok.value m.0 m.2)

pub returns-in-Err-clause-found : goal.returns-in-Err-clause-found
returns-in-Err-clause-found c =
    let at = rw c.in-Some-Ok.field-0-is at c.in-Some-Ok.ensures.ran in
    let ran = subst (λ (x : Option (List ℕ)). SkipsThenYields StepsFront x c.args.index (Some (Ok c.in-Some-Ok.element)) c.nth.new.self) c.new.ensures at in
    let m = c.in-Err.ensures.meaning in
    (Some m.0, nth_element (array_bytes_of c.args.self) _ _ _ ran m.0 m.1, found_fault c.in-Err.error m.0 m.2)

pub returns-in-None-clause-one_answer : goal.returns-in-None-clause-one_answer
returns-in-None-clause-one_answer c = let t = returns-in-None-clause-found c in (t.0, the_answer_at (array_bytes_of c.args.self) c.args.index t.0 t.1)

pub returns-in-Some-Err-clause-one_answer : goal.returns-in-Some-Err-clause-one_answer
returns-in-Some-Err-clause-one_answer c = let t = returns-in-Some-Err-clause-found c in (t.0, the_answer_at (array_bytes_of c.args.self) c.args.index t.0 t.1)

pub returns-in-Ok-clause-one_answer : goal.returns-in-Ok-clause-one_answer
returns-in-Ok-clause-one_answer c = let t = returns-in-Ok-clause-found c in (t.0, the_answer_at (array_bytes_of c.args.self) c.args.index t.0 t.1)

pub returns-in-Err-clause-one_answer : goal.returns-in-Err-clause-one_answer
returns-in-Err-clause-one_answer c = let t = returns-in-Err-clause-found c in (t.0, the_answer_at (array_bytes_of c.args.self) c.args.index t.0 t.1)
