use Rattle.std.proofs.Common.{ℕ, Ok, Err, Some, inl, inr, subst}
use Rattle.std.specs.Option.{option_copied}
use Rattle.raw_bson.specs.ElementSteps.{frame_of}
use Rattle.bsonraw_c.specs.Iters.{IsKeyAt}
use Rattle.bsonraw_c.proofs.Iterating.{crossed, faulted, placed}
use Rattle.bsonraw_c.proofs.Placing.{given}
use Rattle.bsonraw_c.proofs.moves.step.Goals as goal

pub returns-in-Some-Ok : goal.returns-in-Some-Ok
returns-in-Some-Ok c =
    let g = c.in-Some.ensures.left in
    let st = given g.1 c.in-Some.elements c.next.new.self c.next.result (Some (Ok c.in-Some-Ok.element)) g.3 (rw (← c.in-Some-Ok.field-0-is) c.in-Some-Ok.is) c.next.ensures.steps in (
      (c.enter.ensures.document, λ _. c.enter.ensures.fault),
      inl (
        g.0,
        g.1,
        g.2,
        inl (
          (
            frame_of c.in-Some-Ok.element,
            st.0,
            st.1,
            tt,
            placed c.args.bytes.now g.0 g.1 c.args.iter.now g.2 (frame_of c.in-Some-Ok.element) st.0 c.enter.new.self st.1 c.enter.ensures.placed,
          ),
          crossed _ _ c.number-in-Some-Ok.ensures,
        ),
      ),
    )

pub returns-in-Some-Err : goal.returns-in-Some-Err
returns-in-Some-Err c =
    let g = c.in-Some.ensures.left in
    let st = given g.1 c.in-Some.elements c.next.new.self c.next.result (Some (Err c.in-Some-Err.stop)) g.3 (rw (← c.in-Some-Err.field-0-is) c.in-Some-Err.is) c.next.ensures.steps in
    let returned = crossed _ _ c.number-in-Some-Err.ensures in
    let fault = faulted c.args.bytes.now g.0 g.1 c.args.iter.now g.2 c.in-Some-Err.stop c.stop.new.self st.0
    (subst (λ (end : ℕ). IsKeyAt end c.args.iter.now.next (option_copied c.in-Some-Err.stop.key) c.stop.new.self) c.end_of-end.ensures c.stop.ensures.key)
    c.stop.ensures.next c.stop.ensures.why c.stop.ensures.offset in
    ((c.stop.ensures.document, λ other. absurd (other returned)), inl (g.0, g.1, g.2, inr (inr (fault, returned))))
