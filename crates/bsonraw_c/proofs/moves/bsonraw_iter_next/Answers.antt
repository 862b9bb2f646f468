use Rattle.std.proofs.Common.{Ok, Some, inl, refl}
use Rattle.raw_bson.specs.ElementSteps.{frame_of}
use Rattle.bsonraw_c.proofs.Iterating.{crossed, placed}
use Rattle.bsonraw_c.proofs.Placing.{given}
use Rattle.bsonraw_c.proofs.moves.bsonraw_iter_next.Goals as goal

pub returns-in-Some-next_plain : goal.returns-in-Some-next_plain
returns-in-Some-next_plain c =
    let g = c.in-Some.ensures.left in
    let f = frame_of c.in-Some-next_plain.element in
    let st = given g.1 c.in-Some.elements c.next_plain.new.self (Some (Ok c.in-Some-next_plain.element)) (Some (Ok c.in-Some-next_plain.element)) g.3 refl c.in-Some-next_plain.ensures.found in (
      (c.enter.ensures.document, λ _. c.enter.ensures.fault),
      inl (
        g.0,
        g.1,
        g.2,
        inl (
          (f, st.0, st.1, tt, placed c.args.bytes.now g.0 g.1 c.args.iter.now g.2 f st.0 c.enter.new.self st.1 c.enter.ensures.placed),
          crossed _ _ c.number.ensures,
        ),
      ),
    )
