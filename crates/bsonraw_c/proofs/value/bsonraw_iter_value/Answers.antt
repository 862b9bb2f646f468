use Rattle.std.proofs.Common.{◌≡◌, ◌+◌, ℕ, arith, ap, inl, length, subst}
use Rattle.raw_bson.specs.ElementSteps.{frame_of}
use Rattle.raw_bson.specs.Value.{value_of}
use Rattle.bsonraw_c.specs.Values.{SaysValue, payload_begins}
use Rattle.bsonraw_c.proofs.Iterating.{crossed}
use Rattle.bsonraw_c.proofs.Valuing.{on_few, on_payload}
use Rattle.bsonraw_c.proofs.value.bsonraw_iter_value.Goals as goal

pub overflow_cast-payload_at : goal.overflow_cast-payload_at
overflow_cast-payload_at c = record { fits = omega (arith, on_few c.args.bytes.now c.args.iter.now (frame_of c.in-Some.element) c.in-Some.ensures.there, ap length c.key.ensures) }

pub overflow_add-payload_at : goal.overflow_add-payload_at
overflow_add-payload_at c = record { fits = omega (arith, on_few c.args.bytes.now c.args.iter.now (frame_of c.in-Some.element) c.in-Some.ensures.there, ap length c.key.ensures) }

pub overflow_add-payload_at-in-Ok : goal.overflow_add-payload_at-in-Ok
overflow_add-payload_at-in-Ok c = record { fits = omega (arith, on_few c.args.bytes.now c.args.iter.now (frame_of c.in-Some.element) c.in-Some.ensures.there, ap length c.key.ensures) }

pub of-requires-clause-there : goal.of-requires-clause-there
of-requires-clause-there c = on_payload c.args.bytes.now c.args.iter.now (frame_of c.in-Some.element) c.in-Some.ensures.there _ (omega (arith, ap length c.key.ensures))

pub of-requires-clause-small : goal.of-requires-clause-small
of-requires-clause-small c = omega (arith, on_few c.args.bytes.now c.args.iter.now (frame_of c.in-Some.element) c.in-Some.ensures.there, ap length c.key.ensures)

pub returns-in-Ok : goal.returns-in-Ok
returns-in-Ok c =
    let f = frame_of c.in-Some.element in
    let v = value_of c.in-Ok.found in
    let at : c.args.iter.now.key_at + length c.key.result.now + 1 ≡ payload_begins c.args.iter.now f = omega (arith, ap length c.key.ensures) in
    inl (f, v, c.in-Some.ensures.there, c.in-Ok.ensures.value, subst (λ (n : ℕ). SaysValue c.args.bytes.now n v c.of.result) at c.of.ensures, crossed _ _ c.number-in-Ok.ensures)
