use Rattle.std.proofs.Common.{arith, subst}
use Rattle.raw_bson.specs.Document.{bytes_of}
use Rattle.raw_form.proofs.Face.{barrier_bound}
use Rattle.raw_form.specs.Barriers.{TellsBarrier, steps_of}
use Rattle.bsonraw_c.proofs.first_fault.fault_in.Goals as goal

pub at-requires : goal.at-requires
at-requires c =
    let barrier = c.in-Ok-Some.barrier in
    let told = subst (TellsBarrier c.args.limits (bytes_of c.args.document)) c.in-Ok-Some.field-0-is c.in-Ok-Some.ensures.barrier in
    omega (arith, barrier_bound c.args.limits (bytes_of c.args.document) told.0 (steps_of barrier.place) barrier.place.offset told.2, c.ranges.document)
