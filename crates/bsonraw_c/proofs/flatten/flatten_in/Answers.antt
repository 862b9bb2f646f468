use Rattle.std.proofs.Common.{Err, arith, subst}
use Rattle.raw_bson.specs.Document.{bytes_of}
use Rattle.raw_form.proofs.Face.{barrier_bound}
use Rattle.raw_form.specs.Barriers.{steps_of}
use Rattle.raw_form.specs.Tokens.{Flattens}
use Rattle.raw_form.specs.declared.flatten.FlattenError.{FlattenError}
use Rattle.bsonraw_c.proofs.flatten.flatten_in.Goals as goal

pub at-requires : goal.at-requires
at-requires c =
    let b = bytes_of c.args.document in
    let barrier = c.in-Err-Barrier.barrier in
    let told = subst (λ (e : FlattenError). Flattens c.args.limits b c.args.tokens.now c.flatten_within.new.tokens (Err e)) c.in-Err-Barrier.field-0-is
    c.in-Err-Barrier.ensures.flat in
    omega (arith, barrier_bound c.args.limits b told.0 (steps_of barrier.place) barrier.place.offset told.2, c.ranges.document)
