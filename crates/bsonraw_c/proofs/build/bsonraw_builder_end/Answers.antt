use Rattle.std.proofs.Common.{arith}
use Rattle.bsonraw_c.proofs.BuildReads.{elements_read}
use Rattle.bsonraw_c.proofs.Building.{closed_sound, closed_there}
use Rattle.bsonraw_c.proofs.build.bsonraw_builder_end.Goals as goal

pub returns-clause-holds : goal.returns-clause-holds
returns-clause-holds c = λ outer unset fs four h ok.
    let there = closed_there c.args.builder.now c.close.new.self c.args.room.now c.close.new.room outer unset fs four h c.close.ensures ok in
    (there.0, closed_sound c.args.builder.now c.close.new.self c.args.room.now c.close.new.room outer unset fs four h c.close.ensures ok (λ i. omega (arith, c.type_inv.room i)), elements_read fs)
