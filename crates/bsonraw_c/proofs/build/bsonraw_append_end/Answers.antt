use Rattle.std.proofs.Common.{arith}
use Rattle.bsonraw_c.proofs.Building.{holds_ended}
use Rattle.bsonraw_c.proofs.build.bsonraw_append_end.Goals as goal

pub returns-clause-holds : goal.returns-clause-holds
returns-clause-holds c = holds_ended c.args.level.now c.args.builder.now c.end.new.self c.args.room.now c.end.new.room (λ i. omega (arith, c.type_inv.room i)) c.end.ensures
