use Rattle.bsonraw_c.proofs.Building.{holds_iter}
use Rattle.bsonraw_c.proofs.build.bsonraw_append_iter.Goals as goal

pub returns-clause-holds : goal.returns-clause-holds
returns-clause-holds c = holds_iter c.args.bytes.now c.args.iter.now c.args.builder.now c.append_iter.new.self c.args.room.now c.append_iter.new.room c.append_iter.ensures
