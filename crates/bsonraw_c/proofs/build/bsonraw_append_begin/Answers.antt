use Rattle.bsonraw_c.proofs.Building.{holds_opened}
use Rattle.bsonraw_c.proofs.build.bsonraw_append_begin.Goals as goal

pub returns-clause-holds : goal.returns-clause-holds
returns-clause-holds c = holds_opened c.args.tag c.args.key.now c.args.builder.now c.open.new.self c.args.room.now c.open.new.room c.open.ensures
