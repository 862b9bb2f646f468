use Rattle.bsonraw_c.proofs.Building.{holds_appended}
use Rattle.bsonraw_c.proofs.build.bsonraw_append.Goals as goal

pub returns-clause-holds : goal.returns-clause-holds
returns-clause-holds c = holds_appended c.args.tag c.args.key.now c.args.one.now c.args.two.now c.args.builder.now c.append.new.self c.args.room.now c.append.new.room c.append.ensures
