use Rattle.bsonraw_c.proofs.Building.{holds_number}
use Rattle.bsonraw_c.proofs.build_numbers.bsonraw_append_number.Goals as goal

pub returns-clause-holds : goal.returns-clause-holds
returns-clause-holds c = holds_number c.args.tag c.args.key.now c.args.number c.args.builder.now c.append_number.new.self c.args.room.now c.append_number.new.room c.append_number.ensures
