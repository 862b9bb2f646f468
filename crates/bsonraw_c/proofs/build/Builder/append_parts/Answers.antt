use Rattle.bsonraw_c.proofs.Building.{appended}
use Rattle.bsonraw_c.proofs.build.Builder.append_parts.Goals as goal

pub returns-in-Ok : goal.returns-in-Ok
returns-in-Ok c =
    let parts = c.args.parts in
    appended parts.kind parts.layout c.args.key.now parts.one.now parts.two.now c.args.self.now c.add_parts_under.new.self
    c.requires.open c.requires.laid c.in-Ok.ensures.good c.add_parts_under.ensures
