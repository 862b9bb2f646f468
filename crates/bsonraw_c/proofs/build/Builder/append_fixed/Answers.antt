use Rattle.std.proofs.Common.{refl}
use Rattle.bsonraw_c.specs.declared.build_parts.Layout.TheVariants as layout
use Rattle.bsonraw_c.specs.declared.codes.Status.TheVariants as status
use Rattle.bsonraw_c.proofs.Building.{appended, declined}
use Rattle.bsonraw_c.proofs.build.Builder.append_fixed.Goals as goal

pub returns-then-payload-len : goal.returns-then-payload-len
returns-then-payload-len c two =
    appended c.args.kind (layout.Fixed c.args.len) c.args.key.now c.args.payload.now two c.args.self.now c.add_under.new.self
    c.requires.open c.requires.laid c.if-payload-len.true c.add_under.ensures

pub returns-else-payload-len : goal.returns-else-payload-len
returns-else-payload-len c two =
    declined c.args.kind (layout.Fixed c.args.len) c.args.key.now c.args.payload.now two status.OtherKind c.args.self.now c.refuse.new.self
    c.requires.open c.requires.laid (c.if-payload-len.false, refl) c.refuse.ensures
