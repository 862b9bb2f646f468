use Rattle.std.proofs.Common.{◌∙◌}
use Rattle.bsonraw_c.proofs.Building.{appended_iter}
use Rattle.bsonraw_c.proofs.build.Builder.append_iter.Goals as goal

pub returns : goal.returns
returns c =
    appended_iter c.as_bytes-key.result.now c.element_type.result c.payload.result.now c.args.self.now c.add_under.new.self
    (c.requires, c.is_begun.ensures.0 c.if-not-is_begun.false) c.in-Some.ensures.there (c.as_bytes-key.ensures.value ∙ c.key.ensures) c.element_type.ensures
    c.payload.ensures c.add_under.ensures
