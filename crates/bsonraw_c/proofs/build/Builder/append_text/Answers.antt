use Rattle.std.proofs.Common.{◌∙◌, refl, sym}
use Rattle.std.proofs.lemmas.Bool.{true≢false}
use Rattle.bsonraw_c.specs.declared.build_parts.Layout.TheVariants as layout
use Rattle.bsonraw_c.specs.declared.codes.Status.TheVariants as status
use Rattle.bsonraw_c.proofs.Building.{appended, declined}
use Rattle.bsonraw_c.proofs.build.Builder.append_text.Goals as goal

pub returns-then-is_text : goal.returns-then-is_text
returns-then-is_text c two =
    appended c.args.kind layout.Text c.args.key.now c.args.text.now two c.args.self.now c.add_text_under.new.self
    c.requires.open c.requires.laid (c.is_text.ensures.0 c.if-is_text.true) c.add_text_under.ensures

pub returns-else-is_text : goal.returns-else-is_text
returns-else-is_text c two =
    declined c.args.kind layout.Text c.args.key.now c.args.text.now two status.Fault c.args.self.now c.refuse.new.self c.requires.open
    c.requires.laid (λ text. true≢false (sym (c.is_text.ensures.1 text) ∙ c.if-is_text.false), refl) c.refuse.ensures
