use Rattle.std.proofs.Common.{ap, sym, ◌∙◌}
use Rattle.std.specs.Option.{option_copied}
use Rattle.bsonraw.proofs.Forms.{limit_printed}
use Rattle.bsonraw.proofs.canon.without_form.Goals as goal

pub returns-in-Some : goal.returns-in-Some
returns-in-Some c b lacks = limit_printed b c.args.error.now c.in-Some.line.now c.one_line.result lacks (sym c.limit_line.ensures ∙ ap option_copied c.in-Some.is) c.one_line.ensures
