use Rattle.std.proofs.Common.{List, ℕ, subst, ◌∙◌}
use Rattle.std.specs.Io.KnownBytes.{Appends}
use Rattle.bsonraw.proofs.run.run.Goals as goal

pub returns-in-None-clause-usage : goal.returns-in-None-clause-usage
returns-in-None-clause-usage g c unknown written =
    let told = c.written.ensures written in
    let appends = λ (line : List ℕ). Appends (g.W.Write.contents c.args.writer.now) (g.W.Write.contents c.written.new.writer) line in
    (told.0 ∙ c.code.ensures, subst appends c.as_bytes.ensures.value told.1)
