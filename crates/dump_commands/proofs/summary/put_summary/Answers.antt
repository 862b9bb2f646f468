use Rattle.std.proofs.Common.{rules, ◌≡◌, ℕ, List, [], Bool, true, false, Option, refl, subst, sym}
use Rattle.std.proofs.KnownBytes.{Appends-nil}
use Rattle.std.specs.Io.KnownBytes.{Appends}
use Rattle.std.specs.Option.{option_copied}
use Rattle.dump_commands.specs.Commands.{counts_of, keeps}
use Rattle.dump_commands.specs.Summary.{Count, line_of}
use Rattle.dump_commands.specs.declared.counts.Counts.{Counts}
use Rattle.dump_io.specs.declared.lines.style.Style.{Style}
use Rattle.dump_io.specs.declared.lines.style.Style.TheVariants.{Quiet}
use Rattle.dump_io.proofs.Face.{front_none, on_any}
use Rattle.dump_commands.proofs.summary.put_summary.Goals as goal

pub returns-in_err-all-clause-front : goal.returns-in_err-all-clause-front
returns-in_err-all-clause-front g c = on_any _ _ (front_none (g.W.Write.contents c.args.report.now) _)

pub returns-in_err-text-clause-front : goal.returns-in_err-text-clause-front
returns-in_err-text-clause-front g c = on_any _ _ (front_none (g.W.Write.contents c.args.report.now) _)

quiet_line : (keeps : Bool) (style : Style) (name : Option (List ℕ)) (n : Counts) (kept : ℕ) (counts : List Count) → style ≡ Quiet → line_of keeps style name n kept counts ≡ []
quiet_line true style name n kept counts quiet = rw quiet refl
quiet_line false style name n kept counts quiet = rw quiet refl

pub returns-then-matches-clause-written : goal.returns-then-matches-clause-written
returns-then-matches-clause-written g c =
    let job = c.args.job in
    let n = c.args.counts.now in
    let w = g.W.Write.contents c.args.report.now in
    let quiet : job.style ≡ Quiet = search rules in
    subst (Appends w w) (sym (quiet_line (keeps job.command) job.style (option_copied c.args.name) n c.args.kept (counts_of job.limit job.command n c.args.kept) quiet)) (Appends-nil w)
