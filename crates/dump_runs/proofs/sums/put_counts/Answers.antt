use Rattle.std.proofs.KnownBytes.{Appends-nil}
use Rattle.dump_runs.specs.Sums.{line_of_input}
use Rattle.std.proofs.Common.{subst, sym}
use Rattle.std.specs.Io.KnownBytes.{Appends}
use Rattle.dump_runs.specs.declared.reading.Reading.{Reading}
use Rattle.dump_runs.proofs.sums.put_counts.Goals as goal

pub returns-in-Texts-clause-written : goal.returns-in-Texts-clause-written
returns-in-Texts-clause-written g c =
    let w = g.W.Write.contents c.args.report.now in
    subst (λ (r : Reading). Appends w w (line_of_input r c.args.name.now c.args.counts.now)) (sym c.in-Texts.is) (Appends-nil w)
