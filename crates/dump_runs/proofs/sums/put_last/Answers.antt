use Rattle.std.proofs.KnownBytes.{Appends-nil}
use Rattle.dump_runs.proofs.sums.put_last.Goals as goal

pub returns-in-Never-clause-written : goal.returns-in-Never-clause-written
returns-in-Never-clause-written g c = rw (c.profile.ensures, c.in-Never.is) (Appends-nil (g.W.Write.contents c.args.report.now))
