use Rattle.dump_io.proofs.Face.{front_none, on_any}
use Rattle.dump_runs.proofs.sums.put_gathered.Goals as goal

pub returns-in_err-lines-clause-front : goal.returns-in_err-lines-clause-front
returns-in_err-lines-clause-front g c = on_any _ _ (front_none (g.W.Write.contents c.args.report.now) _)
