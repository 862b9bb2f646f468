use Rattle.dump_io.proofs.Face.{front_none, on_any}
use Rattle.dump_commands.proofs.summary.put_text_summary.Goals as goal

pub returns-in_err-all-clause-front : goal.returns-in_err-all-clause-front
returns-in_err-all-clause-front g c = on_any _ _ (front_none (g.W.Write.contents c.args.report.now) _)
