use Rattle.dump_commands.proofs.Emitting.{unwritten}
use Rattle.dump_commands.proofs.making.emit.Goals as goal

pub returns-in-Prints-clause-written : goal.returns-in-Prints-clause-written
returns-in-Prints-clause-written g c = unwritten c.args.command c.args.origin c.args.bytes.now c.args.finding (g.D.Write.contents c.args.out.now.inner) c.args.kept.now c.in-Prints.is
