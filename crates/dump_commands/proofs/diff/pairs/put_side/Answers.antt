use Rattle.dump_commands.proofs.Pairing.{numbers_more}
use Rattle.dump_commands.proofs.diff.pairs.put_side.Goals as goal

pub returns : goal.returns
returns c ss number are = numbers_more c.args.side c.args.all.now c.insert.new.self c.args.number c.in_ok-insert.ensures.updates ss number are
