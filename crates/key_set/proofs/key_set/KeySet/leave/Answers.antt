use Rattle.std.proofs.Common.{arith}
use Rattle.key_set.proofs.References.{texts_front}
use Rattle.key_set.proofs.key_set.KeySet.leave.Goals as goal

pub returns-in-Ascending : goal.returns-in-Ascending
returns-in-Ascending c below own h = rw c.truncate.ensures.items (grind (arith, texts_front c.args.listed.now.items below own c.in-Ascending.first, h, c.in-Ascending.is))
