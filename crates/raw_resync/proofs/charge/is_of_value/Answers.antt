use Rattle.raw_tree.specs.Barriers.{steps_of}
use Rattle.raw_resync.proofs.Charging.{no_value, of_value}
use Rattle.raw_resync.proofs.charge.is_of_value.Goals as goal
use Rattle.std.proofs.Common.{sym}

pub returns-in-Some : goal.returns-in-Some
returns-in-Some c x is = of_value c.args.tag x (steps_of c.args.barrier.now.place) c.is_behind_text.result _ (c.is_behind_text.ensures x is) (sym c.in-Some.ensures)

pub returns-in-None : goal.returns-in-None
returns-in-None c x is = no_value c.args.tag x (steps_of c.args.barrier.now.place) (sym c.in-None.ensures)
