use Rattle.std.proofs.Common.{map, take}
use Rattle.dump_commands.specs.diff.Pairs.{told_by}
use Rattle.dump_commands.proofs.Telling.{AreWritten}
use Rattle.dump_commands.proofs.diff.tell.put_all.Given as goal

-- the lines of the first ones are written
abbrev pub invariant-loop-one : goal.invariant-loop-one
invariant-loop-one g l =
    AreWritten l.telling (g.I.Inputs.bytes_of l.inputs) (map told_by (take l.one-index l.told)) (g.W.Write.contents l.initial.report) (g.W.Write.contents l.report)
