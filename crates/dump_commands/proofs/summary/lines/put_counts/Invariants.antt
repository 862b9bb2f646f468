use Rattle.std.proofs.Common.{flat_map, map, take}
use Rattle.dump_io.specs.lines.Told.{Grows}
use Rattle.dump_commands.specs.Summary.{count_members, count_of}
use Rattle.dump_commands.proofs.summary.lines.put_counts.Given as goal

abbrev pub invariant-loop-count : goal.invariant-loop-count
invariant-loop-count l = Grows l.initial.object l.object (flat_map count_members (map count_of (take l.count-index l.counts)))
