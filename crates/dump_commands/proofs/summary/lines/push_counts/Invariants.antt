use Rattle.std.proofs.Common.{◌≡◌, ◌++◌, flat_map, map, take}
use Rattle.dump_commands.specs.Summary.{count_of, next_text}
use Rattle.dump_commands.proofs.summary.lines.push_counts.Given as goal

abbrev pub invariant-loop-count : goal.invariant-loop-count
invariant-loop-count l = l.text.items ≡ l.initial.text.items ++ flat_map next_text (map count_of (take l.count-index l.counts))
