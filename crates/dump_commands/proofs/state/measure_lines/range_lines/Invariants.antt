use Rattle.std.proofs.Common.{◌≡◌, ◌^◌, ◌++◌, drop}
use Rattle.dump_commands.specs.state.Measures.{range_lines}
use Rattle.dump_commands.proofs.state.measure_lines.range_lines.Given as goal

abbrev pub invariant-loop-number : goal.invariant-loop-number
invariant-loop-number l = (l.least ≡ 2 ^ l.number) × (l.text.items ++ range_lines l.style l.least (drop l.number l.ranges) ≡ range_lines l.style 1 l.ranges)
