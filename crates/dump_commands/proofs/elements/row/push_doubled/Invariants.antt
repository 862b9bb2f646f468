use Rattle.std.proofs.Common.{◌≡◌, ◌++◌, flat_map, take}
use Rattle.dump_commands.specs.elements.Row.{doubled}
use Rattle.dump_commands.proofs.elements.row.push_doubled.Given as goal

abbrev pub invariant-loop-byte : goal.invariant-loop-byte
invariant-loop-byte l = l.row.items ≡ l.initial.row.items ++ flat_map doubled (take l.byte-index l.text)
