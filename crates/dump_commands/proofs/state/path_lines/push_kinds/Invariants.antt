use Rattle.std.proofs.Common.{◌≡◌, ◌++◌, flat_map, take}
use Rattle.dump_commands.specs.state.Fields.{kind_words}
use Rattle.dump_commands.proofs.state.path_lines.push_kinds.Given as goal

abbrev pub invariant-loop-kind : goal.invariant-loop-kind
invariant-loop-kind l = l.text.items ≡ l.initial.text.items ++ flat_map (kind_words l.row) (take l.kind-index l.kinds)
