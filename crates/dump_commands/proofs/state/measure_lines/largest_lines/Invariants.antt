use Rattle.std.proofs.Common.{◌≡◌, flat_map, map, take}
use Rattle.dump_commands.specs.state.Measures.{ranked_line, ranked_of}
use Rattle.dump_commands.proofs.state.measure_lines.largest_lines.Given as goal

abbrev pub invariant-loop-document : goal.invariant-loop-document
invariant-loop-document l = l.text.items ≡ flat_map ranked_line (map ranked_of (take l.document-index l.largest))
