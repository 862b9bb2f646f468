use Rattle.std.proofs.Common.{◌≡◌, flat_map, map, take}
use Rattle.dump_commands.specs.state.Measures.{share_line, share_of}
use Rattle.dump_commands.proofs.state.measure_lines.share_lines.Given as goal

abbrev pub invariant-loop-share : goal.invariant-loop-share
invariant-loop-share l = l.text.items ≡ flat_map share_line (map share_of (take l.share-index l.shares))
