use Rattle.std.proofs.Common.{IsUtf8, length}
use Rattle.raw_view.specs.Document.{bytes_of}
use Rattle.dump_commands.proofs.elements.Picked.{PicksOn}
use Rattle.dump_commands.proofs.elements.pick.picked_elements.Given as goal

-- what was picked, and what the other paths pick, is what all pick
abbrev pub invariant-paths : goal.invariant-paths
invariant-paths l = PicksOn (bytes_of l.document) l.paths l.elements.items l.rest × IsUtf8 l.rest

abbrev pub decreases-paths : goal.decreases-paths
decreases-paths l = length l.rest
