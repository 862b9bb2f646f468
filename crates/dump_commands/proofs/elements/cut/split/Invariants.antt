use Rattle.std.proofs.Common.{◌≡◌, ◌++◌, IsUtf8, length}
use Rattle.dump_commands.specs.elements.Cut.{texts_of}
use Rattle.dump_commands.specs.elements.Pick.{comma, parts}
use Rattle.dump_commands.proofs.elements.cut.split.Given as goal

-- the paths before, and those of the rest, are all
abbrev pub invariant-paths : goal.invariant-paths
invariant-paths l = (texts_of l.each.items ++ parts comma l.rest ≡ parts comma l.fn.paths) × IsUtf8 l.rest

abbrev pub decreases-paths : goal.decreases-paths
decreases-paths l = length l.rest
