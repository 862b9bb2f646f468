use Rattle.std.proofs.Common.{◌≡◌, ◌++◌, IsUtf8, length}
use Rattle.dump_commands.specs.elements.Pick.{comma, parts}
use Rattle.dump_commands.specs.elements.Row.{cells}
use Rattle.dump_commands.proofs.elements.row.header.Given as goal

-- what was written, and the cells of the other paths, are the cells of all
abbrev pub invariant-paths : goal.invariant-paths
invariant-paths l = (l.row.items ++ cells l.separator (parts comma l.rest) ≡ cells l.separator (parts comma l.fn.paths)) × IsUtf8 l.rest

abbrev pub decreases-paths : goal.decreases-paths
decreases-paths l = length l.rest
