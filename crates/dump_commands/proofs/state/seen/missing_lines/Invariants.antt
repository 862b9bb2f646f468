use Rattle.std.proofs.Common.{◌≡◌, ◌++◌, IsUtf8, length}
use Rattle.dump_commands.specs.elements.Pick.{comma, parts}
use Rattle.dump_commands.specs.state.Seen.{missing_lines}
use Rattle.dump_commands.proofs.state.seen.missing_lines.Given as goal

-- the lines before, and those of the rest, are all
abbrev pub invariant-paths : goal.invariant-paths
invariant-paths l = (l.text.items ++ missing_lines l.style (parts comma l.rest) l.left ≡ missing_lines l.style (parts comma l.fn.paths) l.fn.seen) × IsUtf8 l.rest

abbrev pub decreases-paths : goal.decreases-paths
decreases-paths l = length l.rest
