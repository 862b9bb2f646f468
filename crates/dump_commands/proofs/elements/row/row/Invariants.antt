use Rattle.std.proofs.Common.{IsUtf8, length}
use Rattle.raw_view.specs.Document.{bytes_of}
use Rattle.dump_commands.proofs.elements.Rowed.{RowOn}
use Rattle.dump_commands.proofs.elements.row.row.Given as goal

-- what was written, and the cells of the other paths, are the cells of all
abbrev pub invariant-paths : goal.invariant-paths
invariant-paths l = RowOn l.separator (bytes_of l.document) l.fn.paths l.row.items l.rest × IsUtf8 l.rest

abbrev pub decreases-paths : goal.decreases-paths
decreases-paths l = length l.rest
