use Rattle.std.proofs.Common.{IsUtf8, length}
use Rattle.raw_view.specs.Document.{bytes_of}
use Rattle.dump_commands.proofs.elements.Had.{HadOn}
use Rattle.dump_commands.proofs.elements.having.had.Given as goal

-- what was found of the paths before, and what is found of the others, is what is found of all
abbrev pub invariant-paths : goal.invariant-paths
invariant-paths l = HadOn l.picking.choice (bytes_of l.document) l.picking.paths.now l.flags.items l.rest × IsUtf8 l.rest

abbrev pub decreases-paths : goal.decreases-paths
decreases-paths l = length l.rest
