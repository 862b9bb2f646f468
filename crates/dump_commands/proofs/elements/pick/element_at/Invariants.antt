use Rattle.std.proofs.Common.{IsUtf8, length}
use Rattle.raw_view.specs.Document.{bytes_of}
use Rattle.dump_commands.proofs.elements.Picked.{LeadsOn}
use Rattle.dump_commands.proofs.elements.pick.element_at.Given as goal

-- what the other steps lead to in this level is what the path leads to
abbrev pub invariant-steps : goal.invariant-steps
invariant-steps l = LeadsOn (bytes_of l.fn.document) l.fn.path (bytes_of l.level) l.rest × IsUtf8 l.rest

abbrev pub decreases-steps : goal.decreases-steps
decreases-steps l = length l.rest
