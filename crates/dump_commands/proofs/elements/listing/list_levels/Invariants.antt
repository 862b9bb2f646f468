use Rattle.std.proofs.Common.{◌+◌}
use Rattle.raw_view.specs.Document.{bytes_of}
use Rattle.dump_commands.proofs.elements.Levels.{IsLooping, size_left, size_waiting}
use Rattle.dump_commands.proofs.elements.listing.list_levels.Given as goal

abbrev pub invariant-levels : goal.invariant-levels
invariant-levels g l = IsLooping (bytes_of l.fn.document) l.waiting.items l.level (g.W.Write.contents l.fn.out) (g.W.Write.contents l.out)

-- the bytes that are left, and the levels
abbrev pub decreases-levels : goal.decreases-levels
decreases-levels g l = size_left l.level + size_waiting l.waiting.items
