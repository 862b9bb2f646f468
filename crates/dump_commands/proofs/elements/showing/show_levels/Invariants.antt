use Rattle.std.proofs.Common.{◌<◌, length}
use Rattle.raw_view.specs.Document.{bytes_of}
use Rattle.dump_commands.specs.elements.ShownLevels.{levels_of, size_left}
use Rattle.dump_commands.proofs.elements.Steps.{IsShowing}
use Rattle.dump_commands.proofs.elements.showing.show_levels.Given as goal

abbrev pub invariant-levels : goal.invariant-levels
invariant-levels g l =
    IsShowing (bytes_of l.fn.document) l.fn.page l.page (g.W.Write.contents l.fn.out) (g.W.Write.contents l.out) (levels_of l.waiting.items l.level)
    × (length l.waiting.items < 500)

abbrev pub decreases-levels : goal.decreases-levels
decreases-levels g l = size_left (levels_of l.waiting.items l.level)
