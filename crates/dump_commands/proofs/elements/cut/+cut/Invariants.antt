use Rattle.std.proofs.Common.{◌-◌}
use Rattle.raw_view.specs.Document.{bytes_of}
use Rattle.dump_commands.specs.elements.Cut.{texts_of}
use Rattle.dump_commands.proofs.elements.Cutting.{CutsOn}
use Rattle.dump_commands.proofs.elements.cut.+cut.Given as goal

-- what was written, and what is written of the other elements, is what is written of the level
abbrev pub invariant-loop-item : goal.invariant-loop-item
invariant-loop-item l =
    CutsOn (record { others = l.others; levels = l.depth - 1; in_array = l.in_array; paths = texts_of l.paths; bytes = bytes_of l.level }) l.out.items l.number
    l.item-iterator

abbrev pub decreases-cut : goal.decreases-cut
decreases-cut l = l.depth
