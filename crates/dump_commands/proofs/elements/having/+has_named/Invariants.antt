use Rattle.std.proofs.Common.{◌-◌}
use Rattle.raw_view.specs.Document.{bytes_of}
use Rattle.dump_commands.specs.elements.Cut.{texts_of}
use Rattle.dump_commands.proofs.elements.Had.{NamesOn}
use Rattle.dump_commands.proofs.elements.having.+has_named.Given as goal

-- what was found of the elements before, and what is found of the others, is what is found of the level
abbrev pub invariant-loop-item : goal.invariant-loop-item
invariant-loop-item l =
    NamesOn (record { levels = l.depth - 1; in_array = l.in_array; paths = texts_of l.paths; bytes = bytes_of l.level }) l.had l.item-iterator

abbrev pub decreases-has_named : goal.decreases-has_named
decreases-has_named l = l.depth
