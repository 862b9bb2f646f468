use Rattle.std.proofs.Common.{◌≡◌, ◌++◌, [], map, take}
use Rattle.dump_commands.specs.diff.Numbering.{AreCounts, sides_at}
use Rattle.dump_commands.specs.diff.Pairs.{told_after, told_by, told_old}
use Rattle.dump_commands.proofs.diff.pairs.tell_olds.Given as goal

-- the first documents are counted, and what is found of them is put
abbrev pub invariant-loop-side : goal.invariant-loop-side
invariant-loop-side l =
    AreCounts (sides_at (take l.side-index l.olds)) l.counts
    × (map told_by l.told.items ≡ map told_by l.initial.told.items ++ told_after told_old (sides_at l.fn.news) [] (sides_at (take l.side-index l.olds)))
