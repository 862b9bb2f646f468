use Rattle.std.proofs.Common.{◌≡◌, ◌++◌, List, [], map, take}
use Rattle.dump_commands.specs.diff.Numbering.{AreCounts, sides_at}
use Rattle.dump_commands.specs.diff.Pairs.{told_after, told_by, told_new}
use Rattle.dump_commands.specs.diff.Sides.{Side, side_of}
use Rattle.dump_commands.proofs.diff.pairs.tell_news.Given as goal

-- the first documents are counted, and what is found of them is put
abbrev pub invariant-loop-side : goal.invariant-loop-side
invariant-loop-side l =
    AreCounts (sides_at (take l.side-index l.news)) l.counts
    × ((ss : List Side) → AreCounts ss l.olds
    → map told_by l.told.items ≡ map told_by l.initial.told.items ++ told_after told_new ss [] (sides_at (take l.side-index l.news)))
