use Rattle.std.proofs.Common.{map, take}
use Rattle.dump_commands.specs.diff.Numbering.{AreCounts, AreNumbered, sides_at}
use Rattle.dump_commands.proofs.diff.pairs.numbered.Given as goal

-- the first documents are counted and numbered
abbrev pub invariant-loop-side : goal.invariant-loop-side
invariant-loop-side l = AreCounts (sides_at (take l.side-index l.sides)) l.counts × AreNumbered (sides_at (take l.side-index l.sides)) l.all
