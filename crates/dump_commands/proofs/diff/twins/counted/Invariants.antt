use Rattle.std.proofs.Common.{[], map, take}
use Rattle.dump_commands.specs.diff.Numbering.{AreLeft}
use Rattle.dump_commands.specs.diff.Sides.{side_of}
use Rattle.dump_commands.proofs.diff.twins.counted.Given as goal

-- the first documents are counted
abbrev pub invariant-loop-side : goal.invariant-loop-side
invariant-loop-side l = AreLeft (map side_of (take l.side-index l.sides)) [] l.twins
