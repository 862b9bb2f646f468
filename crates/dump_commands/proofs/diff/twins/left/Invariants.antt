use Rattle.std.proofs.Common.{◌≡◌, [], map, take}
use Rattle.dump_commands.specs.diff.Numbering.{AreLeft, sides_at}
use Rattle.dump_commands.specs.diff.Pairs.{left_after}
use Rattle.dump_commands.specs.diff.Sides.{side_of}
use Rattle.dump_commands.proofs.diff.twins.left.Given as goal

-- the first documents are taken away, or left
abbrev pub invariant-loop-side : goal.invariant-loop-side
invariant-loop-side l =
    AreLeft (map side_of l.others) (map side_of (take l.side-index l.own)) l.twins
    × (sides_at l.left.items ≡ left_after (map side_of l.others) [] (map side_of (take l.side-index l.own)))
