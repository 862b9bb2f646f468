use Rattle.std.proofs.Common.{◌+◌}
use Rattle.raw_tree.proofs.Common.{left_of}
use Rattle.raw_tree.proofs.reader.LevelSteps.{AreReading, left_in}
use Rattle.raw_tree.proofs.reader.read.Given as goal

-- the innermost level is read, the others wait for it, and the frames that they have passed are counted
abbrev pub invariant-levels : goal.invariant-levels
invariant-levels l = AreReading l.fn.depth l.fn.nested l.waiting.items l.level l.steps

-- the remaining bytes, and the levels
abbrev pub decreases-levels : goal.decreases-levels
decreases-levels l = left_of l.level.elements + left_in l.waiting.items
