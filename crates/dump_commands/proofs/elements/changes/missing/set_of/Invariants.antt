use Rattle.std.proofs.Common.{take}
use Rattle.dump_commands.specs.elements.Numbered.{IsSetOf}
use Rattle.dump_commands.proofs.elements.changes.missing.set_of.Given as goal

-- the set has the leaves so far
abbrev pub invariant-loop-leaf : goal.invariant-loop-leaf
invariant-loop-leaf l = IsSetOf l.set (take l.leaf-index l.leaves)
