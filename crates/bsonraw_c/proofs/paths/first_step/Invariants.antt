use Rattle.std.proofs.Common.{take}
use Rattle.bsonraw_c.specs.Paths.{HasNone}
use Rattle.bsonraw_c.proofs.paths.first_step.Given as goal

-- no byte before is the separator
abbrev pub invariant-loop-len : goal.invariant-loop-len
invariant-loop-len l = HasNone l.separator (take l.len l.path)
