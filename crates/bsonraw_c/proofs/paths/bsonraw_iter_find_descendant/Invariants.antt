use Rattle.std.proofs.Common.{length}
use Rattle.bsonraw_c.proofs.Stepping.{GoesOnWith}
use Rattle.bsonraw_c.proofs.paths.bsonraw_iter_find_descendant.Given as goal

-- the steps that are left find what the whole path does
abbrev pub invariant-loop-rest : goal.invariant-loop-rest
invariant-loop-rest l = GoesOnWith l.bytes l.fn.path l.separator l.fn.iter l.path l.in_array l.iter

-- how much of the path is left
abbrev pub decreases-loop-rest : goal.decreases-loop-rest
decreases-loop-rest l = length l.path
