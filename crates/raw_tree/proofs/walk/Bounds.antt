-- The places in a document are within it.
use Rattle.std.proofs.Common.{◌≤◌, inl, inr, ℕ, List, length, arith}
use Rattle.raw_tree.proofs.Common.{Barrier, Limits, as_document, barriers}
use Rattle.raw_tree.proofs.walk.Common.{FirstBarrierAt, FirstViolation, Step, Violation, violations}
use Rattle.raw_tree.proofs.walk.First.{first_bound}

-- where the first barrier begins
pub barrier_bound : (limits : Limits) (b : List ℕ) (x : Barrier) (path : List Step) (offset : ℕ) → FirstBarrierAt limits b x path offset → offset ≤ length b
barrier_bound limits b x path offset (inl h) = omega (arith, h.3)
barrier_bound limits b x path offset (inr h) = first_bound barriers limits.depth as_document b x path offset h.1

-- where the first violation begins
pub violation_bound : (limits : Limits) (b : List ℕ) (x : Violation) (path : List Step) (offset : ℕ) → FirstViolation limits b x path offset → offset ≤ length b
violation_bound limits b x path offset h = first_bound violations limits.depth as_document b x path offset h.1
