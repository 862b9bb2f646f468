-- What holds of a first barrier within a depth holds within limits.
use Rattle.std.proofs.Common.{inr, ◌≤◌, List, ℕ, Option, None, Some, Result, Ok, Err, IfOk, length}
use Rattle.raw_tree.proofs.Common.{Error, Limits}
use Rattle.raw_tree.proofs.walk.Common.{Barrier, TellsBarrier, TellsBarrierWithin}
use Rattle.raw_tree.proofs.reader.Limited.{read_within}

-- what a walk to a depth returns is right within limits
pub barrier_told : (limits : Limits) (b : List ℕ) (result : Result (Option Barrier) Error) → length b ≤ limits.bytes
    → IfOk result (TellsBarrierWithin limits.depth b) → IfOk result (TellsBarrier limits b)
barrier_told limits b (Ok None) few (t, read) = (t, read_within limits b t few read)
barrier_told limits b (Ok (Some answer)) few (x, is, first) = (x, is, inr (few, first))
barrier_told limits b (Err e) few told = tt
