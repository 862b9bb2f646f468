-- What is charged stays within its bound.
use Rattle.std.proofs.Common.{ℕ, ◌≤◌, arith}
use Rattle.raw_resync.specs.Seeking.{KeepsBound}
use Rattle.raw_resync.specs.declared.work.Work.{Work}

pub keeps_same : (end : ℕ) (w : Work) → KeepsBound end w w
keeps_same end w total within bound = bound

-- two charges one after another
pub keeps_on : (end : ℕ) (old mid new : Work) → KeepsBound end old mid → KeepsBound end mid new → KeepsBound end old new
keeps_on end old mid new p q total within bound = q total within (p total within bound)

-- what is charged stays within the bound for a further end, too
pub keeps_before : (near far : ℕ) (old new : Work) → near ≤ far → KeepsBound near old new → KeepsBound far old new
keeps_before near far old new less p total within bound = p total (omega (arith, less, within)) bound
