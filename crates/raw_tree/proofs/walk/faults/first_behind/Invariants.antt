use Rattle.std.proofs.Common.{◌≡◌, ◌-◌, ℕ, List, suc, length}
use Rattle.raw_tree.proofs.Common.{bytes_of}
use Rattle.raw_tree.proofs.walk.Common.{HasCome, Visit}
use Rattle.raw_tree.proofs.walk.faults.first_behind.Given as goal

abbrev pub invariant-elements : goal.invariant-elements
invariant-elements l = (most : ℕ) × (seen : List Visit) × HasCome l.fn.document most l.walk l.level seen × (suc most ≡ l.fn.depth)

-- the bytes after the offset
abbrev pub decreases-elements : goal.decreases-elements
decreases-elements l = length (bytes_of l.fn.document) - l.level.offset
