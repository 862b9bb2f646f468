use Rattle.std.proofs.Common.{◌≡◌, ◌≤◌, ◌<◌, ◌-◌, ℕ, get_or, length}
use Rattle.raw_resync.proofs.search.zeros_at_front.Given as goal

-- the bytes before are 0
abbrev pub invariant-bytes : goal.invariant-bytes
invariant-bytes l = (l.count ≤ length l.bytes) × ((k : ℕ) → k < l.count → get_or l.bytes k 0 ≡ 0)

abbrev pub decreases-bytes : goal.decreases-bytes
decreases-bytes l = length l.bytes - l.count
