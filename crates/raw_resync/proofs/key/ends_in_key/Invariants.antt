use Rattle.std.proofs.Common.{◌≤◌, length}
use Rattle.raw_resync.proofs.Keys.{IsPlainFrom}
use Rattle.raw_resync.proofs.key.ends_in_key.Given as goal

-- no control character is in the bytes from here on
abbrev pub invariant-bytes : goal.invariant-bytes
invariant-bytes l = (l.start ≤ length l.text) × IsPlainFrom l.text l.start

abbrev pub decreases-bytes : goal.decreases-bytes
decreases-bytes l = l.start
