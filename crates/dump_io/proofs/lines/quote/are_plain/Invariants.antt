use Rattle.std.proofs.Common.{◌<◌, ℕ, get_or}
use Rattle.dump_io.specs.lines.Quoting.{IsPlain}
use Rattle.dump_io.proofs.lines.quote.are_plain.Given as goal

-- each byte so far is plain
abbrev pub invariant-loop-byte : goal.invariant-loop-byte
invariant-loop-byte l = (i : ℕ) → i < l.byte-index → IsPlain (get_or l.bytes i 0)
