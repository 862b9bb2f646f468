use Rattle.std.proofs.Common.{length}
use Rattle.bsonraw_c.specs.Build.{IsCText}
use Rattle.bsonraw_c.proofs.plain_bytes.is_long_plain.Given as goal

-- where the rest is a text without a 0, all bytes are
abbrev pub invariant-loop-rest : goal.invariant-loop-rest
invariant-loop-rest l = IsCText l.rest → IsCText l.bytes

abbrev pub decreases-loop-rest : goal.decreases-loop-rest
decreases-loop-rest l = length l.rest
