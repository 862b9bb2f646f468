use Rattle.std.proofs.Common.{◌≤◌, ◌+◌, length}
use Rattle.raw_bson.specs.Folds.{ReadsDump}
use Rattle.bson_uses.specs.Tallies.{Steps, none}
use Rattle.bson_uses.proofs.tally.tally_of.Given as goal

-- the documents so far, which lead to the tally, and the rest; the counts have room
abbrev pub invariant-loop-rest : goal.invariant-loop-rest
invariant-loop-rest l = ReadsDump (Steps l.limits l.key) none l.bytes l.tally l.rest × (l.tally.documents + length l.rest ≤ length l.bytes)
    × (l.tally.canonical + length l.rest ≤ length l.bytes)

abbrev pub decreases-loop-rest : goal.decreases-loop-rest
decreases-loop-rest l = length l.rest
