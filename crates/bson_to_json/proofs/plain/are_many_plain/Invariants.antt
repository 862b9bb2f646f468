use Rattle.std.proofs.Common.{◌-◌, ◌≤◌, length}
use Rattle.json.specs.Written.{PlainBetween}
use Rattle.bson_to_json.proofs.plain.are_many_plain.Given as goal

-- the bytes so far are plain
abbrev pub invariant-steps : goal.invariant-steps
invariant-steps l = (l.at ≤ length l.bytes) × PlainBetween l.bytes 0 l.at

abbrev pub decreases-steps : goal.decreases-steps
decreases-steps l = length l.bytes - l.at
