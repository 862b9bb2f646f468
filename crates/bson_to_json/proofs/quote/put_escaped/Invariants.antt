use Rattle.bson_to_json.proofs.Common.{Appends, escape}
use Rattle.std.proofs.Common.{◌≤◌, ◌-◌, length, take}
use Rattle.bson_to_json.proofs.quote.put_escaped.Given as goal

-- the bytes so far are written
abbrev pub invariant-runs : goal.invariant-runs
invariant-runs g l = (l.at ≤ length l.bytes) × Appends (g.W.Write.contents l.fn.out) (g.W.Write.contents l.out) (escape (take l.at l.bytes))

abbrev pub decreases-runs : goal.decreases-runs
decreases-runs g l = length l.bytes - l.at
