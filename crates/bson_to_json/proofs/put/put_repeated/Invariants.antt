use Rattle.std.proofs.Common.{◌-◌, ◌≤◌, replicate}
use Rattle.std.specs.Io.KnownBytes.{Appends}
use Rattle.bson_to_json.proofs.put.put_repeated.Given as goal

-- all but those that are left are written
abbrev pub invariant-writing : goal.invariant-writing
invariant-writing g l = (l.left ≤ l.fn.count) × Appends (g.W.Write.contents l.fn.out) (g.W.Write.contents l.out) (replicate (l.fn.count - l.left) l.fn.byte)

abbrev pub decreases-writing : goal.decreases-writing
decreases-writing g l = l.left
