use Rattle.std.proofs.Common.{◌≡◌}
use Rattle.bson_to_json.proofs.Puts.{IsAhead}
use Rattle.bson_to_json.proofs.guarded.Guarded.put_all.Given as goal

-- a prefix is written, the rest is left, and no write failed
abbrev pub invariant-calls : goal.invariant-calls
invariant-calls g l = IsAhead (g.W.Write.contents l.fn.self.inner) (g.W.Write.contents l.self.inner) l.fn.bytes l.rest × (l.self.failed ≡ l.fn.self.failed)
