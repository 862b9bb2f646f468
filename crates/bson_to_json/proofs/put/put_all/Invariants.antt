use Rattle.bson_to_json.proofs.Puts.{IsAhead}
use Rattle.bson_to_json.proofs.put.put_all.Given as goal

-- a prefix is written, and the rest is left
abbrev pub invariant-calls : goal.invariant-calls
invariant-calls g l = IsAhead (g.W.Write.contents l.fn.out) (g.W.Write.contents l.out) l.fn.bytes l.rest
