use Rattle.std.proofs.Common.{◌≡◌, ◌++◌, List, length}
use Rattle.bson_model.specs.declared.bson.Bson.{Bson}
use Rattle.bson_model.proofs.drops.next_of.Given as goal

-- the values that are left are the front of the values at the start
abbrev pub invariant-loop-value : goal.invariant-loop-value
invariant-loop-value l = (rest : List Bson) × l.initial.held.items ≡ l.held.items ++ rest

abbrev pub decreases-loop-value : goal.decreases-loop-value
decreases-loop-value l = length l.held.items
