use Rattle.std.proofs.Common.{◌≡◌, [], None}
use Rattle.bson_model.specs.LeftTrees.{left, load}
use Rattle.bson_model.proofs.drops.drop_values.Given as goal

abbrev pub invariant-loop-next : goal.invariant-loop-next
invariant-loop-next l = l.next ≡ None → l.held.items ≡ []

abbrev pub decreases-loop-next : goal.decreases-loop-next
decreases-loop-next l = load (left l.held.items l.next)
