use Rattle.std.proofs.Common.{◌≡◌, ◌≤◌, ◌++◌, length}
use Rattle.indexmap.specs.IndexSet.{spare}
use Rattle.bson_model.proofs.keys.hashed.Given as goal

abbrev pub invariant-loop-text : goal.invariant-loop-text
invariant-loop-text l = (l.set.keys ++ l.text-iterator.rest.items ≡ l.fn.texts.items) × (length l.text-iterator.rest.items ≤ spare l.set)
