use Rattle.bson_model.specs.Keys.{has_bytes}
use Rattle.bson_model.proofs.Places.{NoneBefore}
use Rattle.bson_model.proofs.keys.index_among.Given as goal

abbrev pub invariant-loop-index : goal.invariant-loop-index
invariant-loop-index l = NoneBefore (has_bytes l.key) l.texts l.index
