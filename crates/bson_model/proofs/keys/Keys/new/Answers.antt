use Rattle.bson_model.proofs.Places.{none_distinct}
use Rattle.bson_model.proofs.keys.Keys.new.Goals as goal

pub invariant_of-result : goal.invariant_of-result
invariant_of-result c = none_distinct c.new.result.items c.new.ensures.items
