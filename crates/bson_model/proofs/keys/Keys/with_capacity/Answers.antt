use Rattle.bson_model.proofs.Places.{none_distinct}
use Rattle.bson_model.proofs.keys.Keys.with_capacity.Goals as goal

pub invariant_of-result : goal.invariant_of-result
invariant_of-result c = none_distinct c.in_ok-texts.texts.items c.in_ok-texts.ensures.items
