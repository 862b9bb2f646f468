use Rattle.key_set.proofs.KeyOrder.{places_next}
use Rattle.key_set.proofs.indexed_keys.ordered_keys.Goals as goal

pub loop-place-preserved : goal.loop-place-preserved
loop-place-preserved c = places_next c.args.keys.now c.loop-place.place _ c.loop-place-test.true c.loop-place.invariant c.in_ok-place_in_order.ensures.gives c.hash_of.ensures
