use Rattle.std.proofs.Common.{ap, arith, length}
use Rattle.bson_model.specs.Tree.{tree_of}
use Rattle.bson_model.proofs.LeftTrees.{less-next, less-cut}
use Rattle.bson_model.proofs.drops.drop_values.Goals as goal

pub loop-next-init : goal.loop-next-init
loop-next-init c = λ e. rw e at c.next_of-next.ensures.none

pub loop-next-smaller-in-Some-into_values : goal.loop-next-smaller-in-Some-into_values
loop-next-smaller-in-Some-into_values c =
    rw c.in-Some.is (less-next _ _ c.loop-next.held.items c.in-Some.value (c.enter.ensures.less (tree_of c.in-Some.value) c.in-Some-into_values.ensures))

pub loop-next-preserved-in-Some-into_values : goal.loop-next-preserved-in-Some-into_values
loop-next-preserved-in-Some-into_values c = λ e. rw e at c.enter.ensures.none

pub loop-next-smaller : goal.loop-next-smaller
loop-next-smaller c =
    rw c.in-Some.is (less-next _ _ c.loop-next.held.items c.in-Some.value (less-cut _ _ c.loop-next.held.items c.next_of.ensures.cut (tree_of c.in-Some.value)))

pub loop-next-preserved : goal.loop-next-preserved
loop-next-preserved c = λ e. rw e at c.next_of.ensures.none

pub destroy_empty-requires : goal.destroy_empty-requires
destroy_empty-requires c = omega (arith, c.loop-next.held.ok.0, ap (λ l. length l) (c.loop-next.invariant c.in_default.is))
