use Rattle.std.proofs.Common.{◌++◌, [], ap, sym, ◌∙◌}
use Rattle.std.specs.Option.{option_to_list}
use Rattle.std.proofs.lemmas.List.{append-nil}
use Rattle.bson_model.proofs.LeftTrees.{front-popped}
use Rattle.bson_model.proofs.drops.next_of.Goals as goal

pub loop-value-init : goal.loop-value-init
loop-value-init c = ([], sym (append-nil c.args.held.now.items))

pub loop-value-preserved : goal.loop-value-preserved
loop-value-preserved c = front-popped c.loop-value.held.items _ _ c.in-Some.value (c.pop.ensures.items ∙ ap (λ r. c.pop.new.self.items ++ option_to_list r) c.in-Some.is) c.loop-value.invariant
