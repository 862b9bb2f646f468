use Rattle.std.proofs.Common.{◌∙◌}
use Rattle.raw_bson.proofs.Face.{HasFolded-none, HasFolded-more, HasFolded-error, HasFolded-fault, HasFolded-end}
use Rattle.bson_uses.proofs.user.fields_of.Goals as goal

pub loop-item-init : goal.loop-item-init
loop-item-init c = HasFolded-none (c.into_iter-item-iterator.ensures.into_iter_gives ∙ c.iter-item-items.ensures.begins)

pub loop-item-preserved : goal.loop-item-preserved
loop-item-preserved c = HasFolded-more c.loop-item.invariant c.in-Some.ensures.steps c.in_ok-key.was c.with_item.ensures c.in_ok-fields.was

pub returns-in_err-key : goal.returns-in_err-key
returns-in_err-key c = HasFolded-fault c.next.new.self _ c.loop-item.invariant c.in-Some.ensures.steps c.in_err-key.was c.iter-item-items.ensures.one_list.1.0 c.from_residual.ensures.1

pub returns-in_err-fields : goal.returns-in_err-fields
returns-in_err-fields c = HasFolded-error c.next.new.self _ c.loop-item.invariant c.in-Some.ensures.steps c.in_ok-key.was
    c.iter-item-items.ensures.one_list.1.0 c.with_item.ensures c.in_err-fields.was c.from_residual-in_err-fields.ensures.1

pub returns : goal.returns
returns c = HasFolded-end c.next.new.self c.loop-item.invariant c.in-None.ensures.steps
