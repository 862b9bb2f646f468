use Rattle.raw_bson.proofs.Face.{HasTried-more, HasTried-error, HasTried-fault, HasTried-end}
use Rattle.bson_uses.proofs.filter.are_met.Goals as goal

pub loop-item-preserved : goal.loop-item-preserved
loop-item-preserved c = HasTried-more c.loop-item.invariant c.in-Some.ensures.steps c.in_ok-name.was c.is_met_named.ensures c.in_ok-is_met_named.was

pub returns-in_err-name : goal.returns-in_err-name
returns-in_err-name c = HasTried-fault c.next.new.self _ c.loop-item.invariant c.in-Some.ensures.steps c.in_err-name.was c.iter-item-items.ensures.one_list.1.0 c.from_residual.ensures.1

pub returns-in_err-is_met_named : goal.returns-in_err-is_met_named
returns-in_err-is_met_named c = HasTried-error c.next.new.self _ c.loop-item.invariant c.in-Some.ensures.steps c.in_ok-name.was
    c.iter-item-items.ensures.one_list.1.0 c.is_met_named.ensures c.in_err-is_met_named.was c.from_residual-in_err-is_met_named.ensures.1

pub returns : goal.returns
returns c = HasTried-end c.next.new.self c.loop-item.invariant c.in-None.ensures.steps
