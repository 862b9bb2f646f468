use Rattle.raw_bson.proofs.Face.{HasTried-more, HasTried-error, HasTried-fault, HasTried-end}
use Rattle.bson_uses.proofs.filter.matches.Goals as goal

pub loop-item-preserved : goal.loop-item-preserved
loop-item-preserved c = HasTried-more c.loop-item.invariant c.in-Some.ensures.steps c.in_ok-key.was c.has.ensures c.in_ok-has.was

pub returns-in_err-key : goal.returns-in_err-key
returns-in_err-key c = HasTried-fault c.next.new.self _ c.loop-item.invariant c.in-Some.ensures.steps c.in_err-key.was c.iter-item-items.ensures.one_list.1.0 c.from_residual.ensures.1

pub returns-in_err-has : goal.returns-in_err-has
returns-in_err-has c = HasTried-error c.next.new.self _ c.loop-item.invariant c.in-Some.ensures.steps c.in_ok-key.was c.iter-item-items.ensures.one_list.1.0
    c.has.ensures c.in_err-has.was c.from_residual-in_err-has.ensures.1

pub returns : goal.returns
returns c = HasTried-end c.next.new.self c.loop-item.invariant c.in-None.ensures.steps
