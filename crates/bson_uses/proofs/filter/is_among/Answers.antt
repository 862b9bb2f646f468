use Rattle.raw_bson.proofs.Face.{view_differs, view_same, HasSought-more, HasSought-found, HasSought-fault, HasSought-end}
use Rattle.bson_uses.proofs.filter.is_among.Goals as goal

pub loop-item-preserved : goal.loop-item-preserved
loop-item-preserved c = HasSought-more c.loop-item.invariant c.in-Some.ensures.steps c.in_ok-element.was (λ key. view_differs c.in_ok-element.element c.args.value c.eq.ensures c.if-eq.false)

pub returns-then-eq : goal.returns-then-eq
returns-then-eq c = HasSought-found c.next.new.self c.loop-item.invariant c.in-Some.ensures.steps c.in_ok-element.was c.iter-item-items.ensures.one_list.1.0
    (λ key. view_same c.in_ok-element.element c.args.value c.eq.ensures c.if-eq.true)

pub returns-in_err-element : goal.returns-in_err-element
returns-in_err-element c = HasSought-fault c.next.new.self _ c.loop-item.invariant c.in-Some.ensures.steps c.in_err-element.was c.iter-item-items.ensures.one_list.1.0 c.from_residual.ensures.1

pub returns : goal.returns
returns c = HasSought-end c.next.new.self c.loop-item.invariant c.in-None.ensures.steps
