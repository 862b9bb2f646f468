use Rattle.key_set.specs.KeyFilter.{IsInFilter, filter_bit}
use Rattle.key_set.proofs.References.{each_next, texts_all}
use Rattle.key_set.proofs.filter.filter_of.Goals as goal

pub loop-key-preserved : goal.loop-key-preserved
loop-key-preserved c = each_next (λ k. IsInFilter c.loop-key.filter (filter_bit k))
    (λ k. IsInFilter c.with_bit-filter.result (filter_bit k)) c.args.keys.now c.loop-key.key-index _ c.loop-key-test.true
    c.loop-key.invariant (λ k. c.with_bit-filter.ensures.kept (filter_bit k)) (rw c.filter_bit.ensures.bit at c.with_bit-filter.ensures.filtered)

pub returns : goal.returns
returns c = rw (texts_all c.args.keys.now c.loop-key.key-index c.loop-key-test.false) at c.loop-key.invariant
