use Rattle.std.proofs.Common.{arith, ◌∙◌}
use Rattle.key_set.proofs.KeySets.{each_inserted}
use Rattle.key_set.proofs.References.{texts_all}
use Rattle.key_set.proofs.key_set.indexed.Goals as goal

pub loop-key-preserved : goal.loop-key-preserved
loop-key-preserved c = each_inserted c.args.keys.now c.loop-key.key-index _ _ c.in_ok-insert.field-0 c.loop-key-test.true c.requires
    (rw c.loop-key.invariant at c.in_ok-insert.ensures.inserts)

pub returns-in-Ok : goal.returns-in-Ok
returns-in-Ok c =
    record { keys = c.in-Ok.ensures.ok ∙ (c.loop-key.invariant ∙ texts_all c.args.keys.now c.loop-key.key-index (omega (arith, c.loop-key-test.false))) }
