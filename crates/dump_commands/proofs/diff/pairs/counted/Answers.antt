use Rattle.dump_commands.specs.diff.Pairs.{no_differences}
use Rattle.dump_commands.proofs.Pairing.{counted_more}
use Rattle.dump_commands.proofs.diff.pairs.counted.Goals as goal

pub loop-one-preserved : goal.loop-one-preserved
loop-one-preserved c =
    counted_more (no_differences c.args.same) c.args.told.now c.loop-one.one-index _ c.loop-one.differences c.in_ok-differences.differences c.with.result
    c.loop-one-test.true c.loop-one.invariant c.in_ok-differences.ensures.same c.with.ensures
