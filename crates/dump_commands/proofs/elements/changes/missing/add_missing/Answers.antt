use Rattle.dump_commands.proofs.elements.Lacking.{next_leaf}
use Rattle.dump_commands.proofs.elements.changes.missing.add_missing.Goals as goal

pub loop-leaf-preserved : goal.loop-leaf-preserved
loop-leaf-preserved c = record {
  left = next_leaf c.args.others.now c.args.leaves.now c.loop-leaf.leaf-index _ _ c.loop-leaf.paths.items _ c.loop-leaf-test.true c.loop-leaf.invariant.left c.in_ok-add_unless.ensures.added;
  known = c.in_ok-add_unless.ensures.known;
}
