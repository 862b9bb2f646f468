use Rattle.std.proofs.Common.{◌∙◌, map, refl, take}
use Rattle.dump_commands.specs.diff.Numbering.{sides_at}
use Rattle.dump_commands.proofs.Pairing.{next_counts, next_numbered}
use Rattle.dump_commands.proofs.diff.pairs.numbered.Goals as goal

pub loop-side-preserved : goal.loop-side-preserved
loop-side-preserved c =
    let sides = c.args.sides.now in
    let i = c.loop-side.side-index in
    let taken = sides_at (take i sides) in
    let (counts, all) = c.loop-side.invariant in (
      next_counts sides i _ c.loop-side-test.true c.add_one.new.counts (c.in_ok-number.ensures.counted taken _ refl counts),
      next_numbered sides i _ c.loop-side-test.true c.put_side.new.all (c.in_ok-put_side.ensures taken (c.in_ok-number.ensures.before ∙ counts _) all),
    )
