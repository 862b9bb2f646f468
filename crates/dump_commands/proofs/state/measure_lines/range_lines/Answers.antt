use Rattle.std.proofs.Common.{arith}
use Rattle.std.proofs.lemmas.Grind.{common_steps}
use Rattle.dump_commands.proofs.Rowing.{ranges_end, ranges_next}
use Rattle.dump_commands.proofs.state.measure_lines.range_lines.Goals as goal

pub loop-number-preserved : goal.loop-number-preserved
loop-number-preserved c =
    let l = c.loop-number in (
      grind (arith, common_steps, l.invariant.0),
      ranges_next c.args.style l.text.items c.push_range.new.text.items _ c.args.ranges.now l.least l.number 0 (grind (arith, common_steps)) l.invariant.1 c.in_ok-push_range.ensures,
    )

pub returns : goal.returns
returns c = ranges_end c.args.style c.loop-number.text.items _ c.args.ranges.now c.loop-number.least c.loop-number.number (grind (arith, common_steps)) c.loop-number.invariant.1
