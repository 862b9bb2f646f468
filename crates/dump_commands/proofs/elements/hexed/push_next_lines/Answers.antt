use Rattle.std.proofs.Common.{◌≡◌, ◌<◌, ◌-◌, ℕ, List, arith, length, rules, length-drop, subst, sym}
use Rattle.dump_commands.proofs.elements.Lines.{next_put}
use Rattle.dump_commands.proofs.elements.hexed.push_next_lines.Goals as goal

pub lines-preserved : goal.lines-preserved
lines-preserved c =
    let rest = c.lines.rest.now in
    let more : 0 < length rest = search rules in
    let left : 0 < c.lines.left = omega arith in
    let behind = c.split_at_most.result.1.now in
    let len : length behind ≡ length rest - 16 = subst (λ (x : List ℕ). length x ≡ length rest - 16) (sym c.split_at_most.ensures.others) (length-drop 16 rest) in (
      next_put c.lines.text.items c.push_next_line.new.text.items c.split_at_most.result.0.now rest behind _ c.lines.left c.lines.at c.lines.invariant.0 (left, more)
          (c.split_at_most.ensures.first, c.split_at_most.ensures.others) c.in_ok-push_next_line.ensures,
      omega (arith, c.lines.invariant.2 more, more),
      λ h. omega (arith, c.lines.invariant.2 more, more, h, len),
    )
