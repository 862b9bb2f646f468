use Rattle.std.proofs.Common.{◌++◌, ◌∙◌, List, Vec, [], ap, cond, nat_lt, ℕ}
use Rattle.std.specs.declared.alloc.Global.{Global}
use Rattle.dump_commands.proofs.elements.Joining.{joined_more}
use Rattle.dump_commands.proofs.elements.changes.shown.separated.Goals as goal

pub loop-place-preserved : goal.loop-place-preserved
loop-place-preserved c =
    let i = c.loop-place.place in
    let separator = c.args.separator.now in
    let old = c.loop-place.whole.items in
    joined_more separator c.args.texts.now i c.index-texts-place.result old c.push_after.new.whole.items c.loop-place-test.true c.loop-place.invariant
    (c.in_ok-push_after.ensures ∙ ap (λ (t : List ℕ). old ++ (cond (nat_lt 0 i) separator [] ++ t)) (c.deref.ensures.value ∙ ap (λ (t : Vec ℕ Global). t.items) c.index-texts-place.is))
