use Rattle.std.proofs.Common.{rules, ℕ, length, take, ◌-◌, ◌∙◌, sym, subst}
use Rattle.std.proofs.lemmas.Slice.{take-put_mid_below}
use Rattle.std.specs.Io.KnownBytes.{Consumes}
use borrow.Rule.Slice.PartMut.{put_mid}
use Rattle.dump_io.proofs.input.Filling.{filled_more, filled_same}
use Rattle.dump_io.proofs.input.window.fill.Goals as goal
use Rattle.dump_io.proofs.input.window.fill.Goals.{in-Ok, in-Err+else-ne}

pub loop-preserved : goal.loop-preserved
loop-preserved g c =
    let room = length c.loop.buffer - c.loop.len in
    let before = c.loop.invariant in
    let filled = put_mid c.loop.len room c.loop.buffer c.read.new.buf in
    elim c.match-read.branch [
      | in-Ok w ↦ record {
        len = search rules;
        behind = search rules;
        within = search rules;
        kept = take-put_mid_below _ _ _ _ _ before.behind before.within ∙ before.kept;
        is_read = λ x h. subst (λ (n : ℕ). Consumes x (g.R.Read.remaining c.read.new.self) (take n filled)) (sym w.len-is)
            (filled_more x _ _ c.loop.buffer c.read.new.buf c.loop.len room w.in-Ok.count before.within (search rules)
            (before.is_read x h) w.in-Ok.ensures.bytes.0);
      }
      | in-Err+else-ne w ↦ record {
        len = search rules;
        behind = search rules;
        within = search rules;
        kept = take-put_mid_below _ _ _ _ _ before.behind before.within ∙ before.kept;
        is_read = λ x h. subst (λ (n : ℕ). Consumes x (g.R.Read.remaining c.read.new.self) (take n filled)) (sym w.len-is)
            (filled_same x _ _ c.loop.buffer c.read.new.buf c.loop.len room before.within (before.is_read x h) w.in-Err.ensures.bytes);
      }
    ]
