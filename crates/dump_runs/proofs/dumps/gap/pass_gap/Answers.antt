use Rattle.std.proofs.Common.{refl, subst}
use Rattle.dump_io.proofs.Face.{front_whole, on_any}
use Rattle.dump_runs.specs.Plays.{Played, Written, held}
use Rattle.dump_runs.specs.Limits.{style_at}
use Rattle.dump_runs.specs.dumps.Run.{events_of_gap}
use Rattle.dump_runs.specs.dumps.Steps.{HaltsGap, place_of}
use Rattle.dump_runs.proofs.dumps.Lines.{gap_line, gap_played, line_front, line_none}
use Rattle.dump_runs.proofs.Plays.{written}
use Rattle.dump_runs.proofs.dumps.gap.pass_gap.Goals as goal

pub returns-clause-passed : goal.returns-clause-passed
returns-clause-passed g c =
    let job = c.args.job in
    let x = c.args.source.now in
    let t = c.args.tally.now in
    let skip = c.in_ok-skip.skip in
    let new =
    held (written (g.D.Write.contents c.writers.inside.out.inner) (g.A.Write.contents c.writers.inside.alone.inner) (g.W.Write.contents c.put_ending.new.report.inner))
    (record t { counts = c.in_ok-tally.field-0 }) in
    record {
      skip = skip;
      named = c.pass_over.ensures.same;
      broken = c.in_ok-skip.ensures.broken;
      skips = c.in_ok-skip.ensures.skips;
      played = subst (λ (v : Written). Played (events_of_gap (style_at job.style job.limit t.counts) (place_of x) c.args.ending skip) (held v t) new) c.writers.view_is
          (gap_played c.args.ending c.style_at-style.ensures c.at-at.ensures skip c.in_ok-put_ending.ensures.written (rw c.in_ok-tally.ensures.same at c.with_gap.ensures.counted));
      kept = refl;
    }

pub returns-in_err-skip-clause-halts : goal.returns-in_err-skip-clause-halts
returns-in_err-skip-clause-halts g c = on_any _ _ (line_none _ refl)

pub returns-in_err-put_ending-clause-halts : goal.returns-in_err-put_ending-clause-halts
returns-in_err-put_ending-clause-halts g c =
    let t = c.args.tally.now in
    let o = g.D.Write.contents c.writers.inside.out.inner in
    let l = g.A.Write.contents c.writers.inside.alone.inner in
    let w = g.W.Write.contents c.writers.inside.report.inner in
    let w' = g.W.Write.contents c.put_ending.new.report.inner in
    on_any _ _ (subst (λ (v : Written). HaltsGap c.args.job c.args.ending c.args.source.now (held v t) (held (written o l w') t)) c.writers.view_is
    (line_front _ o l w w' t.counts t.kept _ (gap_line c.pass_over.new.self c.in_ok-skip.skip c.in_ok-skip.ensures.skips c.style_at-style.ensures c.at-at.ensures) c.in_err-put_ending.ensures.front))

pub returns-in_err-tally-clause-halts : goal.returns-in_err-tally-clause-halts
returns-in_err-tally-clause-halts g c =
    let t = c.args.tally.now in
    let o = g.D.Write.contents c.writers.inside.out.inner in
    let l = g.A.Write.contents c.writers.inside.alone.inner in
    let w = g.W.Write.contents c.writers.inside.report.inner in
    let w' = g.W.Write.contents c.put_ending.new.report.inner in
    on_any _ _ (subst (λ (v : Written). HaltsGap c.args.job c.args.ending c.args.source.now (held v t) (held (written o l w') t)) c.writers.view_is
    (line_front _ o l w w' t.counts t.kept _ (gap_line c.pass_over.new.self c.in_ok-skip.skip c.in_ok-skip.ensures.skips c.style_at-style.ensures c.at-at.ensures)
    (front_whole w w' _ c.in_ok-put_ending.ensures.written)))
