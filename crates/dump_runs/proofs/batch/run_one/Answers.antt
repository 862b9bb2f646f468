use Rattle.std.proofs.Common.{inl, inr, refl, subst}
use Rattle.std.specs.Io.KnownBytes.{Appends}
use Rattle.dump_io.specs.lines.Fronts.{AppendsFront}
use Rattle.dump_runs.specs.Sums.{line_of_input}
use Rattle.dump_runs.specs.Plays.{Written, held}
use Rattle.dump_io.proofs.Face.{on_err, on_ok}
use Rattle.dump_runs.proofs.Plays.{written}
use Rattle.dump_runs.proofs.batch.run_one.Goals as goal

pub returns-clause-comes : goal.returns-clause-comes
returns-clause-comes g c =
    let name = c.args.name.now in
    let t = c.args.totals.now in
    let t' = c.count_one.new.totals in
    let mid = c.count_one.new.writers in
    let is = c.in_ok-count_one.ensures.counted in
    let w' = g.W.Write.contents c.writers.inside.report.inner in
    let w'' = g.W.Write.contents c.put_counts.new.report.inner in
    let line = line_of_input c.args.reading name t'.tally.counts in
    let last : Written = written (g.D.Write.contents c.writers.inside.out.inner) (g.A.Write.contents c.writers.inside.alone.inner) w'' in
    on_ok c.put_counts.result (Appends w' w'' line) _
    (λ told. record {
      came = held mid t'.tally;
      could = is.could;
      is = is.is;
      out = λ i. (c.writers.view_is i).out;
      alone = λ i. (c.writers.view_is i).alone;
      told = subst (λ (w : Written). Appends w.report w'' line) c.writers.view_is told;
      kept = refl;
      is_counted = is.is_counted;
      cut = is.cut;
    }) c.put_counts.ensures.written

pub returns-clause-halts : goal.returns-clause-halts
returns-clause-halts g c =
    let name = c.args.name.now in
    let t' = c.count_one.new.totals in
    let mid = c.count_one.new.writers in
    let is = c.in_ok-count_one.ensures.counted in
    let w' = g.W.Write.contents c.writers.inside.report.inner in
    let w'' = g.W.Write.contents c.put_counts.new.report.inner in
    let line = line_of_input c.args.reading name t'.tally.counts in
    on_err c.put_counts.result (AppendsFront w' w'' line) _
    (λ front. inr (record {
      came = held mid t'.tally;
      could = is.could;
      is = is.is;
      out = λ i. (c.writers.view_is i).out;
      alone = λ i. (c.writers.view_is i).alone;
      report = subst (λ (w : Written). AppendsFront w.report w'' line) c.writers.view_is front;
      is_counted = inl is.is_counted;
    })) c.put_counts.ensures.front
