use Rattle.std.proofs.Common.{Some, ap, false, inl, inr, refl, subst, sym, ◌∙◌}
use Rattle.dump_commands.specs.Counting.{count_left, plus}
use Rattle.dump_commands.specs.declared.counts.Counts.{Counts}
use Rattle.dump_runs.specs.Asked.{asked_after}
use Rattle.dump_runs.specs.Batch.{CountsInput, EndsInput, HaltsWithin, next_of, state_of}
use Rattle.dump_runs.specs.Plays.{held}
use Rattle.dump_runs.specs.Status.{goes_on}
use Rattle.dump_runs.specs.declared.writers.Tally.{Tally}
use Rattle.dump_io.proofs.Face.{on_err, on_ok}
use Rattle.dump_runs.proofs.Summing.{halts_unread}
use Rattle.dump_runs.proofs.batch.count_one.Goals as goal

pub returns-in_ok-ended-in-Ok-clause-counted : goal.returns-in_ok-ended-in-Ok-clause-counted
returns-in_ok-ended-in-Ok-clause-counted g c =
    let before = state_of c.args.writers.now c.args.totals.now in
    let is = c.in_ok-ended-in-Ok.ensures.counted in
    let ended = c.in_ok-ended-in-Ok.ended in
    let w = c.run_open.new.writers in
    let t = c.run_open.new.totals in
    record {
      could = goes_on ended;
      is = inl (record {
        ended = ended;
        ends = subst (λ x. EndsInput (asked_after c.args.reading before.counts) c.args.name.now x (next_of before) (held w t.tally) ended) c.in-Ok.ensures.bytes is.ends;
        cut = refl;
      });
      is_counted = is.is_counted;
      cut = is.cut;
    }

pub returns-in_ok-totals-in-Err-clause-counted : goal.returns-in_ok-totals-in-Err-clause-counted
returns-in_ok-totals-in-Err-clause-counted g c =
    let name = c.args.name.now in
    let w = c.args.writers.now in
    let t = c.args.totals.now in
    let before = state_of w t in
    let same = c.add.ensures.tally in
    let told = rw c.in_ok-totals-in-Err.ensures.same at c.with_left.ensures.counted in
    let counts = told ∙ ap (λ (n : Counts). count_left n 0) c.new.ensures in
    on_ok c.add.result _ (CountsInput c.args.reading name (g.I.Inputs.bytes_of c.args.inputs.now name) before w c.add.new.self)
    (λ counted. record {
      could = Some false;
      is = inr (record {
        unknown = c.in-Err.ensures.known;
        is = ap (λ (x : Tally). held w x) same ∙ ap (λ (n : Counts). held w (record t.tally { counts = n })) counts;
        cut = refl;
      });
      is_counted = counted ∙ ap (λ (x : Tally). plus t.counts x.counts) (sym same);
      cut = c.add.ensures.cut;
    }) c.add.ensures.counted

pub returns-in_ok-totals-in-Err-clause-halts : goal.returns-in_ok-totals-in-Err-clause-halts
returns-in_ok-totals-in-Err-clause-halts g c =
    let name = c.args.name.now in
    let w = c.args.writers.now in
    let before = state_of w c.args.totals.now in
    let input = g.I.Inputs.bytes_of c.args.inputs.now name in
    on_err c.add.result _ (HaltsWithin c.args.reading name input before w c.add.new.self.counts)
    (λ (range, same). halts_unread c.args.reading name input before w c.add.new.self.counts refl refl refl same) c.add.ensures.uncounted
