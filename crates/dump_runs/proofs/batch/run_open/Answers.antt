use Rattle.std.proofs.Common.{IfOk, OnErr, inl, inr, subst, sym}
use Rattle.dump_commands.specs.declared.counts.Counts.{Counts}
use Rattle.dump_io.proofs.Face.{on_any}
use Rattle.dump_runs.specs.Asked.{asked_after}
use Rattle.dump_runs.specs.Batch.{EndsInput, HaltsInput, next_of, state_of}
use Rattle.dump_runs.specs.Plays.{held}
use Rattle.dump_runs.specs.declared.reading.Reading.{Reading}
use Rattle.dump_runs.specs.declared.writers.Tally.{Tally}
use Rattle.dump_runs.proofs.Summing.{halts_run, if_oks}
use Rattle.dump_runs.proofs.batch.run_open.Goals as goal

pub returns-in_err-add-clause-halts : goal.returns-in_err-add-clause-halts
returns-in_err-add-clause-halts g c =
    let asked = c.args.reading in
    let name = c.args.name.now in
    let input = g.R.Read.remaining c.args.reader in
    let old = c.args.writers.now in
    let t = c.args.totals.now in
    let w = c.run_over-ran.new.writers in
    let came = held w c.run_over-ran.new.tally in
    let start = λ (n : Counts). held old (record t.tally { counts = n }) in
    let ends = λ (r : Reading) (n : Counts). IfOk c.run_over-ran.result (EndsInput r name input (start n) came) in
    let ended = subst (ends (asked_after asked t.counts)) c.new-totals.ensures (subst (λ (r : Reading). ends r c.new-totals.result) c.after-reading.ensures c.run_over-ran.ensures.ends) in
    let halts = λ (r : Reading) (n : Counts). OnErr c.run_over-ran.result (HaltsInput r name input (start n) came) in
    let halted = subst (halts (asked_after asked t.counts)) c.new-totals.ensures (subst (λ (r : Reading). halts r c.new-totals.result) c.after-reading.ensures c.run_over-ran.ensures.halts) in
    on_any _ _ (halts_run asked name input (state_of old t) w c.run_over-ran.new.tally c.add.new.self.counts c.run_over-ran.result ended halted (inr c.in_err-add.ensures.uncounted))

pub returns-clause-halts : goal.returns-clause-halts
returns-clause-halts g c =
    let asked = c.args.reading in
    let name = c.args.name.now in
    let input = g.R.Read.remaining c.args.reader in
    let old = c.args.writers.now in
    let t = c.args.totals.now in
    let w = c.run_over-ran.new.writers in
    let came = held w c.run_over-ran.new.tally in
    let start = λ (n : Counts). held old (record t.tally { counts = n }) in
    let ends = λ (r : Reading) (n : Counts). IfOk c.run_over-ran.result (EndsInput r name input (start n) came) in
    let ended = subst (ends (asked_after asked t.counts)) c.new-totals.ensures (subst (λ (r : Reading). ends r c.new-totals.result) c.after-reading.ensures c.run_over-ran.ensures.ends) in
    let halts = λ (r : Reading) (n : Counts). OnErr c.run_over-ran.result (HaltsInput r name input (start n) came) in
    let halted = subst (halts (asked_after asked t.counts)) c.new-totals.ensures (subst (λ (r : Reading). halts r c.new-totals.result) c.after-reading.ensures c.run_over-ran.ensures.halts) in
    on_any _ _ (halts_run asked name input (state_of old t) w c.run_over-ran.new.tally c.add.new.self.counts c.run_over-ran.result ended halted (inl c.in_ok-add.ensures.counted))

pub returns-clause-counted : goal.returns-clause-counted
returns-clause-counted g c =
    let asked = c.args.reading in
    let name = c.args.name.now in
    let input = g.R.Read.remaining c.args.reader in
    let old = c.args.writers.now in
    let t = c.args.totals.now in
    let w = c.run_over-ran.new.writers in
    let came = held w c.run_over-ran.new.tally in
    let before = state_of old t in
    let start = λ (n : Counts). held old (record t.tally { counts = n }) in
    let ends = λ (r : Reading) (n : Counts). IfOk c.run_over-ran.result (EndsInput r name input (start n) came) in
    let ended = subst (ends (asked_after asked t.counts)) c.new-totals.ensures (subst (λ (r : Reading). ends r c.new-totals.result) c.after-reading.ensures c.run_over-ran.ensures.ends) in
    let same = c.add.ensures.tally in
    if_oks c.run_over-ran.result _ _ _ (λ over e read. record {
      ends = subst (λ (x : Tally). EndsInput (asked_after asked t.counts) name input (next_of before) (held w x) over) (sym same) e;
      is_counted = rw same c.in_ok-add.ensures.counted;
      cut = rw (← read) c.add.ensures.cut;
    }) ended c.could_go_on.ensures
