use Rattle.std.proofs.Common.{List, ℕ, Bor, inr, refl}
use Rattle.dump_runs.specs.Batch.{state_of, sum_in}
use Rattle.dump_runs.specs.Sums.{differs_by}
use Rattle.dump_runs.proofs.Summing.{halts_behind, halts_next, if_any, if_errs, if_oks, runs_front, runs_next, runs_whole}
use Rattle.dump_runs.proofs.batch.run_each.Goals as goal

pub loop-name-preserved : goal.loop-name-preserved
loop-name-preserved g c =
    let first = state_of c.args.writers.now c.args.totals.now in
    let between = state_of c.loop-name.writers c.loop-name.totals in
    let last = state_of c.run_one.new.writers c.run_one.new.totals in
    runs_next c.args.reading (g.I.Inputs.bytes_of c.args.inputs.now) (λ (name : Bor (List ℕ)). name.now) c.args.names.now c.loop-name.name-index _ first between last
    c.loop-name-test.true c.loop-name.invariant c.in_ok-run_one.ensures.comes

pub returns-clause-runs : goal.returns-clause-runs
returns-clause-runs g c =
    let asked = c.args.reading in
    let first = state_of c.args.writers.now c.args.totals.now in
    let last = state_of c.loop-name.writers c.loop-name.totals in
    if_oks c.finish.result _ _ _ (λ done (out, alone, report) differs. (
      last,
      record {
        runs = runs_whole asked (g.I.Inputs.bytes_of c.args.inputs.now) (λ (name : Bor (List ℕ)). name.now) c.args.names.now c.loop-name.name-index first last
            c.loop-name-test.false c.loop-name.invariant;
        out = out;
        alone = alone;
        report = report;
      },
      refl,
      refl,
      differs,
    )) c.finish.ensures.written c.finish.ensures.differs

pub returns-in_err-run_one-clause-fails : goal.returns-in_err-run_one-clause-fails
returns-in_err-run_one-clause-fails g c =
    let asked = c.args.reading in
    let bytes_of = g.I.Inputs.bytes_of c.args.inputs.now in
    let f = λ (name : Bor (List ℕ)). name.now in
    let w = c.run_one.new.writers in
    let d = c.args.differs.now in
    let first = state_of c.args.writers.now c.args.totals.now in
    let last = state_of c.loop-name.writers c.loop-name.totals in
    if_any c.from_residual.result _ (λ failure. (
      d,
      runs_front asked bytes_of f c.args.names.now c.loop-name.name-index first last w c.run_one.new.totals.counts d c.loop-name.invariant
          (halts_next asked bytes_of f c.args.names.now c.loop-name.name-index _ last w c.run_one.new.totals.counts d c.loop-name-test.true
          (c.in_err-run_one.ensures.halts, c.requires)),
      inr refl,
    ))

pub returns-clause-fails : goal.returns-clause-fails
returns-clause-fails g c =
    let asked = c.args.reading in
    let bytes_of = g.I.Inputs.bytes_of c.args.inputs.now in
    let f = λ (name : Bor (List ℕ)). name.now in
    let w = c.finish.new.writers in
    let first = state_of c.args.writers.now c.args.totals.now in
    let last = state_of c.loop-name.writers c.loop-name.totals in
    if_errs c.finish.result _ _ _ (λ failure front known. (
      differs_by asked (sum_in last),
      runs_front asked bytes_of f c.args.names.now c.loop-name.name-index first last w c.loop-name.totals.counts (differs_by asked (sum_in last)) c.loop-name.invariant
          (halts_behind asked bytes_of f c.args.names.now c.loop-name.name-index last w c.loop-name-test.false front),
      known,
    )) c.finish.ensures.front c.finish.ensures.known
