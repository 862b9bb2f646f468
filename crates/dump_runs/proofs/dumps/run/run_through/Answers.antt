use Rattle.std.proofs.Common.{ap, inl, inr, ◌∙◌}
use Rattle.dump_commands.specs.Counting.{count_left}
use Rattle.dump_io.proofs.Face.{if_ok, on_any, on_err}
use Rattle.dump_runs.proofs.dumps.Ending.{ends_early, ends_failed, ends_left, ends_run, halts_here, halts_left}
use Rattle.dump_runs.proofs.dumps.run.run_through.Goals as goal

pub returns-in-Left-clause-ends : goal.returns-in-Left-clause-ends
returns-in-Left-clause-ends g c =
    let q = rw c.in-Left.is at c.in_ok-pass_all.ensures.passed in
    if_ok c.leave.result _ _ (λ failed l. ends_left q l) c.leave.ensures.left

pub returns-in-Left-clause-halts : goal.returns-in-Left-clause-halts
returns-in-Left-clause-halts g c =
    let q = rw c.in-Left.is at c.in_ok-pass_all.ensures.passed in
    on_err c.leave.result _ _ (λ l. halts_left q l) c.leave.ensures.halts

pub returns-in-End-clause-ends : goal.returns-in-End-clause-ends
returns-in-End-clause-ends g c = elim c.in-End.is [
  | inl is ↦ ends_run (rw is at c.in_ok-pass_all.ensures.passed)
  | inr is ↦ ends_early (rw is at c.in_ok-pass_all.ensures.passed)
]

pub returns-then-not-has_failed-clause-halts : goal.returns-then-not-has_failed-clause-halts
returns-then-not-has_failed-clause-halts g c =
    let q = c.in_ok-pass_all.ensures.passed in
    halts_here q.passed q.front q.chosen

pub returns-in_err-at-in-Failed-clause-halts : goal.returns-in_err-at-in-Failed-clause-halts
returns-in_err-at-in-Failed-clause-halts g c =
    let q = c.in_ok-pass_all.ensures.passed in
    on_any _ _ (halts_here q.passed q.front q.chosen)

pub returns-in_err-tally-in-Failed-clause-halts : goal.returns-in_err-tally-in-Failed-clause-halts
returns-in_err-tally-in-Failed-clause-halts g c =
    let q = c.in_ok-pass_all.ensures.passed in
    on_any _ _ (halts_here q.passed q.front q.chosen)

pub returns-in_ok-tally-in-Failed-clause-ends : goal.returns-in_ok-tally-in-Failed-clause-ends
returns-in_ok-tally-in-Failed-clause-ends g c =
    let q = rw c.in-Failed.is at c.in_ok-pass_all.ensures.passed in
    let told = rw c.in_ok-tally-in-Failed.ensures.same at c.with_left.ensures.counted in
    ends_failed c.in-Failed.from c.in-Failed.error _ _ q c.in_ok-at-in-Failed.ensures.end
    (told ∙ ap (count_left c.pass_all.new.tally.counts) c.saturating_sub.ensures)
