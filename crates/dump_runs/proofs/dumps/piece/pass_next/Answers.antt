use Rattle.std.proofs.Common.{refl, subst, sym, ◌∙◌}
use Rattle.raw_resync.specs.Seeking.{IsWork}
use Rattle.dump_io.proofs.Face.{if_err_reading, if_ok, on_any, on_err}
use Rattle.dump_runs.specs.Plays.{held}
use Rattle.dump_runs.specs.declared.dumps.piece.Step.TheVariants as step
use Rattle.dump_runs.proofs.dumps.Nexting.{IsOver, fails_on, fails_since, goes_since, goes_stays, halts_none, halts_over, halts_since, looked, next_since, over_here, passes_gap}
use Rattle.dump_runs.proofs.dumps.piece.pass_next.Goals as goal

pub returns-in_err-next-clause-halts : goal.returns-in_err-next-clause-halts
returns-in_err-next-clause-halts g c = on_any _ _ (halts_none c.args.job c.args.source.now (held c.args.writers.now c.args.tally.now))

pub returns-in_err-next-clause-fails : goal.returns-in_err-next-clause-fails
returns-in_err-next-clause-fails g c = if_err_reading _ _ (goes_stays c.in_err-next.ensures.fails, c.next.ensures.same.0, refl)

pub pass_document-requires : goal.pass_document-requires
pass_document-requires g c =
    let t = rw c.in-Document.is at c.in_ok-next.ensures.told in
    (t.window, subst IsWork (sym c.next.ensures.same.1) c.requires.1, t.is.0, t.is.1)

pub pass_gap-requires : goal.pass_gap-requires
pass_gap-requires g c =
    let t = rw c.in-End.is at c.in_ok-next.ensures.told in
    let over : IsOver c.args.job c.next.new.self c.next.new.self c.in-End.ending = over_here c.args.source.now c.next.new.self t c.next.ensures.same c.requires.1 c.if-not-job.false in
    (t.window, over.tells.searches.work, over.tells.ahead.0)

pub returns-in-Document-clause-passed : goal.returns-in-Document-clause-passed
returns-in-Document-clause-passed g c =
    let b = looked {w = c.args.source.now} {x = c.next.new.self} c.in_ok-next.ensures.told c.next.ensures.same in
    let y = c.pass_document.new.source in
    let old = held c.args.writers.now c.args.tally.now in
    let new = held c.pass_document.new.writers c.pass_document.new.tally in
    if_ok c.pass_document.result _ _ (λ s passes. next_since c.args.job y old new s b passes) c.pass_document.ensures.passed

pub returns-in-Document-clause-halts : goal.returns-in-Document-clause-halts
returns-in-Document-clause-halts g c =
    let b = looked {w = c.args.source.now} {x = c.next.new.self} c.in_ok-next.ensures.told c.next.ensures.same in
    on_err c.pass_document.result _ _ (halts_since b) c.pass_document.ensures.halts

pub returns-in-Document-clause-fails : goal.returns-in-Document-clause-fails
returns-in-Document-clause-fails g c =
    let b = looked {w = c.args.source.now} {x = c.next.new.self} c.in_ok-next.ensures.told c.next.ensures.same in
    fails_since c.pass_document.result _ _ (λ (goes, named, same). (goes_since b.stays goes, named ∙ b.named, same)) c.pass_document.ensures.fails

pub returns-in-Nothing-clause-passed : goal.returns-in-Nothing-clause-passed
returns-in-Nothing-clause-passed g c =
    let b = looked {w = c.args.source.now} {x = c.next.new.self} c.in_ok-next.ensures.told c.next.ensures.same in
    let t = rw c.in-Nothing.is at c.in_ok-next.ensures.told in
    (record { named = b.named; stays = b.stays; same = refl }, t.is.0, t.is.1)

pub returns-then-not-job-clause-passed : goal.returns-then-not-job-clause-passed
returns-then-not-job-clause-passed g c =
    let b = looked {w = c.args.source.now} {x = c.next.new.self} c.in_ok-next.ensures.told c.next.ensures.same in
    let t = rw c.in-End.is at c.in_ok-next.ensures.told in
    (record { named = b.named; stays = b.stays; same = refl }, t.is.0, t.is.1, c.if-not-job.true)

pub returns-in_ok-pass_gap-in-End-clause-passed : goal.returns-in_ok-pass_gap-in-End-clause-passed
returns-in_ok-pass_gap-in-End-clause-passed g c =
    let b = looked {w = c.args.source.now} {x = c.next.new.self} c.in_ok-next.ensures.told c.next.ensures.same in
    let t = rw c.in-End.is at c.in_ok-next.ensures.told in
    let over : IsOver c.args.job c.next.new.self c.next.new.self c.in-End.ending = over_here c.args.source.now c.next.new.self t c.next.ensures.same c.requires.1 c.if-not-job.false in
    let old = held c.args.writers.now c.args.tally.now in
    let new = held c.pass_gap.new.writers c.pass_gap.new.tally in
    next_since c.args.job c.pass_gap.new.source old new step.Passed b (passes_gap over c.in_ok-pass_gap-in-End.ensures.passed)

pub returns-in_err-pass_gap-in-End-clause-halts : goal.returns-in_err-pass_gap-in-End-clause-halts
returns-in_err-pass_gap-in-End-clause-halts g c =
    let b = looked {w = c.args.source.now} {x = c.next.new.self} c.in_ok-next.ensures.told c.next.ensures.same in
    let t = rw c.in-End.is at c.in_ok-next.ensures.told in
    let over : IsOver c.args.job c.next.new.self c.next.new.self c.in-End.ending = over_here c.args.source.now c.next.new.self t c.next.ensures.same c.requires.1 c.if-not-job.false in
    on_any _ _ (halts_since b (halts_over over c.in_err-pass_gap-in-End.ensures.halts))

pub returns-in_err-pass_gap-in-End-clause-fails : goal.returns-in_err-pass_gap-in-End-clause-fails
returns-in_err-pass_gap-in-End-clause-fails g c =
    let b = looked {w = c.args.source.now} {x = c.next.new.self} c.in_ok-next.ensures.told c.next.ensures.same in
    fails_on c.from_residual-in_err-pass_gap-in-End.result _ _ c.from_residual-in_err-pass_gap-in-End.ensures.1
    (λ reading. let (goes, named, same) = c.in_err-pass_gap-in-End.ensures.fails reading in (goes_since b.stays goes, named ∙ b.named, same))
