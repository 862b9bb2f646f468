use Rattle.std.proofs.Common.{subst}
use Rattle.dump_runs.specs.Plays.{held}
use Rattle.dump_runs.specs.texts.Reading.{FindsText}
use Rattle.dump_io.proofs.Face.{if_ok, on_any}
use Rattle.dump_runs.proofs.texts.Passing.{fails_behind, fails_here, goes_next, halts_here, halts_next, halts_passed, nothing_passed, stops_end, stops_fault, window_behind}
use Rattle.dump_runs.proofs.texts.reading.pass_texts.Goals as goal

pub loop-init : goal.loop-init
loop-init g c =
    let n = c.new-cursor.ensures in (
      n.window,
      nothing_passed c.args.job c.args.name.now (g.R.Read.remaining c.args.reader.now) (held c.args.writers.now c.args.tally.now) c.new-cursor.result n.nothing n.place n.start n.turn,
    )

pub returns-in-Ok-End-clause-passed : goal.returns-in-Ok-End-clause-passed
returns-in-Ok-End-clause-passed g c =
    let read = g.R.Read.remaining in
    let found = subst (FindsText (read c.loop.reader) (read c.find_text.new.reader) c.loop.cursor c.find_text.new.self) c.in-Ok-End.field-0-is c.in-Ok-End.ensures.found in
    stops_end c.loop.invariant.1 (read c.find_text.new.reader) c.find_text.new.self found

pub returns-in-Err-clause-passed : goal.returns-in-Err-clause-passed
returns-in-Err-clause-passed g c =
    let read = g.R.Read.remaining in
    let y = c.find_text.new.self in
    if_ok c.stopped.result _ _ (λ e is. fails_here c.loop.invariant.1 (read c.find_text.new.reader) y e (c.in-Err.ensures.fails is.0) is.1) c.stopped.ensures.stops

pub returns-then-stops : goal.returns-then-stops
returns-then-stops g c =
    let read = g.R.Read.remaining in
    let passed = c.in_ok-went.ensures in
    record {
      passed = stops_fault c.loop.invariant.1 c.in-Ok.ensures.found passed (read c.find_text.new.reader) c.if-stops.ensures;
      halts = tt;
      failed = tt;
    }

pub returns-in-Err-pass_behind : goal.returns-in-Err-pass_behind
returns-in-Err-pass_behind g c =
    let read = g.R.Read.remaining in
    let q = c.pass_behind.new.cursor in
    let passed = c.in_ok-went.ensures in
    record {
      passed = if_ok c.stopped-in-Err-pass_behind.result _ _
          (λ e is.
          fails_behind c.loop.invariant.1 c.in-Ok.ensures.found passed (read c.pass_behind.new.reader) q e c.if-stops.ensures (c.in-Err-pass_behind.ensures.fails is.0) is.1)
          c.stopped-in-Err-pass_behind.ensures.stops;
      halts = on_any _ _ (halts_passed c.loop.invariant.1 c.in-Ok.ensures.found passed);
      failed = c.stopped-in-Err-pass_behind.ensures.failed;
    }

pub returns-in-Err-clause-halts : goal.returns-in-Err-clause-halts
returns-in-Err-clause-halts g c = on_any _ _ (halts_here c.loop.invariant.1)

pub returns-in_err-went-clause-halts : goal.returns-in_err-went-clause-halts
returns-in_err-went-clause-halts g c =
    on_any _ _ (halts_next c.loop.invariant.1 c.in-Ok.ensures.found c.in_err-went.ensures.0)

pub returns-clause-halts : goal.returns-clause-halts
returns-clause-halts g c = halts_here c.loop.invariant.1

pub loop-preserved : goal.loop-preserved
loop-preserved g c =
    let read = g.R.Read.remaining in
    let new = c.pass_next.new in
    let q = c.pass_behind.new.cursor in
    let passed = c.in_ok-went.ensures in (
      window_behind c.in_ok-went.went (read c.find_text.new.reader) (read c.pass_behind.new.reader) new.cursor q c.in_default.ensures.passed passed.window,
      goes_next c.loop.invariant.1 c.in-Ok.ensures.found c.in_ok-went.went (read c.pass_behind.new.reader) q passed c.in_default.ensures.passed c.if-stops.ensures,
    )
