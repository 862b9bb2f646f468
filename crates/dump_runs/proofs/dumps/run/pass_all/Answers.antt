use Rattle.std.proofs.Common.{◌≢◌, Some, ap, arith, length, sym, subst, ◌∙◌}
use Rattle.raw_resync.specs.Seeking.{IsWork}
use Rattle.dump_io.proofs.Face.{if_ok, on_any}
use Rattle.dump_runs.specs.dumps.Portion.{documents_of_parts}
use Rattle.dump_runs.proofs.dumps.Choosing.{chosen_front, chosen_more, documents_between, where_false, where_true}
use Rattle.dump_runs.proofs.dumps.Ending.{halts_first, halts_here, halts_next, stops_before, stops_end, stops_enough, stops_failed, stops_left}
use Rattle.dump_runs.proofs.dumps.Passing.{has_front, has_more}
use Rattle.dump_runs.proofs.dumps.run.pass_all.Goals as goal

pub loop-init : goal.loop-init
loop-init g c =
    let p = c.in_default.ensures.passed in
    let b = c.requires.1 in (
      p.has.window,
      subst IsWork (sym (p.work ∙ b.unworked)) (omega arith, omega arith),
      record {
        front = p.front;
        has = has_front p.named (p.work ∙ b.unworked) (p.same ∙ b.whole) p.has;
        chosen = chosen_front p.front p.is.front_of;
        all = p.is;
      },
    )

pub overflow_sub-tally : goal.overflow_sub-tally
overflow_sub-tally g c = (documents_between c.loop.invariant.2.has.passed).0

pub returns-then-is_enough-clause-passed : goal.returns-then-is_enough-clause-passed
returns-then-is_enough-clause-passed g c =
    let h = c.loop.invariant.2 in
    stops_enough c.args.source.now h c.loop.invariant.0
    (where_true _ _ c.is_enough.result c.is_enough.ensures c.if-is_enough.true ∙ ap Some (documents_between h.has.passed).1)

pub loop-preserved : goal.loop-preserved
loop-preserved g c =
    let h = c.loop.invariant.2 in
    let ps = h.has.passed.ps in
    let other : c.args.job.portion.take ≢ Some (length (documents_of_parts ps)) = λ is. where_false _ _ c.is_enough.result c.is_enough.ensures c.if-is_enough.false
    (is ∙ ap Some (sym (documents_between h.has.passed).1)) in
    let (p, over, passes) = rw c.in-Passed.is at c.in-Ok.ensures.passed in (
      passes.window,
      passes.work,
      record {
        front = h.front;
        has = has_more p h.has passes;
        chosen = chosen_more ps p h.chosen h.all over other;
        all = h.all;
      },
    )

pub returns-in-End-clause-passed : goal.returns-in-End-clause-passed
returns-in-End-clause-passed g c =
    let (looks, none, end) = rw c.in-End.is at c.in-Ok.ensures.passed in
    stops_end c.args.source.now c.loop.invariant.2 looks none end

pub returns-in-Left-clause-passed : goal.returns-in-Left-clause-passed
returns-in-Left-clause-passed g c =
    let (looks, ends, behind, unasked) = rw c.in-Left.is at c.in-Ok.ensures.passed in
    stops_left c.args.source.now c.loop.invariant.2 c.in-Left.ending looks ends behind unasked

pub returns-in-Err-pass_next-clause-passed : goal.returns-in-Err-pass_next-clause-passed
returns-in-Err-pass_next-clause-passed g c =
    if_ok c.stopped-in-Err-pass_next.result _ _ (λ s is.
    let (goes, named, same) = c.in-Err-pass_next.ensures.fails is.0 in
    stops_failed c.args.source.now c.loop.invariant.2 c.at-from.result.offset s is.1 (ap (λ o. o.offset) c.at-from.ensures) goes named same)
    c.stopped-in-Err-pass_next.ensures.stops

pub returns-in-Err-pass_next-clause-halts : goal.returns-in-Err-pass_next-clause-halts
returns-in-Err-pass_next-clause-halts g c = on_any _ _ (halts_next c.loop.invariant.2 c.in-Err-pass_next.ensures.halts)

pub returns-clause-halts : goal.returns-clause-halts
returns-clause-halts g c =
    let h = c.loop.invariant.2 in
    halts_here h.has.passed h.front h.chosen

pub returns-in-Err-clause-passed : goal.returns-in-Err-clause-passed
returns-in-Err-clause-passed g c =
    if_ok c.stopped.result _ _ (λ s is. stops_before c.at.result.offset s is.1 (ap (λ o. o.offset) c.at.ensures) c.requires.1.unworked
    c.requires.1.whole (c.in-Err.ensures.fails is.0)) c.stopped.ensures.stops

pub returns-in-Err-clause-halts : goal.returns-in-Err-clause-halts
returns-in-Err-clause-halts g c = on_any _ _ halts_first
