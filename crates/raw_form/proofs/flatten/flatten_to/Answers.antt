use Rattle.std.proofs.Common.{rules, Ok, Some, arith, suc}
use Rattle.raw_form.proofs.canonical.Common.{bytes_of}
use Rattle.raw_form.proofs.flatten.Flattening.{flat_more, flattens_end, flattens_enter, flattens_leave, flattens_whole, many_around}
use Rattle.raw_tree.proofs.Face.{barrier_told, come_within, envelope_fits}
use Rattle.raw_form.proofs.flatten.flatten_to.Goals as goal

pub overflow_cast-depth : goal.overflow_cast-depth
overflow_cast-depth c = search (rules, come_within c.events.invariant.1, many_around, envelope_fits)

pub new-requires : goal.new-requires
new-requires c = search (rules, c.next.ensures.event _ _ _ c.events.invariant.1, envelope_fits)

pub events-smaller-in-Ok-Whole : goal.events-smaller-in-Ok-Whole
events-smaller-in-Ok-Whole c = search (rules, c.next.ensures.event _ _ _ c.events.invariant.1)

pub events-preserved-in-Ok-Whole : goal.events-preserved-in-Ok-Whole
events-preserved-in-Ok-Whole c = search (rules, c.next.ensures.event _ _ _ c.events.invariant.1, flattens_whole)

pub new-requires-in-Ok-Enter : goal.new-requires-in-Ok-Enter
new-requires-in-Ok-Enter c = search (rules, c.next.ensures.event _ _ _ c.events.invariant.1, envelope_fits)

pub events-smaller-in-Ok-Enter : goal.events-smaller-in-Ok-Enter
events-smaller-in-Ok-Enter c = search (rules, c.next.ensures.event _ _ _ c.events.invariant.1)

pub events-preserved-in-Ok-Enter : goal.events-preserved-in-Ok-Enter
events-preserved-in-Ok-Enter c = search (rules, c.next.ensures.event _ _ _ c.events.invariant.1, flattens_enter)

pub unreachable-requires : goal.unreachable-requires
unreachable-requires c = search (rules, c.next.ensures.event _ _ _ c.events.invariant.1)

pub overflow_sub-count : goal.overflow_sub-count
overflow_sub-count c = search (rules, flattens_leave _ _ c.pop.new.self.items c.in-Some.place c.events.invariant.2)

pub set_inside-requires : goal.set_inside-requires
set_inside-requires c =
    omega (arith, (come_within c.events.invariant.1).0, envelope_fits (bytes_of c.args.document) c.args.document.envelope, c.events.invariant.2.few)

pub events-smaller : goal.events-smaller
events-smaller c = search (rules, c.next.ensures.event _ _ _ c.events.invariant.1)

pub events-preserved : goal.events-preserved
events-preserved c = search (rules, c.next.ensures.event _ _ _ c.events.invariant.1, flattens_leave, flat_more)

pub returns-in-Ok-End : goal.returns-in-Ok-End
returns-in-Ok-End c bytes few =
    let (seen, come, is) = c.events.invariant in
    let (visits, read, none) = rw (c.in-Ok-End.is, c.in-Ok-End.field-0-is) at (c.next.ensures.event _ _ seen come) in
    flattens_end _ _ seen is few visits read

pub returns-in-Err-Barrier : goal.returns-in-Err-Barrier
returns-in-Err-Barrier c bytes few =
    let told = rw (c.in-Err-Barrier.is, c.in-Err-Barrier.field-0-is) at (c.next.ensures.event _ _ _ c.events.invariant.1) in
    rw c.in-Err-Barrier.field-0-is (barrier_told (record { bytes = bytes; depth = suc c.args.most_waiting }) _ (Ok (Some c.in-Err-Barrier.barrier)) few told.0)
