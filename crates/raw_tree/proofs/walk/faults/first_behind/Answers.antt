use Rattle.std.proofs.Common.{rules, ◌≡◌, ◌∙◌, [], suc, drop, refl}
use Rattle.raw_tree.proofs.Common.{bytes_of}
use Rattle.raw_tree.proofs.walk.Levels.{path_stored}
use Rattle.raw_tree.proofs.walk.Come.{come_goes_on, comes_end, comes_inside, comes_nearer, comes_outside, comes_whole, inside_within, told_deep, told_fault, whole_within}
use Rattle.raw_tree.proofs.walk.Starts.{at_start}
use Rattle.raw_tree.proofs.walk.Visits.{frames_visited}
use Rattle.raw_tree.proofs.walk.faults.first_behind.Goals as goal

-- there are visits of what is before the start
pub elements-init : goal.elements-init
elements-init c =
    let walk = c.new-walk.result.0 in
    let depth_is : suc walk.most_waiting ≡ c.args.depth = search rules in
    let is = c.requires walk.most_waiting depth_is in
    let (visits, each) = frames_visited walk.most_waiting 4 (drop 4 (bytes_of c.args.document)) is.frames is.s is.pairs is.reaches is.each in
    let at = at_start c.new-walk.ensures.level [] is.frames is.s is.reaches is.begins (c.new-walk.ensures.number ∙ is.number_is) (record { visits = visits; each = each; seen_is = refl }) in
    (walk.most_waiting, visits, record { at = at }, depth_is)

pub pass-requires : goal.pass-requires
pass-requires c = whole_within c.elements.invariant.2 c.look.ensures c.in-Whole.element _ c.in-Whole.is

pub elements-smaller-in-Whole : goal.elements-smaller-in-Whole
elements-smaller-in-Whole c =
    let is = c.elements.invariant.2 in
    comes_nearer is _ (comes_whole is c.look.ensures c.in-Whole.element _ c.in-Whole.is c.pass.ensures).0

pub elements-preserved-in-Whole : goal.elements-preserved-in-Whole
elements-preserved-in-Whole c =
    let (most, seen, is, depth_is) = c.elements.invariant in
    (most, _, (comes_whole is c.look.ensures c.in-Whole.element _ c.in-Whole.is c.pass.ensures).0.come, depth_is)

pub enter-requires-clause-within : goal.enter-requires-clause-within
enter-requires-clause-within c = (inside_within c.elements.invariant.2 c.look.ensures c.in-Inside.element c.in-Inside.inner c.in-Inside.is).0

pub enter-requires-clause-inner : goal.enter-requires-clause-inner
enter-requires-clause-inner c = (inside_within c.elements.invariant.2 c.look.ensures c.in-Inside.element c.in-Inside.inner c.in-Inside.is).1

pub enter-requires-clause-path : goal.enter-requires-clause-path
enter-requires-clause-path c = path_stored c.elements.invariant.2.at

pub returns-in-Err-clause-told : goal.returns-in-Err-clause-told
returns-in-Err-clause-told c =
    let (most, seen, is, depth_is) = c.elements.invariant in
    rw (← depth_is) (c.told.ensures.told most (bytes_of c.args.document)
    (told_deep is c.look.ensures c.in-Inside.element c.in-Inside.inner c.in-Inside.is c.in-Err.error c.in-Err.ensures.ends).0)

pub elements-smaller-in_default-enter : goal.elements-smaller-in_default-enter
elements-smaller-in_default-enter c =
    let is = c.elements.invariant.2 in
    comes_nearer is _ (comes_inside is c.look.ensures c.in-Inside.element c.in-Inside.inner c.in-Inside.is c.in_default-enter.ensures.entered).0

pub elements-preserved-in_default-enter : goal.elements-preserved-in_default-enter
elements-preserved-in_default-enter c =
    let (most, seen, is, depth_is) = c.elements.invariant in
    (most, _, (comes_inside is c.look.ensures c.in-Inside.element c.in-Inside.inner c.in-Inside.is c.in_default-enter.ensures.entered).0.come, depth_is)

pub barrier-requires : goal.barrier-requires
barrier-requires c = path_stored c.elements.invariant.2.at

pub returns-in-Fault-clause-told : goal.returns-in-Fault-clause-told
returns-in-Fault-clause-told c =
    let (most, seen, is, depth_is) = c.elements.invariant in
    rw (← depth_is) (c.told-in-Fault.ensures.told most (bytes_of c.args.document)
    (told_fault is c.look.ensures c.in-Fault.key c.in-Fault.error c.in-Fault.is c.barrier.result c.barrier.ensures).0)

pub leave-requires : goal.leave-requires
leave-requires c = come_goes_on c.elements.invariant.2 c.look.ensures c.in-End.is

pub returns-then-not-leave-clause-told : goal.returns-then-not-leave-clause-told
returns-then-not-leave-clause-told c =
    let (most, seen, is, depth_is) = c.elements.invariant in
    rw (← depth_is) ((comes_end is c.look.ensures c.in-End.is c.if-not-leave.ensures).1)

pub elements-smaller : goal.elements-smaller
elements-smaller c =
    let is = c.elements.invariant.2 in
    comes_nearer is _ (comes_outside is c.look.ensures c.in-End.is c.if-not-leave.ensures).0

pub elements-preserved : goal.elements-preserved
elements-preserved c =
    let (most, seen, is, depth_is) = c.elements.invariant in
    (most, _, (comes_outside is c.look.ensures c.in-End.is c.if-not-leave.ensures).0.come, depth_is)
