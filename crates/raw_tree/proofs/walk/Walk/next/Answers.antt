use Rattle.std.proofs.Common.{refl}
use Rattle.raw_tree.proofs.Common.{err_from_is_err_and}
use Rattle.raw_tree.proofs.walk.Levels.{path_stored}
use Rattle.raw_tree.proofs.walk.Come.{come_goes_on, comes_end, comes_inside, comes_outside, comes_whole, inside_within, told_deep, told_fault, whole_within}
use Rattle.raw_tree.proofs.walk.Walk.next.Goals as goal

pub pass-requires : goal.pass-requires
pass-requires c = whole_within c.requires.3 c.look.ensures c.in-Whole.element c.in-Whole.value c.in-Whole.is

pub returns-in-Whole : goal.returns-in-Whole
returns-in-Whole c = record {
  event = λ document most seen is.
      let (come, single, number_is) = comes_whole is c.look.ensures c.in-Whole.element c.in-Whole.value c.in-Whole.is c.pass.ensures in
      (come, single, number_is, refl);
}

pub enter-requires-clause-within : goal.enter-requires-clause-within
enter-requires-clause-within c = (inside_within c.requires.3 c.look.ensures c.in-Inside.element c.in-Inside.inner c.in-Inside.is).0

pub enter-requires-clause-inner : goal.enter-requires-clause-inner
enter-requires-clause-inner c = (inside_within c.requires.3 c.look.ensures c.in-Inside.element c.in-Inside.inner c.in-Inside.is).1

pub enter-requires-clause-path : goal.enter-requires-clause-path
enter-requires-clause-path c = path_stored c.requires.3.at

pub returns-in_err-enter-in-Inside : goal.returns-in_err-enter-in-Inside
returns-in_err-enter-in-Inside c = record {
  event = λ document most seen is.
      let e = c.in_err-enter-in-Inside.field-0.0 in
      let p = err_from_is_err_and c.from_residual.result c.from_residual.ensures.1 in
      rw p.1 (rw p.2 (told_deep is c.look.ensures c.in-Inside.element c.in-Inside.inner c.in-Inside.is e c.in_err-enter-in-Inside.ensures.ends));
}

pub returns-in_ok-enter-in-Inside : goal.returns-in_ok-enter-in-Inside
returns-in_ok-enter-in-Inside c = record {
  event = λ document most seen is. comes_inside is c.look.ensures c.in-Inside.element c.in-Inside.inner c.in-Inside.is c.in_ok-enter-in-Inside.ensures.entered;
}

pub barrier-requires : goal.barrier-requires
barrier-requires c = path_stored c.requires.3.at

pub returns-in-Fault : goal.returns-in-Fault
returns-in-Fault c = record {
  event = λ document most seen is. told_fault is c.look.ensures c.in-Fault.key c.in-Fault.error c.in-Fault.is c.barrier.result c.barrier.ensures;
}

pub leave-requires : goal.leave-requires
leave-requires c = come_goes_on c.requires.3 c.look.ensures c.in-End.is

pub returns-then-leave : goal.returns-then-leave
returns-then-leave c = record { event = λ document most seen is. comes_outside is c.look.ensures c.in-End.is c.if-leave.ensures }

pub returns-else-leave : goal.returns-else-leave
returns-else-leave c = record { event = λ document most seen is. comes_end is c.look.ensures c.in-End.is c.if-leave.ensures }
