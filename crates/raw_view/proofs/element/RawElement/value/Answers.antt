use Rattle.std.proofs.Common.{refl}
use Rattle.raw_view.specs.Meaning.{value, faulty}
use Rattle.raw_view.specs.Meaning.Value.{value_of}
use Rattle.raw_view.proofs.Frames.Iteration.{told_fault}
use Rattle.raw_view.proofs.Unique.Meanings.{the_meaning}
use Rattle.raw_view.proofs.element.RawElement.value.Goals as goal

pub returns-in-Ok-clause-meaning : goal.returns-in-Ok-clause-meaning
returns-in-Ok-clause-meaning c = (value (value_of c.in-Ok.value), c.in-Ok.ensures.value, refl)

pub returns-in-Err-clause-meaning : goal.returns-in-Err-clause-meaning
returns-in-Err-clause-meaning c =
    let h = c.in-Err.ensures.fault in
    (faulty h.0, h.1, told_fault c.in-Err.error h.0 _ h.2 c.into_error.ensures)

pub returns-in-Ok-clause-one_meaning : goal.returns-in-Ok-clause-one_meaning
returns-in-Ok-clause-one_meaning c = let t = returns-in-Ok-clause-meaning c in (t.0, the_meaning _ t.0 t.1)

pub returns-in-Err-clause-one_meaning : goal.returns-in-Err-clause-one_meaning
returns-in-Err-clause-one_meaning c = let t = returns-in-Err-clause-meaning c in (t.0, the_meaning _ t.0 t.1)
