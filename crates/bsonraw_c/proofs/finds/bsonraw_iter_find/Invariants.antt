use Rattle.std.proofs.Common.{◌≡◌}
use Rattle.bsonraw_c.proofs.Finding.{HasPassed}
use Rattle.bsonraw_c.proofs.finds.bsonraw_iter_find.Given as goal

-- frames with other keys were passed, and the iterator is as it was
abbrev pub invariant-loop-step : goal.invariant-loop-step
invariant-loop-step l = (l.iter ≡ l.fn.iter) × HasPassed l.bytes l.key l.fn.iter l.next l.step-iterator
