use Rattle.std.proofs.Common.{◌≡◌}
use Rattle.bsonraw_c.proofs.Counting.{HasCounted}
use Rattle.bsonraw_c.proofs.paths.find_number.Given as goal

-- frames with other numbers were passed, and the iterator is as it was
abbrev pub invariant-loop-step : goal.invariant-loop-step
invariant-loop-step l = (l.iter ≡ l.fn.iter) × HasCounted l.bytes l.number l.fn.iter l.next l.index l.step-iterator
