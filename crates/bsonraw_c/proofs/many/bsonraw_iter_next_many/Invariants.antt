use Rattle.std.proofs.Common.{◌≡◌}
use Rattle.bsonraw_c.proofs.Filling.{HasFilled}
use Rattle.bsonraw_c.proofs.many.bsonraw_iter_next_many.Given as goal

-- the elements so far are at the front of the room, and the iterator is as it was
abbrev pub invariant-loop-index : goal.invariant-loop-index
invariant-loop-index l = (l.iter ≡ l.fn.iter) × HasFilled l.bytes l.fn.iter l.next l.fn.entries l.entries l.index l.elements
