use Rattle.std.proofs.Common.{◌-◌, List, length}
use Rattle.raw_form.proofs.canonical.Common.{bytes_of}
use Rattle.raw_form.proofs.flatten.Flattening.{IsFlattening, flat_of}
use Rattle.raw_tree.specs.Visits.{Visit}
use Rattle.raw_tree.specs.Walks.{HasCome}
use Rattle.raw_form.proofs.flatten.flatten_to.Given as goal

abbrev pub invariant-events : goal.invariant-events
invariant-events l =
    (seen : List Visit) × HasCome l.fn.document l.fn.most_waiting l.walk l.level seen
    × IsFlattening l.fn.tokens (flat_of seen) l.places.items l.count l.tokens (length l.walk.waiting.items) l.level.offset

-- the bytes after the offset
abbrev pub decreases-events : goal.decreases-events
decreases-events l = length (bytes_of l.fn.document) - l.level.offset
