use Rattle.raw_view.specs.Document.{bytes_of}
use Rattle.raw_resync.proofs.Explaining.{HasWalked, left_of}
use Rattle.raw_resync.proofs.length.walked_len.Given as goal

-- the elements before were passed
abbrev pub invariant-elements : goal.invariant-elements
invariant-elements l = HasWalked (bytes_of l.fn.document) l.elements l.offset

abbrev pub decreases-elements : goal.decreases-elements
decreases-elements l = left_of l.elements
