use Rattle.raw_form.proofs.canonical.Common.{bytes_of, left_of}
use Rattle.raw_form.proofs.last.Places.{AreListed}
use Rattle.raw_form.proofs.last.list_places.Given as goal

abbrev pub invariant-elements : goal.invariant-elements
invariant-elements l = AreListed (bytes_of l.fn.document) l.keys l.listed.items l.places.items l.elements l.offset

abbrev pub decreases-elements : goal.decreases-elements
decreases-elements l = left_of l.elements
