use Rattle.std.proofs.Common.{◌≡◌, ℕ, List, drop}
use Rattle.raw_form.proofs.canonical.Common.{ReadsAs, Tree, bytes_of, keys_of, left_of}
use Rattle.raw_form.proofs.last.Places.{HasPassed}
use Rattle.raw_form.proofs.last.are_keys_distinct.Given as goal
use Rattle.key_set.specs.KeySets.{HasKeys}
use Rattle.raw_tree.specs.Reading.{ReadsRest}

-- the keys of the passed pairs are in the set
abbrev pub invariant-elements : goal.invariant-elements
invariant-elements l =
    (below own : List (List ℕ)) × HasKeys l.keys l.listed.items below own
    × ((pairs : List (List ℕ × Tree)) → ReadsRest ReadsAs (drop 4 (bytes_of l.fn.document)) pairs → HasPassed (λ passed. keys_of passed ≡ own) l.elements pairs)

abbrev pub decreases-elements : goal.decreases-elements
decreases-elements l = left_of l.elements
