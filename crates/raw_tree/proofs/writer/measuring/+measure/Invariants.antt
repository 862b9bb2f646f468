use Rattle.std.proofs.Common.{◌+◌, ◌∷◌, length}
use Rattle.raw_tree.proofs.Common.{encoded_len, members_left, tree_of_container}
use Rattle.raw_tree.proofs.writer.MeasuredMembers.{IsMeasuring, left_in}
use Rattle.raw_tree.proofs.writer.MemberSteps.{stack}
use Rattle.raw_tree.proofs.writer.measuring.+measure.Given as goal

abbrev pub decreases-measure : goal.decreases-measure
decreases-measure l = encoded_len (tree_of_container l.container)

-- the container is measured except the waiting members and the remaining ones
abbrev pub invariant-members : goal.invariant-members
invariant-members l = IsMeasuring (tree_of_container l.container) (members_left l.members ∷ stack members_left l.waiting.items) l.total

-- what remains, and the levels
abbrev pub decreases-members : goal.decreases-members
decreases-members l = left_in (members_left l.members ∷ stack members_left l.waiting.items) + length l.waiting.items
