use Rattle.std.proofs.Common.{◌+◌, ◌*◌}
use Rattle.calls.proofs.tree.+trees.Given as goal

abbrev pub decreases-document : goal.decreases-document
decreases-document l = l.levels * 4

abbrev pub decreases-list : goal.decreases-list
decreases-list l = l.levels * 4

abbrev pub decreases-code : goal.decreases-code
decreases-code l = l.levels * 4 + 1

abbrev pub decreases-tree : goal.decreases-tree
decreases-tree l = l.levels * 4 + 2
