use Rattle.std.proofs.Common.{◌+◌, ◌*◌}
use Rattle.calls.proofs.shown_trees.+shown_trees.Given as goal

abbrev pub decreases-show_document : goal.decreases-show_document
decreases-show_document l = l.levels * 4

abbrev pub decreases-show_list : goal.decreases-show_list
decreases-show_list l = l.levels * 4

abbrev pub decreases-show_code : goal.decreases-show_code
decreases-show_code l = l.levels * 4 + 1

abbrev pub decreases-show_tree : goal.decreases-show_tree
decreases-show_tree l = l.levels * 4 + 2
