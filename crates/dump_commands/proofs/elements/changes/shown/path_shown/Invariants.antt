use Rattle.std.proofs.Common.{◌≡◌, ◌++◌, map, reverse, vec_len}
use Rattle.dump_commands.specs.elements.Changes.{items_of, step_shown}
use Rattle.dump_commands.specs.elements.Cut.{texts_of}
use Rattle.dump_commands.proofs.elements.changes.shown.path_shown.Given as goal

-- how the keys so far are shown, and those that are left from the last one on
abbrev pub invariant-loop-key : goal.invariant-loop-key
invariant-loop-key l = items_of l.texts.items ++ map step_shown (reverse (texts_of l.keys.items)) ≡ map step_shown (reverse (texts_of l.initial.keys.items))

abbrev pub decreases-loop-key : goal.decreases-loop-key
decreases-loop-key l = vec_len l.keys
