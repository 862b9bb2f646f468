use Rattle.std.proofs.Common.{◌≡◌, ◌≤◌, ◌++◌, [], get_or, length, reverse}
use Rattle.dump_commands.specs.elements.Cut.{texts_of}
use Rattle.dump_commands.specs.elements.Numbered.{paths_by}
use Rattle.dump_commands.proofs.elements.changes.shown.keys_back.Given as goal

-- the keys that are left, and those so far from the last one on, are those of the path
abbrev pub invariant-loop-number : goal.invariant-loop-number
invariant-loop-number l = record {
  left : get_or (paths_by l.steps) l.number [] ++ reverse (texts_of l.keys.items) ≡ get_or (paths_by l.steps) l.path [];
  within : l.number ≤ length l.steps;
}

abbrev pub decreases-loop-number : goal.decreases-loop-number
decreases-loop-number l = l.number
