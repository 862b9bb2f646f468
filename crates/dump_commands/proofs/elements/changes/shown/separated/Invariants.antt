use Rattle.std.proofs.Common.{◌≡◌, take}
use Rattle.dump_commands.specs.elements.Changes.{items_of, separated}
use Rattle.dump_commands.proofs.elements.changes.shown.separated.Given as goal

-- the texts so far, with separators
abbrev pub invariant-loop-place : goal.invariant-loop-place
invariant-loop-place l = l.whole.items ≡ separated l.separator (items_of (take l.place l.texts))
