use Rattle.std.proofs.Common.{take}
use Rattle.key_set.specs.IndexedKeys.{HasPlaces}
use Rattle.key_set.specs.References.{texts}
use Rattle.key_set.proofs.indexed_keys.ordered_keys.Given as goal

-- the keys so far have their places
abbrev pub invariant-loop-place : goal.invariant-loop-place
invariant-loop-place l = HasPlaces l.places (texts (take l.place l.keys))
