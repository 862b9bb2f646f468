use Rattle.std.proofs.Common.{◌≡◌, take}
use Rattle.key_set.specs.References.{texts}
use Rattle.key_set.proofs.key_set.indexed.Given as goal

-- the keys so far are in the set
abbrev pub invariant-loop-key : goal.invariant-loop-key
invariant-loop-key l = l.set ≡ texts (take l.key-index l.keys)
