use Rattle.std.proofs.Common.{take}
use Rattle.key_set.specs.KeyFilter.{AreInFilter}
use Rattle.key_set.specs.References.{texts}
use Rattle.key_set.proofs.filter.filter_of.Given as goal

-- the filter has the keys so far
abbrev pub invariant-loop-key : goal.invariant-loop-key
invariant-loop-key l = AreInFilter l.filter (texts (take l.key-index l.keys))
