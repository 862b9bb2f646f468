use Rattle.raw_bson.specs.Document.{bytes_of}
use Rattle.raw_bson.specs.EachItem.{value_in}
use Rattle.raw_bson.proofs.Face.{HasTried}
use Rattle.bson_uses.specs.Matching.{damaged, MeetsNamed}
use Rattle.bson_uses.proofs.filter.are_met.Given as goal

abbrev pub invariant-loop-item : goal.invariant-loop-item
invariant-loop-item l = HasTried damaged (MeetsNamed (value_in l.found)) (bytes_of l.condition) l.item-iterator
