use Rattle.raw_bson.specs.Document.{bytes_of}
use Rattle.raw_bson.proofs.Face.{HasTried}
use Rattle.bson_uses.specs.Matching.{damaged, MeetsUnder}
use Rattle.bson_uses.proofs.filter.matches.Given as goal

abbrev pub invariant-loop-item : goal.invariant-loop-item
invariant-loop-item l = HasTried damaged (MeetsUnder (bytes_of l.document)) (bytes_of l.filter) l.item-iterator
