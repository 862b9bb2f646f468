use Rattle.raw_bson.specs.Document.{bytes_of}
use Rattle.raw_bson.proofs.Face.{HasFolded}
use Rattle.bson_uses.specs.Nulls.{CountsNull}
use Rattle.bson_uses.proofs.items.count_nulls.Given as goal

abbrev pub invariant-loop-item : goal.invariant-loop-item
invariant-loop-item l = HasFolded (λ e. e) CountsNull 0 (bytes_of l.document) l.nulls l.item-iterator
