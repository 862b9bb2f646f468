use Rattle.raw_bson.specs.Document.{bytes_of}
use Rattle.raw_bson.proofs.Face.{HasFolded}
use Rattle.bson_uses.specs.Users.{AddsItem, damaged, nothing}
use Rattle.bson_uses.proofs.user.fields_of.Given as goal

abbrev pub invariant-loop-item : goal.invariant-loop-item
invariant-loop-item l = HasFolded damaged AddsItem nothing (bytes_of l.document) l.fields l.item-iterator
