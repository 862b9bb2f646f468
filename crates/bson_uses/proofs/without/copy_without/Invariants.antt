use Rattle.raw_bson.specs.Document.{bytes_of}
use Rattle.raw_bson.proofs.Face.{HasCopied, IsNoLonger}
use Rattle.bson_uses.specs.Without.{LeavesOut}
use Rattle.bson_uses.proofs.without.copy_without.Given as goal

abbrev pub invariant-loop-element : goal.invariant-loop-element
invariant-loop-element l = HasCopied (LeavesOut l.key) (bytes_of l.document) l.copy l.element-iterator × IsNoLonger (bytes_of l.document) l.copy l.element-iterator
