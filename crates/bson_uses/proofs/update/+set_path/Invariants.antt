use Rattle.std.proofs.Common.{length}
use Rattle.raw_bson.specs.Document.{bytes_of}
use Rattle.raw_bson.specs.Value.{value_of}
use Rattle.raw_bson.proofs.Face.{HasCopied}
use Rattle.bson_uses.specs.Path.{keys_of}
use Rattle.bson_uses.specs.Updates.{Sets}
use Rattle.bson_uses.proofs.update.+set_path.Given as goal

-- the remaining keys
abbrev pub decreases-set_path : goal.decreases-set_path
decreases-set_path l = length l.path.now

abbrev pub invariant-loop-element : goal.invariant-loop-element
invariant-loop-element l = HasCopied (Sets (keys_of l.path) (value_of l.value)) (bytes_of l.document) l.copy l.element-iterator
