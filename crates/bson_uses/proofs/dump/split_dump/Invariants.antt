use Rattle.std.proofs.Common.{◌≡◌, ◌++◌, length, map}
use Rattle.raw_bson.specs.Document.{bytes_of}
use Rattle.raw_bson.specs.Folds.{joined}
use Rattle.bson_uses.proofs.dump.split_dump.Given as goal

-- the documents so far, and the rest
abbrev pub invariant-loop-rest : goal.invariant-loop-rest
invariant-loop-rest l = joined (map bytes_of l.documents.items) ++ l.rest ≡ l.bytes

abbrev pub decreases-loop-rest : goal.decreases-loop-rest
decreases-loop-rest l = length l.rest
