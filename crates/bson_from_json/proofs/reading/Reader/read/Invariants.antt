use Rattle.bson_from_json.specs.Left.{left_of}
use Rattle.bson_from_json.proofs.Keeps.{MayEnd}
use Rattle.bson_from_json.proofs.Moments.{Whole}
use Rattle.bson_from_json.proofs.reading.Reader.read.Given as goal

-- the rest gives the bytes of what the text writes, and can be ended by each document that the text writes
abbrev pub invariant-members : goal.invariant-members
invariant-members l = Whole l.fn.self.source.tokens l.self × MayEnd l.fn.self.document.limits l.fn.self.source.tokens l.self

-- how many tokens remain
abbrev pub decreases-members : goal.decreases-members
decreases-members l = left_of l.self
