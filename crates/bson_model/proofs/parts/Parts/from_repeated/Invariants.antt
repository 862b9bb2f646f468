use Rattle.std.proofs.Common.{◌≡◌, take, drop}
use Rattle.bson_model.specs.Pairs.{keep}
use Rattle.bson_model.proofs.Columns.{columns}
use Rattle.bson_model.proofs.parts.Parts.from_repeated.Given as goal

-- the pairs up to the index are inserted, and the values after them are left
abbrev pub invariant-loop-key : goal.invariant-loop-key
invariant-loop-key g l =
    (l.left.rest.items ≡ drop l.key-index l.fn.values.items) × (l.parts ≡ keep (take l.key-index (columns l.fn.keys l.fn.values.items)))
