use Rattle.bson_model.proofs.Columns.{IsSoFar}
use Rattle.bson_model.proofs.parts.Parts.from_columns.Given as goal

abbrev pub invariant-loop-key : goal.invariant-loop-key
invariant-loop-key g l = IsSoFar l.fn.keys l.fn.values.items l.distinct l.key-index
