use Rattle.std.proofs.Common.{◌≡◌}
use Rattle.raw_bson.specs.Value.{value_of, array_bytes_of}
use Rattle.raw_bson.proofs.Face.{HasSought}
use Rattle.bson_uses.proofs.filter.is_among.Given as goal

abbrev pub invariant-loop-item : goal.invariant-loop-item
invariant-loop-item l = HasSought (λ e. e) (λ key v. v ≡ value_of l.value) (array_bytes_of l.array) l.item-iterator
