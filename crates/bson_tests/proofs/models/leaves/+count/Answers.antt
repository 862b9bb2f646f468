use Rattle.std.proofs.Common.{sym, arith}
use Rattle.bson_model.proofs.Face.{value_smaller}
use Rattle.bson_tests.proofs.models.leaves.+count.Goals as goal

pub leaves_of_document-leaves_of_value-requires : goal.leaves_of_document-leaves_of_value-requires
leaves_of_document-leaves_of_value-requires t c =
    let below = value_smaller c.args.document.now c.loop-index.index c.in-Some._key.now c.in-Some.value.now (sym c.in-Some.ensures.pair) in
    let here = c.decreases in (omega arith, tt)
