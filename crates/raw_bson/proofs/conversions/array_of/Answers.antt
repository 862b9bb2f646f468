use Rattle.std.proofs.Common.{arith, map}
use Rattle.std.proofs.lemmas.List.{length-map}
use Rattle.bson_model.specs.Tree.{tree_of}
use Rattle.raw_bson.proofs.Converted.{count_fits}
use Rattle.raw_bson.proofs.conversions.array_of.Goals as goal

pub counted-requires : goal.counted-requires
counted-requires c =
    let fits = count_fits (map tree_of c.args.values.now) c.in_ok-document.document (rw c.in_ok-document.ensures.same c.in_ok-bytes.ensures.ok) in
    omega (arith, fits, length-map c.args.values.now tree_of)
