use Rattle.std.proofs.Common.{◌≡◌, Some, map, length, ap, refl, sym, ◌∙◌}
use Rattle.std.proofs.lemmas.List.{length-map}
use Rattle.bson_model.specs.Tree.{items_in, trees, tree_of}
use Rattle.raw_bson.proofs.Converted.{items_in-trees}
use Rattle.raw_bson.proofs.conversions.owned_array.Goals as goal

pub returns : goal.returns
returns c =
    let vs = c.args.values.now in
    let a = c.in_ok-array_of.field-0 in
    let us = map tree_of vs in
    let count : a.count ≡ length (items_in (trees us)) = c.in_ok-array_of.ensures.count ∙ sym (length-map vs tree_of) ∙ ap length (sym (items_in-trees us)) in
    (a.bytes, c.in_ok-array_of.ensures.ok, refl, ap Some count)
