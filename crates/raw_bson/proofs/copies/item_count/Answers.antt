use Rattle.std.proofs.Common.{◌∙◌, drop, subst}
use Rattle.raw_view.specs.Frame.{IsWalk}
use Rattle.raw_view.specs.Meaning.Value.{array_bytes_of}
use Rattle.bson_model.proofs.Face.{AreBytes-drop}
use Rattle.raw_view.proofs.Face.{the_items}
use Rattle.raw_bson.proofs.Counts.{items_listed}
use Rattle.raw_bson.proofs.copies.item_count.Goals as goal

pub returns-clause-items : goal.returns-clause-items
returns-clause-items c =
    let run = c.count.ensures.ran in
    let walk = c.iter_elements.ensures.walk run.0 run.1 in
    let items = items_listed _ run.0 walk.0 walk.1 (AreBytes-drop 4 _ c.as_doc.result.envelope.bytes) walk.2.0 walk.3 in
    (items.0, the_items (array_bytes_of c.args.array) items.0 (walk.0, walk.1, subst (λ b. IsWalk (drop 4 b) walk.0 walk.1) c.as_doc.ensures walk.2.0, items.1), run.2 ∙ items.2)
