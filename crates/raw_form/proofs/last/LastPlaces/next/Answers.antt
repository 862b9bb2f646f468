use Rattle.std.proofs.Common.{refl}
use Rattle.raw_tree.proofs.Face.{item_at}
use Rattle.raw_form.proofs.last.Places.{member_taken}
use Rattle.raw_form.proofs.last.LastPlaces.next.Goals as goal

pub returns : goal.returns
returns c ms is =
    let item = rw c.deref.ensures.value at c.in_ok-place.ensures.lookup in
    member_taken c.args.self.now c.in_ok-place.field-0.now c.element_at.result _ ms is (item_at _ _ _ item.0 item.1) c.element_at.ensures refl
