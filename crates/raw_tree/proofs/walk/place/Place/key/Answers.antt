use Rattle.std.proofs.Common.{◌≡◌, ◌-◌, List, Some, length, sym, subst, slice_get}
use Rattle.raw_tree.proofs.walk.Common.{PathStep}
use Rattle.raw_tree.proofs.walk.Rooms.{last_at}
use Rattle.raw_tree.proofs.walk.place.Place.key.Goals as goal

pub returns : goal.returns
returns c =
    let p = c.in_ok-last.field-0.now in
    let there = subst (λ (items : List PathStep). Some p ≡ slice_get items (length items - 1)) c.deref.ensures.value c.in_ok-last.ensures.value in
    sym (last_at c.args.self.now.path.items p (sym there))
