use Rattle.std.proofs.Common.{◌∙◌, ◌-◌, ◌+◌, ℕ, List, ap, refl, length}
use borrow.Rule.Slice.PartMut.{put_mid}
use Rattle.bsonraw_c.proofs.Putting.{put_part}
use Rattle.bsonraw_c.proofs.build_bytes.put_at.Goals as goal

pub returns : goal.returns
returns c =
    let at = c.args.at in
    let end = at + length c.args.bytes.now in
    ap (λ (x : List ℕ). put_mid at (end - at) c.args.room.now x) c.copy_from_slice.ensures.after ∙ put_part at end c.args.bytes.now c.args.room.now refl
