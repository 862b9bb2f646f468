use Rattle.std.proofs.Common.{◌+◌, ◌++◌, ◌∷◌, [], arith, refl, length-append}
use Rattle.bsonraw_c.proofs.Putting.{joined}
use Rattle.bsonraw_c.proofs.build_bytes.put_head.Goals as goal

pub returns : goal.returns
returns c =
    let at = c.args.at in
    let key = c.args.key.now in
    joined at (at + 1) (c.args.tag ∷ []) (key ++ 0 ∷ []) c.args.room.now c.put_at.new.room c.put_c_text.new.room c.put_at.ensures c.put_c_text.ensures refl
    (omega (arith, c.requires, length-append key (0 ∷ [])))
