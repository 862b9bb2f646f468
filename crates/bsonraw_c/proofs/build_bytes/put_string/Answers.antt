use Rattle.std.proofs.Common.{◌∙◌, ◌+◌, ◌++◌, ◌∷◌, [], List, ℕ, ap, arith, refl, length, length-append, pos}
use Rattle.raw_bson.specs.Number.{le32}
use Rattle.bsonraw_c.specs.Build.{put_bytes}
use Rattle.bsonraw_c.proofs.Putting.{put_more}
use Rattle.bsonraw_c.proofs.build_bytes.put_string.Goals as goal

pub returns : goal.returns
returns c =
    let head = le32 (pos (length c.args.text.now + 1)) in
    c.put_c_text.ensures
    ∙ ap (λ (x : List ℕ). put_bytes (c.args.at + 4) (c.args.text.now ++ 0 ∷ []) x) c.put_len.ensures
    ∙ put_more c.args.at (c.args.at + 4) head (c.args.text.now ++ 0 ∷ []) c.args.room.now refl (omega (arith, c.requires.room, length-append c.args.text.now (0 ∷ [])))
