use Rattle.std.proofs.Common.{◌∙◌, ◌+◌, ◌∷◌, [], List, ℕ, ap, arith, refl, length}
use Rattle.bsonraw_c.specs.Build.{put_bytes}
use Rattle.bsonraw_c.proofs.Putting.{put_more}
use Rattle.bsonraw_c.proofs.build_bytes.put_c_text.Goals as goal

pub returns : goal.returns
returns c =
    c.put_at-2.ensures
    ∙ ap (λ (x : List ℕ). put_bytes (c.args.at + length c.args.text.now) (0 ∷ []) x) c.put_at.ensures
    ∙ put_more c.args.at (c.args.at + length c.args.text.now) c.args.text.now (0 ∷ []) c.args.room.now refl (omega (arith, c.requires))
