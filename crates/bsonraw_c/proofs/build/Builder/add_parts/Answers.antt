use Rattle.std.proofs.Common.{◌≡◌, ◌+◌, ◌++◌, ◌∷◌, [], ℕ, ap, ◌∙◌, arith, length}
use Rattle.raw_bson.specs.Frame.{Frame}
use Rattle.bsonraw_c.specs.Build.{put_bytes}
use Rattle.bsonraw_c.specs.BuildParts.{frame_of_parts}
use Rattle.bsonraw_c.proofs.Claiming.{claimed}
use Rattle.bsonraw_c.proofs.build.Builder.add_parts.Goals as goal

pub returns-in-Some : goal.returns-in-Some
returns-in-Some c =
    let at = c.in-Some.at in
    let key = c.args.key.now in
    let f : Frame = frame_of_parts key c.args.parts in
    let claims = c.in-Some.ensures in
    let size = c.saturating_add-size.result in
    let exact : size ≡ 2 + (length key + length f.payload) = omega (arith, claims.0, c.len.ensures, c.saturating_add.ensures, c.saturating_add-size.ensures) in
    let tag = ap (λ (t : ℕ). put_bytes at (t ∷ (key ++ 0 ∷ [])) c.args.room.now) c.to_tag.ensures in
    claimed f size at c.args.self.now c.claim.new.self c.args.room.now c.put_head.new.room c.put_payload.new.room claims exact (c.put_head.ensures ∙ tag) c.put_payload.ensures
