use Rattle.std.proofs.Common.{◌≡◌, ◌+◌, ◌-◌, ◌++◌, ◌∷◌, [], ℕ, ap, arith, pos, subst, sym, length, take, vec_len}
use Rattle.bson_model.specs.Bytes.{AreBytes}
use Rattle.bson_model.proofs.Face.{AreBytes-from_elements}
use Rattle.raw_view.specs.Frame.ElementSteps.{frame_of}
use Rattle.raw_view.specs.Frame.Envelope.{IsEnvelope}
use Rattle.raw_view.proofs.Face.{stands_anywhere}
use Rattle.raw_bson.specs.Append.{frame_bytes, appended_bytes, HasRoom}
use Rattle.raw_bson.proofs.Appended.{written_is_appended, written_len}
use Rattle.raw_bson.proofs.KeptWalks.{length-appended_bytes, appended_is_envelope, keeps_walk}
use Rattle.raw_bson.proofs.appending.append_raw_element.Goals as goal

grown : (c : goal.After-set_len) → vec_len c.put_raw_at_end.new.bytes - 0 ≡ length c.args.bytes.now.items + (length c.args.element.key.now + (2 + length c.args.element.payload.now))
grown c =
    let b = c.args.bytes.now.items in
    let items : c.put_raw_at_end.new.bytes.items ≡ take (length b - 1) b ++ (frame_bytes (frame_of c.args.element) ++ 0 ∷ []) = rw c.make_room.ensures.same at c.put_raw_at_end.ensures.items in
    omega (arith, ap length items, written_len b (frame_of c.args.element) c.requires.enough)

written : (c : goal.After-set_len) → c.set_len.new.out.items ≡ appended_bytes c.args.bytes.now.items (frame_of c.args.element)
written c =
    let whole = ap (λ (n : ℕ). pos n) (grown c) in
    rw (c.set_len.ensures.items, c.put_raw_at_end.ensures.items, c.make_room.ensures.same)
    (written_is_appended c.args.bytes.now.items (frame_of c.args.element) (pos (vec_len c.put_raw_at_end.new.bytes - 0)) c.requires.enough whole)

has_room : (c : goal.After-set_len) → HasRoom c.args.bytes.now.items (frame_of c.args.element)
has_room c =
    let fits = c.in_ok-make_room.ensures.fits in
    omega (arith, length-appended_bytes c.args.bytes.now.items (frame_of c.args.element) c.requires.enough, fits, ap length c.payload.ensures, ap length c.key.ensures, c.saturating_add-len.ensures)

pub returns-clause-walk : goal.returns-clause-walk
returns-clause-walk c = λ long.
    let stands = stands_anywhere (frame_of c.args.element) c.args.element.named (rw c.key.ensures at c.key.utf8) c.args.element.framed long in
    rw (written c) (keeps_walk c.args.bytes.now.items (frame_of c.args.element) c.requires stands)

pub returns-clause-envelope : goal.returns-clause-envelope
returns-clause-envelope c =
    let bytes = subst AreBytes (written c) (AreBytes-from_elements c.set_len.new.out.items c.type_inv.bytes) in
    subst IsEnvelope (sym (written c)) (appended_is_envelope c.args.bytes.now.items (frame_of c.args.element) bytes (has_room c))
