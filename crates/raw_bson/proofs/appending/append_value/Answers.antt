use Rattle.std.proofs.Common.{◌≡◌, ◌≤◌, ◌+◌, ◌-◌, ◌++◌, ◌∷◌, [], ℕ, ap, arith, pos, rules, subst, sym, length, take, vec_len}
use Rattle.bson_model.specs.Bytes.{AreBytes}
use Rattle.bson_model.proofs.Face.{AreBytes-from_elements}
use Rattle.raw_tree.specs.Payload.{payload_of}
use Rattle.raw_view.specs.Frame.Envelope.{IsEnvelope}
use Rattle.raw_view.specs.Frame.Number.{max_length}
use Rattle.raw_view.specs.Meaning.Value.{value_of}
use Rattle.raw_bson.specs.Append.{frame_bytes, value_frame, appended_bytes, HasRoom, IsNulFreeElement}
use Rattle.raw_bson.proofs.Appended.{written_is_appended, written_len}
use Rattle.raw_bson.proofs.KeptWalks.{length-appended_bytes, appended_is_envelope, value_stands, keeps_walk}
use Rattle.raw_bson.proofs.HeldFrames.{adds_value}
use Rattle.raw_bson.proofs.appending.append_value.Goals as goal

grown : (c : goal.After-set_len) → vec_len c.put_at_end.new.bytes - 0 ≡ length c.args.bytes.now.items + (length c.args.key.now + (2 + length (payload_of (value_of c.args.value))))
grown c =
    let b = c.args.bytes.now.items in
    let items : c.put_at_end.new.bytes.items ≡ take (length b - 1) b ++ (frame_bytes (value_frame c.args.key.now (value_of c.args.value)) ++ 0 ∷ []) =
    rw c.make_room.ensures.same at c.put_at_end.ensures.items in
    omega (arith, ap length items, written_len b (value_frame c.args.key.now (value_of c.args.value)) c.requires.enough)

written : (c : goal.After-set_len) → c.set_len.new.out.items ≡ appended_bytes c.args.bytes.now.items (value_frame c.args.key.now (value_of c.args.value))
written c =
    let whole = ap (λ (n : ℕ). pos n) (grown c) in
    rw (c.set_len.ensures.items, c.put_at_end.ensures.items, c.make_room.ensures.same)
    (written_is_appended c.args.bytes.now.items (value_frame c.args.key.now (value_of c.args.value))
    (pos (vec_len c.put_at_end.new.bytes - 0)) c.requires.enough whole)

has_room : (c : goal.After-set_len) → HasRoom c.args.bytes.now.items (value_frame c.args.key.now (value_of c.args.value))
has_room c =
    let fits = c.in_ok-make_room.ensures.fits in
    omega (arith, length-appended_bytes c.args.bytes.now.items (value_frame c.args.key.now (value_of c.args.value)) c.requires.enough, fits, c.payload_len.ensures, c.saturating_add.ensures)

payload_fits : (c : goal.After-set_len) → length (payload_of (value_of c.args.value)) ≤ max_length
payload_fits c = omega (arith, has_room c, length-appended_bytes c.args.bytes.now.items (value_frame c.args.key.now (value_of c.args.value)) c.requires.enough)

pub returns-clause-walk : goal.returns-clause-walk
returns-clause-walk c =
    let stands = value_stands c.args.key.now (value_of c.args.value) c.utf8.key (search rules) c.put_at_end.ensures.in_range (payload_fits c) in
    rw (written c) (keeps_walk c.args.bytes.now.items (value_frame c.args.key.now (value_of c.args.value)) c.requires stands)

pub returns-clause-adds : goal.returns-clause-adds
returns-clause-adds c =
    let nul_free : IsNulFreeElement c.args.key.now (value_of c.args.value) = search rules in
    adds_value c.args.bytes.now.items c.args.key.now (value_of c.args.value) c.set_len.new.out.items c.put_at_end.ensures.in_range nul_free.1 (payload_fits c) (returns-clause-walk c)

pub returns-clause-envelope : goal.returns-clause-envelope
returns-clause-envelope c =
    let bytes = subst AreBytes (written c) (AreBytes-from_elements c.set_len.new.out.items c.type_inv.bytes) in
    subst IsEnvelope (sym (written c)) (appended_is_envelope c.args.bytes.now.items (value_frame c.args.key.now (value_of c.args.value)) bytes (has_room c))
