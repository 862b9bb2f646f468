use Rattle.std.proofs.Common.{◌≡◌, ◌∙◌, ◌+◌, ◌≤◌, ◌++◌, ◌∷◌, [], List, ℕ, ap, sym, arith, refl, length, length-append, append_assoc, pos}
use Rattle.raw_bson.specs.Format.{string_payload}
use Rattle.raw_bson.specs.Number.{le32}
use Rattle.bsonraw_c.specs.Build.{laid_out, put_bytes}
use Rattle.bsonraw_c.specs.declared.build_parts.Layout.{Layout}
use Rattle.bsonraw_c.proofs.Putting.{joined}
use Rattle.bsonraw_c.proofs.build_parts.Parts.put_payload.Goals as goal

pub returns-in-Regex : goal.returns-in-Regex
returns-in-Regex c =
    let at = c.args.at in
    let one = c.args.self.now.one.now in
    let two = c.args.self.now.two.now in
    let room = c.args.room.now in
    let is = ap (λ (l : Layout). laid_out l one two) c.in-Regex.is in
    let fits : at + ((length one + 1) + (length two + 1)) ≤ length room =
    omega (arith, c.requires.room, ap length is, length-append one (0 ∷ (two ++ 0 ∷ [])), length-append one (0 ∷ []), length-append two (0 ∷ [])) in
    let a = joined at (at + length one + 1) (one ++ 0 ∷ [])
    (two ++ 0 ∷ []) room c.put_c_text.new.room c.put_c_text-in-Regex.new.room c.put_c_text.ensures c.put_c_text-in-Regex.ensures
    (omega (arith, length-append one (0 ∷ (two ++ 0 ∷ [])), length-append one (0 ∷ []), length-append two (0 ∷ [])))
    (omega (arith, fits, length-append one (0 ∷ (two ++ 0 ∷ [])), length-append one (0 ∷ []), length-append two (0 ∷ []))) in
    a ∙ ap (λ (x : List ℕ). put_bytes at x room) (append_assoc one (0 ∷ []) (two ++ 0 ∷ []) ∙ sym is)

pub returns-in-Pointer : goal.returns-in-Pointer
returns-in-Pointer c =
    let at = c.args.at in
    let one = c.args.self.now.one.now in
    let two = c.args.self.now.two.now in
    let room = c.args.room.now in
    let is = ap (λ (l : Layout). laid_out l one two) c.in-Pointer.is in
    let fits : at + ((length one + 5) + length two) ≤ length room = omega (arith, c.requires.room, ap length is, length-append (string_payload one) two, length-append one (0 ∷ [])) in
    let a = joined at (at + length one + 5) (string_payload one) two room c.put_string-in-Pointer.new.room c.put_at-in-Pointer.new.room
    c.put_string-in-Pointer.ensures c.put_at-in-Pointer.ensures (omega (arith, length-append (string_payload one) two, length-append one (0 ∷ [])))
    (omega (arith, fits, length-append (string_payload one) two, length-append one (0 ∷ []))) in
    a ∙ ap (λ (x : List ℕ). put_bytes at x room) (sym is)

pub returns-in-Scoped : goal.returns-in-Scoped
returns-in-Scoped c =
    let at = c.args.at in
    let one = c.args.self.now.one.now in
    let two = c.args.self.now.two.now in
    let room = c.args.room.now in
    let is = ap (λ (l : Layout). laid_out l one two) c.in-Scoped.is in
    let total = 4 + (length one + 5 + length two) in
    let whole : total ≡ 4 + length (string_payload one ++ two) = omega (arith, length-append (string_payload one) two, length-append one (0 ∷ [])) in
    let fits : at + (4 + ((length one + 5) + length two)) ≤ length room = omega (arith, c.requires.room, ap length is, length-append (string_payload one) two, length-append one (0 ∷ [])) in
    let a = joined at (at + 4) (le32 (pos total)) (string_payload one) room c.put_len.new.room c.put_string-in-Scoped.new.room c.put_len.ensures
    c.put_string-in-Scoped.ensures refl (omega (arith, fits, length-append (string_payload one) two, length-append one (0 ∷ []))) in
    let b = joined at (at + length one + 9) (le32 (pos total) ++ string_payload one) two room c.put_string-in-Scoped.new.room c.put_at-in-Scoped.new.room a
    c.put_at-in-Scoped.ensures (omega (arith, length-append (string_payload one) two, length-append one (0 ∷ [])))
    (omega (arith, fits, length-append (string_payload one) two, length-append one (0 ∷ []))) in
    b ∙ ap (λ (n : ℕ). put_bytes at ((le32 (pos n) ++ string_payload one) ++ two) room) whole ∙ ap (λ (x : List ℕ). put_bytes at x room) (sym is)
