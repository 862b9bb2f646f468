use Rattle.std.proofs.Common.{◌≡◌, ◌≢◌, ◌∙◌, ◌+◌, ◌≤◌, ◌++◌, ◌∷◌, [], List, ℕ, ap, sym, arith, refl, length, pos}
use Rattle.raw_bson.specs.Format.{inner_payload, plain_binary_payload}
use Rattle.raw_bson.specs.Number.{le32}
use Rattle.bsonraw_c.specs.Build.{binary_of, put_bytes}
use Rattle.bsonraw_c.proofs.Putting.{joined}
use Rattle.bsonraw_c.proofs.build_parts.put_binary.Goals as goal

old : (subtype : ℕ) (bytes : List ℕ) → subtype ≡ 2 → binary_of subtype bytes ≡ plain_binary_payload 2 (inner_payload bytes)
old subtype bytes e = ap (λ (n : ℕ). binary_of n bytes) e

other : (subtype : ℕ) (bytes : List ℕ) → subtype ≢ 2 → binary_of subtype bytes ≡ plain_binary_payload subtype bytes
other subtype bytes e = grind arith

pub returns-then-subtype-eq2 : goal.returns-then-subtype-eq2
returns-then-subtype-eq2 c =
    let at = c.args.at in
    let bytes = c.args.bytes.now in
    let room = c.args.room.now in
    let n = length bytes in
    let is = old c.args.subtype bytes c.if-subtype-eq2.true in
    let fits : at + (9 + n) ≤ length room = omega (arith, c.requires.room, ap length is) in
    let a = joined at (at + 4) (le32 (pos (n + 4))) (2 ∷ []) room c.put_len.new.room c.put_at.new.room c.put_len.ensures c.put_at.ensures refl (omega (arith, fits)) in
    let b = joined at (at + 5) (le32 (pos (n + 4)) ++ 2 ∷ [])
    (le32 (pos n)) room c.put_at.new.room c.put_len-then-subtype-eq2.new.room a c.put_len-then-subtype-eq2.ensures refl (omega (arith, fits)) in
    let d = joined at (at + 9) ((le32 (pos (n + 4)) ++ 2 ∷ []) ++ le32 (pos n)) bytes room c.put_len-then-subtype-eq2.new.room
    c.put_at-then-subtype-eq2.new.room b c.put_at-then-subtype-eq2.ensures refl (omega (arith, fits)) in
    let head : n + 4 ≡ length (inner_payload bytes) = omega arith in
    d ∙ ap (λ (k : ℕ). put_bytes at (((le32 (pos k) ++ 2 ∷ []) ++ le32 (pos n)) ++ bytes) room) head ∙ ap (λ (x : List ℕ). put_bytes at x room) (sym is)

pub returns-else-subtype-eq2 : goal.returns-else-subtype-eq2
returns-else-subtype-eq2 c =
    let at = c.args.at in
    let bytes = c.args.bytes.now in
    let room = c.args.room.now in
    let n = length bytes in
    let is = other c.args.subtype bytes c.if-subtype-eq2.false in
    let fits : at + (5 + n) ≤ length room = omega (arith, c.requires.room, ap length is) in
    let a = joined at (at + 4) (le32 (pos n)) (c.args.subtype ∷ []) room c.put_len-else-subtype-eq2.new.room c.put_at-else-subtype-eq2.new.room
    c.put_len-else-subtype-eq2.ensures c.put_at-else-subtype-eq2.ensures refl (omega (arith, fits)) in
    let b = joined at (at + 5) (le32 (pos n) ++ c.args.subtype ∷ []) bytes room c.put_at-else-subtype-eq2.new.room c.put_at-else-subtype-eq2-2.new.room a
    c.put_at-else-subtype-eq2-2.ensures refl (omega (arith, fits)) in
    b ∙ ap (λ (x : List ℕ). put_bytes at x room) (sym is)
