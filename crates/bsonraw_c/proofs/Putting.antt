-- Bytes that are put into the room one after another.
use Rattle.std.proofs.Common.{◌≡◌, ◌≤◌, ◌+◌, ◌-◌, ℕ, List, ◌++◌, length, take, drop, ap, sym, ◌∙◌, refl, arith, append_assoc, length-append}
use Rattle.std.proofs.lemmas.List.{take_at, drop_at, drop-drop, length-take-le, length-drop}
use borrow.Rule.Slice.PartMut.{put_mid}
use Rattle.bsonraw_c.specs.Build.{put_bytes}

-- a part of the room that is written
pub put_part : (offset end : ℕ) (bytes room : List ℕ) → end ≡ offset + length bytes → put_mid offset (end - offset) room bytes ≡ put_bytes offset bytes room
unfolding put_bytes
put_part offset end bytes room e =
    let n : offset + (end - offset) ≡ offset + length bytes = omega arith in
    ap (λ (x : List ℕ). take offset room ++ (bytes ++ x)) (drop-drop (end - offset) offset room ∙ ap (λ (k : ℕ). drop k room) n)

-- the room keeps its length
pub length-put_bytes : (offset : ℕ) (bytes room : List ℕ) → offset + length bytes ≤ length room → length (put_bytes offset bytes room) ≡ length room
unfolding put_bytes
length-put_bytes offset bytes room h =
    omega (
      arith,
      h,
      length-append (take offset room) (bytes ++ drop (offset + length bytes) room),
      length-append bytes (drop (offset + length bytes) room),
      length-take-le offset room (omega arith),
      length-drop (offset + length bytes) room,
    )

-- what the room then begins with
pub take-put_bytes : (offset end : ℕ) (bytes room : List ℕ) → end ≡ offset + length bytes → offset + length bytes ≤ length room → take end (put_bytes offset bytes room) ≡ take offset room ++ bytes
unfolding put_bytes
take-put_bytes offset end bytes room e h =
    let front = take offset room ++ bytes in
    let n : length front ≡ end = omega (arith, e, length-append (take offset room) bytes, length-take-le offset room (omega arith)) in
    ap (λ (x : List ℕ). take end x) (sym (append_assoc (take offset room) bytes (drop (offset + length bytes) room))) ∙ take_at front (drop (offset + length bytes) room) end n

-- and what comes after them
pub drop-put_bytes : (offset end : ℕ) (bytes room : List ℕ) → offset + length bytes ≤ end → offset + length bytes ≤ length room → drop end (put_bytes offset bytes room) ≡ drop end room
unfolding put_bytes
drop-put_bytes offset end bytes room e h =
    let front = take offset room ++ bytes in
    let n : length front ≡ offset + length bytes = omega (arith, length-append (take offset room) bytes, length-take-le offset room (omega arith)) in
    let k : end ≡ (offset + length bytes) + (end - (offset + length bytes)) = omega arith in
    let whole : put_bytes offset bytes room ≡ front ++ drop (offset + length bytes) room = sym (append_assoc (take offset room) bytes (drop (offset + length bytes) room)) in
    ap (λ (x : List ℕ). drop end x) whole
    ∙ ap (λ (j : ℕ). drop j (front ++ drop (offset + length bytes) room)) k
    ∙ sym (drop-drop (end - (offset + length bytes)) (offset + length bytes) (front ++ drop (offset + length bytes) room))
    ∙ ap (λ (x : List ℕ). drop (end - (offset + length bytes)) x) (drop_at front (drop (offset + length bytes) room) (offset + length bytes) n)
    ∙ drop-drop (end - (offset + length bytes)) (offset + length bytes) room
    ∙ ap (λ (j : ℕ). drop j room) (sym k)

-- as it is
pub opened : (offset : ℕ) (bytes room : List ℕ) → put_bytes offset bytes room ≡ take offset room ++ (bytes ++ drop (offset + length bytes) room)
unfolding put_bytes
opened offset bytes room = refl

-- bytes after bytes
pub put_more : (offset next : ℕ) (x y room : List ℕ) → next ≡ offset + length x → offset + (length x + length y) ≤ length room
    → put_bytes next y (put_bytes offset x room) ≡ put_bytes offset (x ++ y) room
put_more offset next x y room e h =
    let first : put_bytes next y (put_bytes offset x room) ≡ take next (put_bytes offset x room) ++ (y ++ drop (next + length y) (put_bytes offset x room)) = opened next y (put_bytes offset x room) in
    let a : take next (put_bytes offset x room) ≡ take offset room ++ x = take-put_bytes offset next x room e (omega arith) in
    let b : drop (next + length y) (put_bytes offset x room) ≡ drop (next + length y) room = drop-put_bytes offset (next + length y) x room (omega arith) (omega arith) in
    let n : next + length y ≡ offset + length (x ++ y) = omega (arith, e, length-append x y) in
    first
    ∙ ap (λ (t : List ℕ). t ++ (y ++ drop (next + length y) (put_bytes offset x room))) a
    ∙ ap (λ (t : List ℕ). (take offset room ++ x) ++ (y ++ t)) (b ∙ ap (λ (k : ℕ). drop k room) n)
    ∙ append_assoc (take offset room) x (y ++ drop (offset + length (x ++ y)) room)
    ∙ ap (λ (t : List ℕ). take offset room ++ t) (sym (append_assoc x y (drop (offset + length (x ++ y)) room)))
    ∙ sym (opened offset (x ++ y) room)

-- the same of rooms by their names
pub joined : (offset next : ℕ) (x y room now after : List ℕ) → now ≡ put_bytes offset x room → after ≡ put_bytes next y now → next ≡ offset + length x
    → offset + (length x + length y) ≤ length room → after ≡ put_bytes offset (x ++ y) room
joined offset next x y room now after a b e h = b ∙ ap (λ (r : List ℕ). put_bytes next y r) a ∙ put_more offset next x y room e h
