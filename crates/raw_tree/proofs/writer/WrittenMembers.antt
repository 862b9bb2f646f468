-- A container is written member by member. What is written so far, with what the remaining members will add and with the lengths that will
-- be set, is its payload.
use Rattle.std.proofs.Common.{◌≡◌, ◌≤◌, ◌-◌, ℕ, ◌+◌, List, [], ◌∷◌, ◌++◌, length, take, drop, pos, refl, ap, ◌∙◌, append_assoc, length-append, length-take, length-drop, arith, Result, Err, IfErr, Vec, Global}
use Rattle.raw_tree.proofs.Common.{take-append_seam, drop-append-add, Tree, Entries, no_entry, entry_then, IsNulFree, IsOutOfMemory, Error, string_payload, element_of, tagged, framed, scoped_payload}
use Rattle.raw_tree.proofs.Common.{tag_of, max_length, le32, kind_of_tree, tree_payload, entries_bytes, encoded_len, entries_len, IsRefused, unset, members, tree_of_container, opening, opening_len}
use Rattle.raw_tree.proofs.Common.{with_len, ended, Begun, begun_at, begun_of, members_start, members_left, HoldsTrees, Container, Payload}
use Rattle.raw_tree.proofs.writer.MemberSteps.{items_bytes-numbered}
use Rattle.raw_tree.proofs.writer.Encodings.{length-tree_payload, length-entries_bytes}

-- a payload

set_head : (before body : List ℕ) → with_len (length before) (before ++ 0 ∷ 0 ∷ 0 ∷ 0 ∷ body) ≡ before ++ (le32 (pos (4 + length body)) ++ body)
set_head before body =
    let len : length (before ++ 0 ∷ 0 ∷ 0 ∷ 0 ∷ body) - length before ≡ 4 + length body = omega (arith, length-append before (0 ∷ 0 ∷ 0 ∷ 0 ∷ body)) in
    rw (len, take-append_seam before (0 ∷ 0 ∷ 0 ∷ 0 ∷ body), drop-append-add before (0 ∷ 0 ∷ 0 ∷ 0 ∷ body) 4) refl

framed_at : (before inside : List ℕ) → with_len (length before) ((before ++ unset) ++ (inside ++ 0 ∷ [])) ≡ before ++ framed inside
framed_at before inside = rw (append_assoc before unset (inside ++ 0 ∷ [])) (set_head before (inside ++ 0 ∷ []))

scoped_at : (before code inside : List ℕ) → with_len (length before)
    (with_len (length before + 9 + length code) ((before ++ (unset ++ string_payload code ++ unset)) ++ (inside ++ 0 ∷ []))) ≡ before
    ++ scoped_payload code (framed inside)
scoped_at before code inside =
    let text = string_payload code in
    let head = before ++ (unset ++ text) in
    let start : length before + 9 + length code ≡ length head = omega (arith, length-append before (unset ++ text), length-append code (0 ∷ [])) in
    let same : (before ++ (unset ++ text ++ unset)) ++ (inside ++ 0 ∷ []) ≡ (head ++ unset) ++ (inside ++ 0 ∷ []) = simp append_assoc in
    let whole : head ++ framed inside ≡ before ++ 0 ∷ 0 ∷ 0 ∷ 0 ∷ (text ++ framed inside) = simp append_assoc in
    rw (start, same, framed_at head inside, whole) (set_head before (text ++ framed inside))

-- the opening of a tree that holds others, its elements and its end are its payload once the lengths are set
payload_ended : (t : Tree) (before : List ℕ) → HoldsTrees t → ended t (length before) ((before ++ opening t) ++ (entries_bytes (members t) ++ 0 ∷ [])) ≡ before ++ tree_payload t
payload_ended t before h = grind (arith, framed_at, items_bytes-numbered, scoped_at)

length-opening : (t : Tree) → length (opening t) ≡ opening_len t
length-opening t = grind (arith, length-append)

-- levels

-- the bytes once the remaining members are written and the level is ended
abbrev complete : Begun → List ℕ → List ℕ
complete level out = ended level.tree level.start (out ++ (entries_bytes level.left ++ 0 ∷ []))

-- these levels, the innermost first, will make the payload of the tree of the bytes
abbrev pub WillMake : Tree → List Begun → List ℕ → Type 0
WillMake t [] out = out ≡ tree_payload t
WillMake t (level ∷ levels) out = (members_start level ≤ length out) × WillMake t levels (complete level out)

-- so the bytes are what was written of the tree so far
pub record IsWriting (t : Tree) (levels : List Begun) (out : List ℕ) : Type 0 where
  pub makes : WillMake t levels out

-- what the levels will add
abbrev pub left_in : List Begun → ℕ
left_in [] = 0
left_in (level ∷ levels) = entries_len level.left + 1 + left_in levels

-- no byte is lost
length-with_len : (start : ℕ) (b : List ℕ) → length b ≤ length (with_len start b)
length-with_len start b =
    omega (arith, length-append (take start b) (le32 (pos (length b - start)) ++ drop (start + 4) b), length-take start b, length-drop (start + 4) b)

length-complete : (level : Begun) (out : List ℕ) → length out + entries_len level.left + 1 ≤ length (complete level out)
length-complete level out = grind (arith, length-append, length-with_len, length-entries_bytes)

-- there is room for what remains
pub room_left : (t : Tree) (levels : List Begun) (out : List ℕ) → IsWriting t levels out → length out + left_in levels ≤ encoded_len t
room_left t [] out is = omega (arith, ap length is.makes, length-tree_payload t)
room_left t (level ∷ levels) out is = omega (arith, room_left t levels (complete level out) (record { makes = is.makes.1 }), length-complete level out)

pub writing_begins : (t : Tree) (out : List ℕ) → HoldsTrees t → out ≡ opening t → IsWriting t (begun_at t 0 ∷ []) out
writing_begins t out h o = record { makes = rw o (omega (arith, length-opening t), payload_ended t [] h) }

-- the level with these members left
abbrev pub left_with : Begun → Entries → Begun
left_with x left = record { tree = x.tree; start = x.start; left = left }

module _ {t : Tree} {levels : List Begun} {level : Begun} {out : List ℕ} (is : IsWriting t (level ∷ levels) out) where
  -- no member remains: the level is ended
  pub writing_ends : level.left ≡ no_entry → IsWriting t levels (ended level.tree level.start (out ++ 0 ∷ []))
  writing_ends none = record { makes = rw none at is.makes.1 }

  -- a member is passed
  module _ {key : List ℕ} {m : Tree} {left : Entries} (step : level.left ≡ entry_then key m left) where
    passed : complete level out ≡ complete (left_with level left) (out ++ element_of (kind_of_tree m) key (tree_payload m))
    passed = rw (step, append_assoc out (element_of (kind_of_tree m) key (tree_payload m)) (entries_bytes left ++ 0 ∷ [])) (simp append_assoc)

    -- the member is written
    pub writing_leaf : IsWriting t (left_with level left ∷ levels) (out ++ element_of (kind_of_tree m) key (tree_payload m))
    writing_leaf = record { makes = (omega (arith, is.makes.0, length-append out (element_of (kind_of_tree m) key (tree_payload m))), rw passed at is.makes.1) }

    -- or it waits for its own members
    pub writing_inside : (head : List ℕ) → HoldsTrees m → head ≡ out ++ tagged (tag_of (kind_of_tree m)) key []
        → IsWriting t (begun_at m (length head) ∷ left_with level left ∷ levels) (head ++ opening m)
    writing_inside head holds h =
        let element : head ++ tree_payload m ≡ out ++ element_of (kind_of_tree m) key (tree_payload m) = rw h (simp append_assoc) in
        let begun : complete (begun_at m (length head)) (head ++ opening m) ≡ out ++ element_of (kind_of_tree m) key (tree_payload m) = payload_ended m head holds ∙ element in
        record { makes = (omega (arith, length-append head (opening m), length-opening m), rw begun writing_leaf.makes) }

-- a level of the writer that begins
pub begins : (c : Container) (level : Payload) (start : ℕ) → level.members.container ≡ c → members_left level.members ≡ members (tree_of_container c)
    → level.start ≡ start → begun_of level ≡ begun_at (tree_of_container c) start
begins c level start k l s = λ i. record { tree = tree_of_container (k i); start = s i; left = l i }

-- if a tree that may be written fails, memory ran out
pub refused_memory : (t : Tree) (result : Result (Vec ℕ Global) Error) (e : Error) → result ≡ Err e → IsOutOfMemory e → IsNulFree t → encoded_len t ≤ max_length → IfErr result (IsRefused t)
refused_memory t result e is memory free fits = grind arith
