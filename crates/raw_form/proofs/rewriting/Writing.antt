-- What the loop of rewriting preserves, and what follows at its end.
use Rattle.std.proofs.Common.{Result, Ok, Err, IfErr, IsErrAnd, IsTrue, ◌⊎◌, ◌≡◌, ◌∙◌, ◌≤◌, ◌+◌, ◌++◌, ◌∷◌, [], inl, inr, ℕ, List, Option, None, Some, length, arith, ap, refl, sym, length-append, reverse}
use Rattle.std.proofs.lemmas.List.{reverse-append}
use Rattle.bson_model.specs.Tree.{no_entry}
use Rattle.raw_form.proofs.canonical.Common.{Begun, Error, FailsFor, HasCode, Holder, HoldsTrees, IsFormOf, IsLater, IsLeft, IsMemberOf, IsPlain, IsSingle, IsWriting, IsWrittenAs, Means, PutsMember, RawLevel, RawValue, Reads, ReadsAs, RefusesFormOf, StandsFor, TakesNext, Tree, begun_at, bytes_of, element_of, encoded_len, ended, ended_by, frame_of, header_len, held_opening, held_value, holding, Leaf, kind_of_leaf, kind_of_raw, kind_of_tree, leaf, leaf_in_order, leaf_payload, left_in, left_with, length-tree_payload, max_length, member_key, members, entries_len, one_value_of, opening, opening_len, room_left, tag_of, tagged, tree_payload, value, writing_ends, writing_inside, writing_leaf}
use Rattle.raw_form.specs.declared.rewritten.Rewritten.{Rewritten}
use Rattle.raw_view.specs.declared.element_type.ElementType.{ElementType}
use Rattle.raw_form.specs.declared.rewritten.Member.{Member}
use Rattle.raw_view.specs.Meaning as raw
use Rattle.raw_view.specs.declared.level.Holder.TheVariants as holder
use Rattle.raw_form.proofs.rewritten.Members.{plain_own, read_pairs, shows_leaf}

-- trees that values stand for

pub held_tree : (h : Holder) (d : List ℕ) (t : Tree) → StandsFor ReadsAs (holding h d) t
    → HoldsTrees t × (opening t ≡ held_opening h) × (kind_of_tree t ≡ kind_of_raw (holding h d))
held_tree holder.Document d t h = rw (read_pairs h).2 (tt, refl, refl)
held_tree holder.Array d t h = rw (read_pairs h).2 (tt, refl, refl)
held_tree (holder.Code code) d t h = rw h.2 (tt, refl, refl)

code_so : (t : Tree) (len : Option ℕ) (start : ℕ) (b : List ℕ) → HasCode t len → (ended t start b ≡ ended_by len start b) × (opening_len t ≡ header_len len)
code_so t len start b h = grind arith

opening_within : (t : Tree) → HoldsTrees t → length (opening t) + 1 ≤ encoded_len t
opening_within t h = grind (arith, length-append)

-- members

-- the meaning of the element stands for the tree that is written for it
pub value_stands : (m : Member) (t : Tree) → IsMemberOf m t → (v : RawValue) → Means (frame_of m.element) (value v) → StandsFor ReadsAs v t
value_stands m t ((w, says, stands), own) v means = rw (one_value_of (frame_of m.element) w v says means) at stands

-- the tree is written as the element was read
pub own_of : (m : Member) (t : Tree) → IsMemberOf m t → IsTrue m.is_known ⊎ IsPlain (frame_of m.element).kind → IsWrittenAs (frame_of m.element).kind (frame_of m.element).payload t
own_of m t (stands, own) (inl known) = own known t stands
own_of m t (stands, own) (inr plain) = plain_own (frame_of m.element) plain m.element.framed t stands

-- or as the leaf of a value that holds no level
pub leaf_of : (m : Member) (t : Tree) → IsMemberOf m t → (v : RawValue) → IsSingle v → Means (frame_of m.element) (value v)
    → (l : Leaf) × (v ≡ raw.single l) × IsWrittenAs (kind_of_leaf (leaf_in_order l)) (leaf_payload (leaf_in_order l)) t
leaf_of m t is v holds_none means =
    let (l, single) = shows_leaf v holds_none in
    let leaf_is : t ≡ leaf (leaf_in_order l) = rw single at (value_stands m t is v means) in
    (l, single, (ap tree_payload leaf_is, ap kind_of_tree leaf_is))

module _ (m : Member) (t : Tree) (k : ElementType) (key p : List ℕ) (key_is : key ≡ member_key m) (written : IsWrittenAs k p t) where
  pub put_as : (old new : List ℕ) → new ≡ old ++ element_of k key p → new ≡ old ++ element_of (kind_of_tree t) (member_key m) (tree_payload t)
  put_as old new e = rw (written.1, written.0, ← key_is) e

  -- too many bytes for its element
  pub fails_as : {A : Type 0} (r : Result A Error) (e : Error) (n : ℕ) → IsErrAnd r (λ x. x ≡ e) → FailsFor (n + (2 + length key + length p)) e
      → IfErr r (FailsFor (n + (2 + length (member_key m) + encoded_len t)))
  fails_as (Ok x) e n same fails = tt
  fails_as (Err x) e n same fails = rw (same, ← key_is, ← length-tree_payload t, written.0) fails

-- levels

-- the rest of the level is still to be written of the tree
pub record IsBegun (level : Rewritten) (x : Begun) : Type 0 where
  pub start_is : level.start ≡ x.start
  pub code : HasCode x.tree level.code_len
  pub left : IsLeft level.keys level.elements x.left

-- the same of each of these levels
abbrev pub AreBegun : List Rewritten → List Begun → Type 0
AreBegun [] xs = xs ≡ []
AreBegun (w ∷ ws) xs = (x : Begun) × (rest : List Begun) × (xs ≡ x ∷ rest) × IsBegun w x × AreBegun ws rest

-- the bytes are what was written so far of a tree of b
pub record IsRewriting (b : List ℕ) (ws : List Rewritten) (level : Rewritten) (out : List ℕ) : Type 0 where
  pub tree : Tree
  pub read : Reads b tree
  -- the waiting levels, the innermost first
  pub outer : List Begun
  pub here : Begun
  pub waits : AreBegun (reverse ws) outer
  pub begun : IsBegun level here
  pub writing : IsWriting tree (here ∷ outer) out

module _ {b : List ℕ} {ws : List Rewritten} {level : Rewritten} {out : List ℕ} (is : IsRewriting b ws level out) where
  pub room : length out + entries_len is.here.left + 1 + left_in is.outer ≤ encoded_len is.tree
  room = omega (arith, room_left is.tree (is.here ∷ is.outer) out is.writing)

  -- too many bytes for a document are too many for the tree
  pub refused : {A : Type 0} (r : Result A Error) (e : Error) (n : ℕ) → IsErrAnd r (λ x. x ≡ e) → FailsFor n e → n ≤ encoded_len is.tree → IfErr r (RefusesFormOf b)
  refused (Ok x) e n same fails within = tt
  refused (Err x) e n same (inl memory) within = rw same (inl memory)
  refused (Err x) e n same (inr long) within = rw same (inr (is.tree, is.read, (omega (arith, long.0, within), long.1, long.2)))

  -- no member is left
  module _ {new : Rewritten} (later : IsLater level new) where
    code_has : HasCode is.here.tree new.code_len
    code_has = rw later.code_is is.begun.code

    pub header_put : new.start + header_len new.code_len ≤ length out
    header_put = omega (arith, is.writing.makes.0, later.start_is, is.begun.start_is, (code_so is.here.tree new.code_len 0 [] code_has).1)

    module _ (none : is.here.left ≡ no_entry) (more : List ℕ) (e : more ≡ ended_by new.code_len new.start (out ++ 0 ∷ [])) where
      ended_is : more ≡ ended is.here.tree is.here.start (out ++ 0 ∷ [])
      ended_is = rw ((code_so is.here.tree new.code_len is.here.start (out ++ 0 ∷ []) code_has).0, ← is.begun.start_is, ← later.start_is) e

      pub rewriting_done : ws ≡ [] → length more ≤ max_length → IsFormOf b more
      rewriting_done none_waits fits =
          let whole : more ≡ tree_payload is.tree = ended_is ∙ (rw (rw none_waits at is.waits) at (writing_ends is.writing none)).makes in
          (is.tree, is.read, (omega (arith, fits, ap length whole, length-tree_payload is.tree), sym whole))

      pub rewriting_ends : (less : List Rewritten) (w : Rewritten) → ws ≡ less ++ w ∷ [] → IsRewriting b less w more
      rewriting_ends less w ws_are =
          let (x, rest, outer_is, begun, waits) = rw (ws_are, reverse-append less (w ∷ [])) at is.waits in
          let writing = rw outer_is at (writing_ends is.writing none) in
          record { tree = is.tree; read = is.read; outer = rest; here = x; waits = waits; begun = begun; writing = rw ended_is writing }

-- the next member of the level, which is after it now
pub record IsMember (b : List ℕ) (ws : List Rewritten) (out : List ℕ) (new : Rewritten) (m : Member) : Type 0 where
  pub level : Rewritten
  pub is : IsRewriting b ws level out
  pub later : IsLater level new
  pub next : TakesNext is.here.left (Some m) new.keys new.elements

module _ {b : List ℕ} {ws : List Rewritten} {out : List ℕ} {new : Rewritten} {m : Member} (member : IsMember b ws out new m) where
  open member use {is, next}

  pub of_tree : IsMemberOf m next.0
  of_tree = (next.3, next.5)

  passed_on : IsBegun new (left_with is.here next.1)
  passed_on = record { start_is = member.later.start_is ∙ is.begun.start_is; code = code_has is member.later; left = next.4 }

  pub put_fits : length out + (2 + length (member_key m) + encoded_len next.0) ≤ encoded_len is.tree
  put_fits =
      let len : entries_len is.here.left ≡ (2 + length (member_key m) + encoded_len next.0) + entries_len next.1 = rw next.2 refl in
      omega (arith, room is, len)

  -- the member is written as a whole
  pub rewriting_put : {held : Option RawLevel} → ((h : RawLevel) → held ≡ Some h → ⊥) → (more : List ℕ) → PutsMember m next.0 held out more → IsRewriting b ws new more
  rewriting_put {held = (Some h)} none more put = absurd (none h refl)
  rewriting_put {held = None} none more e =
      record { tree = is.tree; read = is.read; outer = is.outer; here = left_with is.here next.1; waits = is.waits; begun = passed_on; writing = rw e (writing_leaf is.writing next.2) }

  -- or the member holds a level
  module _ (h : RawLevel) (means : Means (frame_of m.element) (value (held_value h))) {head : List ℕ} (head_is : head ≡ out ++ tagged (tag_of (kind_of_raw (held_value h))) (member_key m) []) where
    pub stands : StandsFor ReadsAs (held_value h) next.0
    stands = value_stands m next.0 of_tree (held_value h) means

    made : HoldsTrees next.0 × (opening next.0 ≡ held_opening h.holder) × (kind_of_tree next.0 ≡ kind_of_raw (held_value h))
    made = held_tree h.holder (bytes_of h.document) next.0 stands

    pub inside_fits : length head + length (held_opening h.holder) ≤ encoded_len is.tree
    inside_fits =
        let head_len : length head ≡ length out + (2 + length (member_key m)) = rw head_is (grind (arith, length-append)) in
        omega (arith, put_fits, head_len, ap length made.1, opening_within next.0 made.0)

    pub rewriting_inside : (inner : Rewritten) (more : List ℕ) → inner.start ≡ length head → more ≡ head ++ held_opening h.holder
        → HasCode next.0 inner.code_len × IsLeft inner.keys inner.elements (members next.0) → IsRewriting b (ws ++ new ∷ []) inner more
    rewriting_inside inner more start_is more_is left =
        let begun : IsBegun inner (begun_at next.0 (length head)) = record { start_is = start_is; code = left.0; left = left.1 } in
        let opened : more ≡ head ++ opening next.0 = rw made.1 more_is in
        record {
          tree = is.tree;
          read = is.read;
          outer = left_with is.here next.1 ∷ is.outer;
          here = begun_at next.0 (length head);
          waits = rw (reverse-append ws (new ∷ [])) (left_with is.here next.1, is.outer, refl, passed_on, is.waits);
          begun = begun;
          writing = rw opened (writing_inside is.writing next.2 head made.0 (rw made.2 head_is));
        }
