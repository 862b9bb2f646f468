-- What is printed of canonical bytes that are read as a tree: each value of the tree, level by level.
use Rattle.std.proofs.Common.{◌≡◌, ℕ, zero, suc, Bool, true, false, List, [], ◌∷◌, ◌++◌, codes, map, drop, refl, sym, ap, subst, ◌∙◌}
use Rattle.std.specs.List.{IsDistinct}
use Rattle.std.specs.Str.{bytes_eq}
use Rattle.json.specs.Json.{Json, Items, Members, no_items, item, no_members, member}
use Rattle.json.specs.Json as json
use Rattle.bson_model.proofs.Face.{AreBytes-drop, keep-distinct}
use Rattle.bson_model.specs.Bytes.{AreBytes}
use Rattle.bson_model.specs.Leaf.{Leaf}
use Rattle.bson_model.specs.Pairs.{keep, keys_of}
use Rattle.bson_model.specs.Proper.{keys_in}
use Rattle.bson_model.specs.Tree.{Tree, Trees, Entries, leaf, array, document, no_tree, tree_then, no_entry, entry_then, trees, entries}
use Rattle.raw_view.proofs.Face.{AreBytes-rest, one_walk}
use Rattle.raw_view.specs.Frame.Envelope.{IsEnvelope}
use Rattle.raw_view.specs.Frame.{Frame, IsWalk, Done}
use Rattle.raw_view.specs.Meaning.{RawValue}
use Rattle.raw_view.specs.Meaning as raw
use Rattle.raw_tree.proofs.Face.{one_value_of}
use Rattle.raw_tree.specs.Canonical.{AreFramesCanonical, AreKeysCanonical, IsCanonicalUpTo, IsValueCanonical}
use Rattle.raw_tree.specs.Reading.{Sort, as_document, as_array, ReadsUpTo, StandForEach, StandsFor, tree_of_pairs}
use Rattle.bson_to_json.specs.Json.{AreMembersJson, IsJsonUpTo, IsValueJson, before_scope}
use Rattle.bson_to_json.specs.declared.style.Layout.{Layout}
use Rattle.json_round_trip.specs.Closing.{canonical_in}
use Rattle.json_round_trip.specs.Printed.{IsReturningLeaf, LeafIsPrinted}
use Rattle.json_round_trip.specs.Returning.{ComesBack, DocumentComesBack, HasNoWrapperKey, ItemsComeBack, MembersComeBack}
use Rattle.json_round_trip.proofs.Framed.{IsFramed, enveloped, framed, sound}
use Rattle.json_round_trip.proofs.Says.{AreItemsPrinted, AreMembersPrinted, IsObjectPrinted, IsPrinted, array_printed, document_printed, item_printed, leaf_printed, member_printed, no_item_printed, no_member_printed, object_printed, scoped_printed}
use Rattle.json_round_trip.proofs.Structure.{scoped_json}

-- the trees of pairs, as those of an array
abbrev trees_in : List (List ℕ × Tree) → Trees
trees_in pairs = trees (map (λ p. p.1) pairs)

-- the whole of a document or a scope
abbrev pub IsWholePrinted : Tree → List ℕ → Type 0
IsWholePrinted (document es) text = (ms : Members) × IsObjectPrinted es text ms
IsWholePrinted _ text = ⊥

module _ (Nested : Sort → List ℕ → List ℕ → Type 0) (Reading : Sort → List ℕ → Tree → Type 0) (Canon : Sort → List ℕ → Type 0) where
  -- bytes with an envelope, which are canonical, their text and their tree
  pub record IsLevel (sort : Sort) (d text : List ℕ) (t : Tree) : Type 0 where
    pub envelope : IsEnvelope d
    pub shown : Nested sort d text
    pub read : Reading sort d t
    pub canonical : Canon sort d

  -- a level in this layout, inside `depth` levels; and what is printed of all bytes nested in it
  pub record Inside (layout : Layout) (depth : ℕ) : Type 0 where
    pub documents : (d text : List ℕ) (t : Tree) → IsLevel as_document d text t → DocumentComesBack t → IsWholePrinted t text
    pub document_trees : (d : List ℕ) (t : Tree) → Reading as_document d t → (es : Entries) × (t ≡ document es)
    pub arrays : (d text : List ℕ) (t : Tree) → IsLevel as_array d text t → ComesBack t → (j : Json) × IsPrinted t text j
    pub leaves : (l : Leaf) → LeafIsPrinted l

-- within a level
module _ {layout : Layout} {depth : ℕ} {Nested : Sort → List ℕ → List ℕ → Type 0} {Reading : Sort → List ℕ → Tree → Type 0} {Canon : Sort → List ℕ → Type 0}
    (inside : Inside Nested Reading Canon layout depth) where
  value_printed : (f : Frame) (v : RawValue) (text : List ℕ) (t : Tree) → IsFramed f v → IsValueJson (canonical_in layout) depth Nested v text → StandsFor Reading v t → IsValueCanonical Canon v
      → ComesBack t → (j : Json) × IsPrinted t text j
  value_printed f (raw.single l) text t at shown stands canonical back =
      let whole = sound f l at in
      let is : t ≡ leaf l = stands ∙ ap leaf (whole.2 canonical) in
      let returning : IsReturningLeaf l = record { in_range = whole.0; nul_free = whole.3; options_ascend = canonical; subtype_proper = whole.1; comes_back = subst ComesBack is back } in
      let found = inside.leaves l returning text shown in
      (found.0, subst (λ (x : Tree). IsPrinted x text found.0) (sym is) (leaf_printed l text found.0 found.1))
  value_printed f (raw.document d) text t at shown stands canonical back =
      let made = inside.document_trees d t stands in
      let returning : HasNoWrapperKey (keys_in made.0) × MembersComeBack made.0 = subst ComesBack made.1 back in
      let read = subst (Reading as_document d) made.1 stands in
      let level : IsLevel Nested Reading Canon as_document d text (document made.0) =
      record { envelope = enveloped f (raw.document d) d at refl; shown = shown; read = read; canonical = canonical } in
      let found : (ms : Members) × IsObjectPrinted made.0 text ms = inside.documents d text (document made.0) level returning.1 in
      (json.object found.0, subst (λ (x : Tree). IsPrinted x text (json.object found.0)) (sym made.1) (document_printed made.0 text found.0 found.1 returning.0))
  value_printed f (raw.array d) text t at shown stands canonical back =
      inside.arrays d text t (record { envelope = enveloped f (raw.array d) d at refl; shown = shown; read = stands; canonical = canonical }) back
  value_printed f (raw.scoped code d) text t at (scope, shown, is) (es, stands, same) canonical back =
      let level : IsLevel Nested Reading Canon as_document d scope (document es) =
      record { envelope = enveloped f (raw.scoped code d) d at refl; shown = shown; read = stands; canonical = canonical } in
      let found : (ms : Members) × IsObjectPrinted es scope ms = inside.documents d scope (document es) level (subst ComesBack same back) in
      let j = scoped_json code (json.object found.0) in (
        j,
        subst (λ (x : List ℕ). IsPrinted t x j) (sym is)
            (subst (λ (x : Tree). IsPrinted x (before_scope code ++ (scope ++ codes "}")) j) (sym same) (scoped_printed code es scope found.0 found.1)),
      )

  members_printed : (s : List ℕ) (first : Bool) (frames : List Frame) (pairs : List (List ℕ × Tree)) (text : List ℕ) → AreBytes s × IsWalk s frames Done
      → AreMembersJson (canonical_in layout) depth Nested as_document first frames text → StandForEach Reading frames pairs → AreFramesCanonical Canon frames
      → MembersComeBack (entries pairs) → (ms : Members) × AreMembersPrinted first (entries pairs) text ms
  members_printed s first [] pairs text walk shown stands canonical back = (
    no_members,
    subst (λ (x : List (List ℕ × Tree)). AreMembersPrinted first (entries x) text no_members) (sym stands)
        (subst (λ (x : List ℕ). AreMembersPrinted first no_entry x no_members) (sym shown) (no_member_printed layout depth first)),
  )
  members_printed s first (f ∷ fs) pairs text (bytes, (r, at, walk)) (v, shown, others, m, one, more, is) (w, t, rest, m', stands, same, each) (u, m'', canonical, all) back =
      let returning : ComesBack t × MembersComeBack (entries rest) = subst (λ (x : List (List ℕ × Tree)). MembersComeBack (entries x)) same back in
      let here = value_printed f v shown t (framed s f r v bytes at m) one (subst (λ (x : RawValue). StandsFor Reading x t) (one_value_of f w v m' m) stands)
      (subst (λ (x : RawValue). IsValueCanonical Canon x) (one_value_of f u v m'' m) canonical) returning.0 in
      let behind = members_printed r false fs rest others (AreBytes-rest s f r at bytes, walk) more each all returning.1 in
      let ms = member f.key here.0 behind.0 in (
        ms,
        subst (λ (x : List (List ℕ × Tree)). AreMembersPrinted first (entries x) text ms) (sym same)
            (subst (λ (x : List ℕ). AreMembersPrinted first (entry_then f.key t (entries rest)) x ms) (sym is)
            (member_printed layout (suc depth) first f.key shown others t (entries rest) here.0 behind.0 (at.key_nul_free, here.1) behind.1)),
      )

  items_printed : (s : List ℕ) (first : Bool) (frames : List Frame) (pairs : List (List ℕ × Tree)) (text : List ℕ) → AreBytes s × IsWalk s frames Done
      → AreMembersJson (canonical_in layout) depth Nested as_array first frames text → StandForEach Reading frames pairs → AreFramesCanonical Canon frames
      → ItemsComeBack (trees_in pairs) → (js : Items) × AreItemsPrinted first (trees_in pairs) text js
  items_printed s first [] pairs text walk shown stands canonical back = (
    no_items,
    subst (λ (x : List (List ℕ × Tree)). AreItemsPrinted first (trees_in x) text no_items) (sym stands)
        (subst (λ (x : List ℕ). AreItemsPrinted first no_tree x no_items) (sym shown) (no_item_printed layout depth first)),
  )
  items_printed s first (f ∷ fs) pairs text (bytes, (r, at, walk)) (v, shown, others, m, one, more, is) (w, t, rest, m', stands, same, each) (u, m'', canonical, all) back =
      let returning : ComesBack t × ItemsComeBack (trees_in rest) = subst (λ (x : List (List ℕ × Tree)). ItemsComeBack (trees_in x)) same back in
      let here = value_printed f v shown t (framed s f r v bytes at m) one (subst (λ (x : RawValue). StandsFor Reading x t) (one_value_of f w v m' m) stands)
      (subst (λ (x : RawValue). IsValueCanonical Canon x) (one_value_of f u v m'' m) canonical) returning.0 in
      let behind = items_printed r false fs rest others (AreBytes-rest s f r at bytes, walk) more each all returning.1 in
      let js = item here.0 behind.0 in (
        js,
        subst (λ (x : List (List ℕ × Tree)). AreItemsPrinted first (trees_in x) text js) (sym same)
            (subst (λ (x : List ℕ). AreItemsPrinted first (tree_then t (trees_in rest)) x js) (sym is)
            (item_printed layout (suc depth) first f.key shown others t (trees_in rest) here.0 behind.0 here.1 behind.1)),
      )

-- level by level

keys_read : (N : Sort → List ℕ → Tree → Type 0) (frames : List Frame) (pairs : List (List ℕ × Tree)) → StandForEach N frames pairs → map (λ f. f.key) frames ≡ keys_of pairs
keys_read N [] pairs h = ap (λ ps. keys_of {T = Tree} ps) (sym h)
keys_read N (f ∷ frames) pairs h = ap (λ ks. f.key ∷ ks) (keys_read N frames h.2 h.6) ∙ ap (λ ps. keys_of {T = Tree} ps) (sym h.5)

-- the pairs of a canonical document are those of its tree
kept_pairs : (N : Sort → List ℕ → Tree → Type 0) (frames : List Frame) (pairs : List (List ℕ × Tree)) → StandForEach N frames pairs → AreKeysCanonical as_document (map (λ f. f.key) frames)
    → tree_of_pairs as_document pairs ≡ document (entries pairs)
kept_pairs N frames pairs h k = ap (λ ps. document (entries ps)) (keep-distinct pairs (subst (IsDistinct bytes_eq) (keys_read N frames pairs h) k))

document_tree : (m : ℕ) (d : List ℕ) (t : Tree) → ReadsUpTo m as_document d t → (es : Entries) × (t ≡ document es)
document_tree zero d t h = absurd h
document_tree (suc m) d t (pairs, rest, is) = (entries (keep pairs), is)

abbrev pub Shown : Layout → ℕ → ℕ → Sort → List ℕ → List ℕ → Type 0
Shown layout n depth = IsJsonUpTo (canonical_in layout) n depth

module _ (leaves : (l : Leaf) → LeafIsPrinted l) (layout : Layout) where
  mutual
    pub whole_printed : (n m k depth : ℕ) (d text : List ℕ) (t : Tree) → IsLevel (Shown layout n depth) (ReadsUpTo m) (IsCanonicalUpTo k) as_document d text t
        → DocumentComesBack t → IsWholePrinted t text
    whole_printed zero m k depth d text t level back = absurd level.shown
    whole_printed (suc n) zero k depth d text t level back = absurd level.read
    whole_printed (suc n) (suc m) zero depth d text t level back = absurd level.canonical
    whole_printed (suc n) (suc m) (suc k) depth d text t level back =
        let (frames, members, walk, are, is) = level.shown in
        let (pairs, (frames', walk', stand), tree) = level.read in
        let (frames'', walk'', keys, all) = level.canonical in
        let inside : Inside (Shown layout n (suc depth)) (ReadsUpTo m) (IsCanonicalUpTo k) layout depth = record {
          documents = whole_printed n m k (suc depth);
          document_trees = document_tree m;
          arrays = list_printed n m k (suc depth);
          leaves = leaves;
        } in
        let stands = subst (λ (x : List Frame). StandForEach (ReadsUpTo m) x pairs) (one_walk (drop 4 d) frames' frames Done Done walk' walk).0 stand in
        let same = (one_walk (drop 4 d) frames'' frames Done Done walk'' walk).0 in
        let made : t ≡ document (entries pairs) = tree ∙ kept_pairs (ReadsUpTo m) frames pairs stands (subst (λ (x : List Frame). AreKeysCanonical as_document (map (λ f. f.key) x)) same keys) in
        let found = members_printed inside (drop 4 d) true frames pairs members (AreBytes-drop 4 d level.envelope.bytes, walk)
        are stands (subst (λ (x : List Frame). AreFramesCanonical (IsCanonicalUpTo k) x) same all) (subst DocumentComesBack made back) in
        let object = subst (λ (x : List ℕ). IsObjectPrinted (entries pairs) x found.0) (sym is) (object_printed (entries pairs) members found.0 found.1) in
        subst (λ (x : Tree). IsWholePrinted x text) (sym made) (found.0, object)

    list_printed : (n m k depth : ℕ) (d text : List ℕ) (t : Tree) → IsLevel (Shown layout n depth) (ReadsUpTo m) (IsCanonicalUpTo k) as_array d text t → ComesBack t → (j : Json) × IsPrinted t text j
    list_printed zero m k depth d text t level back = absurd level.shown
    list_printed (suc n) zero k depth d text t level back = absurd level.read
    list_printed (suc n) (suc m) zero depth d text t level back = absurd level.canonical
    list_printed (suc n) (suc m) (suc k) depth d text t level back =
        let (frames, members, walk, are, is) = level.shown in
        let (pairs, (frames', walk', stand), tree) = level.read in
        let (frames'', walk'', keys, all) = level.canonical in
        let inside : Inside (Shown layout n (suc depth)) (ReadsUpTo m) (IsCanonicalUpTo k) layout depth = record {
          documents = whole_printed n m k (suc depth);
          document_trees = document_tree m;
          arrays = list_printed n m k (suc depth);
          leaves = leaves;
        } in
        let stands = subst (λ (x : List Frame). StandForEach (ReadsUpTo m) x pairs) (one_walk (drop 4 d) frames' frames Done Done walk' walk).0 stand in
        let same = (one_walk (drop 4 d) frames'' frames Done Done walk'' walk).0 in
        let found = items_printed inside (drop 4 d) true frames pairs members (AreBytes-drop 4 d level.envelope.bytes, walk)
        are stands (subst (λ (x : List Frame). AreFramesCanonical (IsCanonicalUpTo k) x) same all) (subst ComesBack tree back) in (
          json.array found.0,
          subst (λ (x : Tree). IsPrinted x text (json.array found.0)) (sym tree)
              (subst (λ (x : List ℕ). IsPrinted (array (trees_in pairs)) x (json.array found.0)) (sym is) (array_printed (trees_in pairs) members found.0 found.1)),
        )
