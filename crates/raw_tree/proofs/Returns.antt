-- A proper tree that isn't too long is read from its encoding as the same tree, and the encoding is canonical.
use Rattle.std.proofs.Common.{◌≡◌, ◌≤◌, ◌+◌, ◌++◌, ◌∷◌, [], ℕ, zero, suc, List, length, map, drop, decimal, arith, ap, sym, refl, ◌∙◌, append_assoc, length-append, IsUtf8, bytes_eq}
use Rattle.raw_tree.proofs.Common.{IsAscii-decimal, IsUtf8-from_ascii, IsDistinct, AreBytes, NulFree, Leaf, keys_of, keys_in, InTrees, InEntries, well_formed_parts, nul_free_parts, ascending_parts}
use Rattle.raw_tree.proofs.Common.{proper_subtype_parts, OfParts, Everywhere, IsLeafInRange, IsLeafNulFree, DoLeafOptionsAscend, IsLeafSubtypeProper, Tree, Trees, Entries, leaf, array, document}
use Rattle.raw_tree.proofs.Common.{code_with_scope, no_tree, tree_then, no_entry, entry_then, trees, entries, pairs_in, IsEnvelope, string_payload, leaf_payload, framed, element_of, HasShape, Frame}
use Rattle.raw_tree.proofs.Common.{IsWalk, Done, RawValue, MeansValue, max_length, AreDecimalsFrom, AreKeysCanonical, IsValueCanonical, AreFramesCanonical, IsCanonicalUpTo, IsCanonicalAs}
use Rattle.raw_tree.proofs.Common.{kind_of_tree, tree_payload, items_bytes, entries_bytes, encoded_len, items_len, entries_len, Sort, as_document, as_array, ComesBack, tree_of_pairs, leaf_in_order}
use Rattle.raw_tree.proofs.Common.{StandsFor, StandForEach, ReadsAs, numbered}
use Rattle.bson_model.proofs.Face.{AreBytes-nil, AreBytes-append, keep-distinct, sorted_options-same}
use Rattle.raw_view.proofs.Face.{length-framed, AreBytes-leaf, AreBytes-scoped, AreBytes-framed, AreBytes-element, leaf_shape, declared_shape, framed_is_envelope, leaf_means, scoped_means}
use Rattle.raw_tree.proofs.reader.Loops.{reads_of}
use Rattle.raw_tree.proofs.writer.Encodings.{length-entries_bytes, length-items_bytes}
use Rattle.raw_tree.proofs.writer.Decimals.{decimal_nul_free}
use Rattle.raw_tree.proofs.writer.MemberSteps.{items_bytes-numbered}
use Rattle.raw_view.specs.Meaning as raw

-- levels

-- if other bytes are canonical too, a value stays canonical
value_canonical_on : (N M : Sort → List ℕ → Type 0) → ((sort : Sort) (b : List ℕ) → N sort b → M sort b) → (v : RawValue) → IsValueCanonical N v → IsValueCanonical M v
value_canonical_on N M on v h = grind arith

-- and so do the values of frames
pub frames_canonical_on : (N M : Sort → List ℕ → Type 0) → ((sort : Sort) (b : List ℕ) → N sort b → M sort b) → (fs : List Frame) → AreFramesCanonical N fs → AreFramesCanonical M fs
frames_canonical_on N M on [] h = h
frames_canonical_on N M on (f ∷ fs) h = (h.0, h.1, value_canonical_on N M on h.0 h.2, frames_canonical_on N M on fs h.3)

-- what is canonical within some levels is so within more
pub canonical_up_to : (n m : ℕ) → n ≤ m → (sort : Sort) (b : List ℕ) → IsCanonicalUpTo n sort b → IsCanonicalUpTo m sort b
canonical_up_to zero m l sort b h = absurd h
canonical_up_to (suc n) zero l sort b h = absurd (omega arith)
canonical_up_to (suc n) (suc m) l sort b h = grind (arith, frames_canonical_on, canonical_up_to n m)

-- a canonical value is canonical within some levels
value_canonical_level : (v : RawValue) → IsValueCanonical IsCanonicalAs v → (n : ℕ) × IsValueCanonical (IsCanonicalUpTo n) v
value_canonical_level v h = grind arith

-- canonical frames are canonical within some levels
pub frames_canonical_level : (fs : List Frame) → AreFramesCanonical IsCanonicalAs fs → (n : ℕ) × AreFramesCanonical (IsCanonicalUpTo n) fs
frames_canonical_level [] h = (0, h)
frames_canonical_level (f ∷ fs) h =
    let first = value_canonical_level h.0 h.2 in
    let others = frames_canonical_level fs h.3 in
    let n : ℕ = first.0 + others.0 in
    (n, (h.0, h.1, value_canonical_on _ _ (canonical_up_to first.0 n (omega arith)) h.0 first.1, frames_canonical_on _ _ (canonical_up_to others.0 n (omega arith)) fs others.1))

-- bytes whose walk is done, and whose keys and frames are canonical, are canonical
pub canonical_of : (sort : Sort) (b : List ℕ) (frames : List Frame) → IsWalk (drop 4 b) frames Done → AreKeysCanonical sort (map (λ f. f.key) frames)
    → AreFramesCanonical IsCanonicalAs frames → IsCanonicalAs sort b
canonical_of sort b frames w k h =
    let each = frames_canonical_level frames h in
    (suc each.0, (frames, w, k, each.1))

-- a leaf whose options ascend is in order
leaf_in_order-same : (l : Leaf) → IsLeafInRange l → DoLeafOptionsAscend l → leaf_in_order l ≡ l
leaf_in_order-same l h o = grind (arith, sorted_options-same)

-- trees

-- What holds of the payload of a tree: it is bytes, has the shape of the tree's kind whatever follows it, and means a canonical value that
-- stands for the tree.
record IsReturned (t : Tree) : Type 0 where
  bytes : AreBytes (tree_payload t)
  shape : (r : List ℕ) → HasShape (kind_of_tree t) (tree_payload t) r
  value : RawValue
  means : MeansValue (kind_of_tree t) (tree_payload t) value
  stands : StandsFor ReadsAs value t
  canonical : IsValueCanonical IsCanonicalAs value

-- a leaf
leaf_returned : (l : Leaf) → IsLeafInRange l → IsLeafNulFree l → DoLeafOptionsAscend l → IsLeafSubtypeProper l → length (leaf_payload l) ≤ max_length → IsReturned (leaf l)
leaf_returned l h n o s b = record {
  bytes = AreBytes-leaf l h;
  shape = λ r. leaf_shape l r h n b;
  value = raw.single l;
  means = leaf_means l h n s b;
  stands = ap leaf (sym (leaf_in_order-same l h o));
  canonical = o;
}

-- the frames of written elements
abbrev frames_in : Entries → List Frame
frames_in no_entry = []
frames_in (entry_then key t es) = record { kind = kind_of_tree t; key = key; payload = tree_payload t } ∷ frames_in es

-- the keys of a list's members are the decimals, and their trees the list
numbered_are : (n : ℕ) (ts : Trees) → AreDecimalsFrom n (keys_in (numbered n ts)) × (trees (map (λ p. p.1) (pairs_in (numbered n ts))) ≡ ts)
numbered_are n no_tree = (tt, refl)
numbered_are n (tree_then t ts) = let rest = numbered_are (n + 1) ts in ((refl, rest.0), ap (λ (x : Trees). tree_then t x) rest.1)

-- pairs are those of their entries, and their keys those of the entries
pairs_are : (es : Entries) → (entries (pairs_in es) ≡ es) × (keys_of (pairs_in es) ≡ keys_in es)
pairs_are no_entry = (refl, refl)
pairs_are (entry_then key t es) = let rest = pairs_are es in (ap (λ (x : Entries). entry_then key t x) rest.0, ap (λ (x : List (List ℕ)). key ∷ x) rest.1)

-- written elements are bytes; followed by a 0 they have a walk, whose frames have these keys, stand for the pairs and are canonical
record AreWritten (es : Entries) : Type 0 where
  bytes : AreBytes (entries_bytes es)
  walk : IsWalk (entries_bytes es ++ 0 ∷ []) (frames_in es) Done
  keys : map (λ f. f.key) (frames_in es) ≡ keys_in es
  stand : StandForEach ReadsAs (frames_in es) (pairs_in es)
  canonical : AreFramesCanonical IsCanonicalAs (frames_in es)

none_written : AreWritten no_entry
none_written = record { bytes = AreBytes-nil; walk = refl; keys = refl; stand = refl; canonical = tt }

one_written : (key : List ℕ) (t : Tree) (es : Entries) → IsUtf8 key → NulFree key → IsReturned t → AreWritten es → AreWritten (entry_then key t es)
one_written key t es utf8 nul_free h rest =
    let behind : List ℕ = entries_bytes es ++ 0 ∷ [] in
    record {
      bytes = AreBytes-append (element_of (kind_of_tree t) key (tree_payload t)) (entries_bytes es) (AreBytes-element (kind_of_tree t) key (tree_payload t) utf8 h.bytes) rest.bytes;
      walk = (behind, record { spelled = simp append_assoc; key_nul_free = nul_free; key_utf8 = utf8; payload_is = h.shape behind }, rest.walk);
      keys = ap (λ (x : List (List ℕ)). key ∷ x) rest.keys;
      stand = (h.value, t, pairs_in es, h.means, h.stands, refl, rest.stand);
      canonical = (h.value, h.means, h.canonical, rest.canonical);
    }

-- documents and lists

-- these bytes have an envelope, are read as this tree, and are canonical
abbrev pub Returns : Sort → List ℕ → Tree → Type 0
Returns sort b t = IsEnvelope b × ReadsAs sort b t × IsCanonicalAs sort b

-- written elements in a frame
framed_returns : (sort : Sort) (es : Entries) (t : Tree) → tree_of_pairs sort (pairs_in es) ≡ t → AreKeysCanonical sort (keys_in es) → AreWritten es
    → 5 + length (entries_bytes es) ≤ max_length → Returns sort (framed (entries_bytes es)) t
framed_returns sort es t same keys w l =
    let b : List ℕ = framed (entries_bytes es) in (
      framed_is_envelope (entries_bytes es) (AreBytes-framed (entries_bytes es) w.bytes) l,
      rw (← same) (reads_of sort b (frames_in es) (pairs_in es) w.walk w.stand),
      canonical_of sort b (frames_in es) w.walk (rw w.keys keys) w.canonical,
    )

framed_document : (es : Entries) → IsDistinct bytes_eq (keys_in es) → AreWritten es → 5 + entries_len es ≤ max_length → Returns as_document (framed (entries_bytes es)) (document es)
framed_document es distinct h l =
    let are = pairs_are es in
    let same : tree_of_pairs as_document (pairs_in es) ≡ document es = ap (λ ps. document (entries ps)) (keep-distinct (pairs_in es) (rw are.1 distinct)) ∙ ap document are.0 in
    framed_returns as_document es (document es) same distinct h (omega (arith, length-entries_bytes es))

framed_array : (ts : Trees) → AreWritten (numbered 0 ts) → 5 + items_len 0 ts ≤ max_length → Returns as_array (framed (items_bytes 0 ts)) (array ts)
framed_array ts h l =
    let are = numbered_are 0 ts in
    let same = items_bytes-numbered 0 ts in
    rw same (framed_returns as_array (numbered 0 ts) (array ts) (ap array are.1) are.0 h (omega (arith, ap length same, length-items_bytes 0 ts)))

-- a code returns if its scope does
code_returned : (code : List ℕ) (es : Entries) → IsUtf8 code → Returns as_document (framed (entries_bytes es)) (document es)
    → 4 + (5 + length code) + (5 + entries_len es) ≤ max_length → IsReturned (code_with_scope code es)
code_returned code es u h l =
    let scope : List ℕ = framed (entries_bytes es) in
    let inside : List ℕ = string_payload code ++ scope in
    let fits : 4 + length inside ≤ max_length = omega (arith, length-append (string_payload code) scope, length-append code (0 ∷ []), length-framed (entries_bytes es), length-entries_bytes es) in
    record {
      bytes = AreBytes-scoped code scope u h.0.bytes;
      shape = λ r. declared_shape inside r fits;
      value = raw.scoped code scope;
      means = scoped_means code scope u h.0 fits;
      stands = (es, h.1, refl);
      canonical = h.2;
    }

-- every tree

-- what holds of proper trees, for each kind of part
abbrev Properly : (OfParts → Type 0) → Type 0
Properly P = P well_formed_parts × P nul_free_parts × P ascending_parts × P proper_subtype_parts

mutual
  -- a proper tree that isn't too long returns
  tree_returned : (t : Tree) → Properly (λ holds. Everywhere holds t) → encoded_len t ≤ max_length → IsReturned t
  tree_returned (leaf l) p b = leaf_returned l p.0 p.1 p.2 p.3 b
  tree_returned (array ts) p b =
      let h = framed_array ts (items_written 0 ts p (omega arith)) b in
      record { bytes = h.0.bytes; shape = λ r. h.0; value = raw.array (framed (items_bytes 0 ts)); means = refl; stands = h.1; canonical = h.2 }
  tree_returned (document es) p b =
      let h = framed_document es p.0.0 (entries_written es (p.0.1, p.1.1, p.2.1, p.3.1) (omega arith)) b in
      record { bytes = h.0.bytes; shape = λ r. h.0; value = raw.document (framed (entries_bytes es)); means = refl; stands = h.1; canonical = h.2 }
  tree_returned (code_with_scope code es) p b = code_returned code es p.0.0 (framed_document es p.0.1 (entries_written es (p.0.2, p.1.2, p.2.2, p.3.2) (omega arith)) (omega arith)) b

  -- and so do the members of a list
  items_written : (n : ℕ) (ts : Trees) → Properly (λ holds. InTrees holds ts) → n + items_len n ts ≤ max_length → AreWritten (numbered n ts)
  items_written n no_tree p b = none_written
  items_written n (tree_then t ts) p b =
      let utf8 = IsUtf8-from_ascii (decimal n) (IsAscii-decimal n (omega arith)) in
      one_written (decimal n) t (numbered (n + 1) ts) utf8 (decimal_nul_free n) (tree_returned t (p.0.0, p.1.0, p.2.0, p.3.0) (omega arith))
      (items_written (n + 1) ts (p.0.1, p.1.1, p.2.1, p.3.1) (omega arith))

  -- and the entries of a document
  entries_written : (es : Entries) → Properly (λ holds. InEntries holds es) → entries_len es ≤ max_length → AreWritten es
  entries_written no_entry p b = none_written
  entries_written (entry_then key t es) p b =
      one_written key t es p.0.0 p.1.0 (tree_returned t (p.0.1, p.1.1, p.2.1, p.3.1) (omega arith)) (entries_written es (p.0.2, p.1.2, p.2.2, p.3.2) (omega arith))

-- the encoding of a proper document that isn't too long returns
pub document_returns : (es : Entries) → ComesBack as_document (document es)
document_returns es p b = framed_document es p.well_formed.0 (entries_written es (p.well_formed.1, p.nul_free.1, p.options_ascend.1, p.subtypes_proper.1) (omega arith)) b

-- and so does that of such a list
pub array_returns : (ts : Trees) → ComesBack as_array (array ts)
array_returns ts p b = framed_array ts (items_written 0 ts (p.well_formed, p.nul_free, p.options_ascend, p.subtypes_proper) (omega arith)) b
