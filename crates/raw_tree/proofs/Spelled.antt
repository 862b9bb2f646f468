-- A canonical document that is read is the encoding of its tree, and so is a canonical array.
use Rattle.std.proofs.Common.{◌≡◌, ◌≢◌, ◌+◌, ◌++◌, ◌∷◌, [], ℕ, zero, suc, List, map, ap, refl, sym, ◌∙◌, append_assoc, arith}
use Rattle.raw_tree.proofs.Common.{nil_from_length, Leaf, keys_of, DoLeafOptionsAscend, subtype_of, subtype_byte, Tree, trees, entries, BinarySubtype, BinaryOld, IsEnvelope, plain_binary_payload}
use Rattle.raw_tree.proofs.Common.{binary_payload, framed, element_of, Frame, IsFrame, HasShape, IsWalk, Done, RawValue, kind_of_raw, Means, MeansValue, value, ElementType, AreDecimalsFrom}
use Rattle.raw_tree.proofs.Common.{AreKeysCanonical, IsValueCanonical, AreFramesCanonical, IsCanonicalUpTo, IsCanonicalAs, kind_of_tree, tree_payload, items_bytes, entries_bytes, encoding, payload_of}
use Rattle.raw_tree.proofs.Common.{Sort, as_document, as_array, tree_of_pairs, leaf_in_order, StandsFor, StandForEach, ReadsUpTo, ReadsAs, FrameStandsFor, Holds}
use Rattle.bson_model.proofs.Face.{keep-distinct, sorted_options-same, subtype_byte-subtype_of}
use Rattle.raw_view.specs.Meaning as raw
use Rattle.raw_view.specs.declared.element_type.ElementType.TheVariants as kind
use Rattle.raw_view.proofs.Face.{front_and_rest, one_walk}
use Rattle.raw_tree.proofs.reader.Loops.{nested_envelope}
use Rattle.raw_tree.proofs.reader.OneTree.{one_value_of}

-- payloads

-- the bytes of a binary that isn't old have no length before them
not_old : (subtype : BinarySubtype) (bytes : List ℕ) → subtype ≢ BinaryOld → binary_payload subtype bytes ≡ plain_binary_payload (subtype_byte subtype) bytes
not_old subtype bytes n = grind arith

-- only the byte 2 is that of an old binary
not_two : (byte : ℕ) → byte ≢ 2 → subtype_of byte ≢ BinaryOld
not_two byte n e = n (sym (subtype_byte-subtype_of byte) ∙ ap subtype_byte e)

-- a payload that means a value is the payload of that value, and the kinds are the same
pub value_spelled : (k : ElementType) (p r : List ℕ) (v : RawValue) → HasShape k p r → MeansValue k p v → (payload_of v ≡ p) × (kind_of_raw v ≡ k)
value_spelled k p r v x m = grind (arith, nil_from_length, not_old, not_two)

-- the options of a leaf stay as they are if they ascend
leaf_kept : (k : ElementType) (p : List ℕ) (l : Leaf) → MeansValue k p (raw.single l) → DoLeafOptionsAscend l → leaf_in_order l ≡ l
leaf_kept k p l m a = grind (arith, sorted_options-same)

-- trees

-- the kind of what is read
abbrev kind_of_sort : Sort → ElementType
kind_of_sort as_document = kind.EmbeddedDocument
kind_of_sort as_array = kind.Array

-- bytes with an envelope that are read and are canonical are the encoding of the tree, which is of their kind
abbrev AreSpelled : (Sort → List ℕ → Tree → Type 0) → (Sort → List ℕ → Type 0) → Type 0
AreSpelled N C = (sort : Sort) (b : List ℕ) (t : Tree) → IsEnvelope b → N sort b t → C sort b → (encoding t ≡ b) × (kind_of_tree t ≡ kind_of_sort sort)

-- the payload and the kind of a frame are those of the tree
abbrev pub IsTreeSpelled : Frame → Tree → Type 0
IsTreeSpelled f t = (tree_payload t ≡ f.payload) × (kind_of_tree t ≡ f.kind)

-- the tree of a canonical value has its payload and its kind, if nested bytes are encoded
tree_encoded : (N : Sort → List ℕ → Tree → Type 0) (C : Sort → List ℕ → Type 0) (v : RawValue) (t : Tree)
    → ((sort : Sort) (d : List ℕ) (u : Tree) → Holds v d → N sort d u → C sort d → (encoding u ≡ d) × (kind_of_tree u ≡ kind_of_sort sort))
    → ((l : Leaf) → v ≡ raw.single l → DoLeafOptionsAscend l → leaf_in_order l ≡ l) → StandsFor N v t → IsValueCanonical C v
    → (tree_payload t ≡ payload_of v) × (kind_of_tree t ≡ kind_of_raw v)
tree_encoded N C v t nested kept h c = grind arith

-- and so has the tree of a frame's value
tree_spelled : (N : Sort → List ℕ → Tree → Type 0) (C : Sort → List ℕ → Type 0) → AreSpelled N C
    → (s : List ℕ) (f : Frame) (r : List ℕ) (v : RawValue) (t : Tree) → IsFrame s f r → Means f (value v) → StandsFor N v t → IsValueCanonical C v
    → IsTreeSpelled f t
tree_spelled N C spelled s f r v t at m h c =
    let tree = tree_encoded N C v t (λ sort d u holds. spelled sort d u (nested_envelope s f r v d at m holds)) (λ l e. leaf_kept f.kind f.payload l (rw e at m)) h c in
    let whole = value_spelled f.kind f.payload r v at.payload_is m in
    (tree.0 ∙ whole.0, tree.1 ∙ whole.1)

-- the elements of pairs that are read along a walk, followed by the final 0, are the bytes of the walk; their keys are those of its frames
walk_spelled : (N : Sort → List ℕ → Tree → Type 0) (C : Sort → List ℕ → Type 0) → AreSpelled N C
    → (s : List ℕ) (frames : List Frame) (pairs : List (List ℕ × Tree)) → IsWalk s frames Done → StandForEach N frames pairs → AreFramesCanonical C frames
    → (entries_bytes (entries pairs) ++ 0 ∷ [] ≡ s) × (map (λ f. f.key) frames ≡ keys_of pairs)
walk_spelled N C spelled s [] pairs w h c = rw (h, w) (refl, refl)
walk_spelled N C spelled s (f ∷ frames) pairs w h c =
    let here = tree_spelled N C spelled s f w.0 h.0 h.1 w.1 h.3 h.4 (rw (one_value_of f c.0 h.0 c.1 h.3) at c.2) in
    let rest = walk_spelled N C spelled w.0 frames h.2 w.2 h.6 c.3 in
    let element = append_assoc (element_of (kind_of_tree h.1) f.key (tree_payload h.1)) (entries_bytes (entries h.2)) (0 ∷ []) in
    rw h.5 (element ∙ rw (here.0, here.1, rest.0) (sym (front_and_rest s f w.0 w.1)), ap (λ ks. f.key ∷ ks) rest.1)

-- the elements of trees under the decimals are those of the pairs with these keys
items_are_entries : (n : ℕ) (pairs : List (List ℕ × Tree)) → AreDecimalsFrom n (keys_of pairs) → items_bytes n (trees (map (λ p. p.1) pairs)) ≡ entries_bytes (entries pairs)
items_are_entries n [] h = refl
items_are_entries n (p ∷ pairs) h =
    rw (h.0, items_are_entries (n + 1) pairs h.1) refl

-- the tree of pairs with canonical keys is encoded as their elements in a frame, and is of its kind
pairs_spelled : (sort : Sort) (pairs : List (List ℕ × Tree)) → AreKeysCanonical sort (keys_of pairs)
    → (encoding (tree_of_pairs sort pairs) ≡ framed (entries_bytes (entries pairs))) × (kind_of_tree (tree_of_pairs sort pairs) ≡ kind_of_sort sort)
pairs_spelled as_document pairs h = (ap (λ ps. framed (entries_bytes (entries ps))) (keep-distinct pairs h), refl)
pairs_spelled as_array pairs h = (ap framed (items_are_entries 0 pairs h), refl)

-- within any levels
spelled_within : (n m : ℕ) → AreSpelled (ReadsUpTo n) (IsCanonicalUpTo m)
spelled_within zero m sort b t env h c = absurd h
spelled_within (suc n) zero sort b t env h c = absurd c
spelled_within (suc n) (suc m) sort b t env h c = grind (arith, one_walk, pairs_spelled, walk_spelled, spelled_within n m)

-- the tree that a canonical frame stands for has its payload and its kind
pub frame_spelled : (n : ℕ) (s : List ℕ) (f : Frame) (r : List ℕ) (v : RawValue) → IsFrame s f r → Means f (value v) → IsValueCanonical (IsCanonicalUpTo n) v
    → (t : Tree) → FrameStandsFor f t → IsTreeSpelled f t
frame_spelled n s f r v at m c t (w, means, h) =
    tree_spelled ReadsAs (IsCanonicalUpTo n) (λ sort b u env read. spelled_within read.0 n sort b u env read.1) s f r v t at m (rw (one_value_of f w v means m) at h) c

-- canonical bytes that are read are the encoding of their tree
pub canonical_is_spelled : (sort : Sort) (b : List ℕ) (t : Tree) → IsEnvelope b → ReadsAs sort b t → IsCanonicalAs sort b → encoding t ≡ b
canonical_is_spelled sort b t env h c = (spelled_within h.0 c.0 sort b t env h.1 c.1).0
