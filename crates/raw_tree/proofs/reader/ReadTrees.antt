-- A tree that bytes with an envelope are read as is proper.
use Rattle.std.proofs.Common.{◌≡◌, ◌<◌, inl, inr, ◌++◌, ◌∷◌, [], ℕ, pos, zero, suc, fold, List, length, map, drop, arith, refl, ◌∙◌, append_assoc, IsUtf8, bytes_eq}
use Rattle.raw_tree.proofs.Common.{IsDistinct, AreBytes, NulFree, Leaf, binary, db_pointer, keep, with_pair, OfParts, well_formed_parts, nul_free_parts, ascending_parts, proper_subtype_parts, Everywhere, InTrees, InEntries, IsLeafInRange, IsLeafNulFree}
use Rattle.raw_tree.proofs.Common.{DoLeafOptionsAscend, IsLeafSubtypeProper, IsProper, subtype_of, subtype_byte, Tree, trees, entries, BinaryOld, IsEnvelope, string_payload, Frame, IsFrame}
use Rattle.raw_tree.proofs.Common.{HasShape, IsBinary, IsWalk, Done, tag_of, RawValue, HasInnerLength, MeansValue, le32, ElementType, Sort}
use Rattle.raw_tree.proofs.Common.{as_document, as_array, tree_of_pairs, leaf_in_order, StandsFor, StandForEach, ReadsUpTo, ReadsAs, Holds}
use Rattle.bson_model.proofs.Face.{fold-keep, HasDistinctKeys-keep, IsUtf8-sorted_options, OptionsAscend-sorted_options, NulFree-sorted_options, subtype_byte-subtype_of, IsProperSubtype-subtype_of, keys_in-entries, AreBytes-front, AreBytes-back, AreBytes-drop}
use Rattle.raw_view.specs.Meaning as raw
use Rattle.raw_view.specs.declared.element_type.ElementType.TheVariants as kind
use Rattle.raw_view.proofs.Face.{AreBytes-rest}
use Rattle.raw_tree.proofs.reader.Loops.{nested_envelope}

-- bytes

-- the payload of a frame is bytes if those with the frame are
pub payload_bytes : (s : List ℕ) (f : Frame) (r : List ℕ) → IsFrame s f r → AreBytes s → AreBytes f.payload
payload_bytes s f r b bytes =
    let head = tag_of f.kind ∷ (f.key ++ 0 ∷ []) in
    let whole : s ≡ head ++ (f.payload ++ r) = b.spelled ∙ simp append_assoc in
    AreBytes-front f.payload r (AreBytes-back head (f.payload ++ r) (rw whole at bytes))

-- leaves

-- a leaf in range, without a 0 in a C string, whose options ascend and whose subtype is proper
abbrev IsLeafProper : Leaf → Type 0
IsLeafProper l = IsLeafInRange l × IsLeafNulFree l × DoLeafOptionsAscend l × IsLeafSubtypeProper l

-- a binary that isn't old
plain_binary_proper : (p bytes : List ℕ) (subtype : ℕ) → AreBytes p → IsBinary p subtype bytes → IsLeafProper (binary (subtype_of subtype) bytes)
plain_binary_proper p bytes subtype all b =
    let behind : AreBytes (subtype ∷ bytes) = AreBytes-back (le32 (pos (length bytes))) (subtype ∷ bytes) (rw b.spelled at all) in
    let byte : subtype_byte (subtype_of subtype) < 256 = omega (arith, subtype_byte-subtype_of subtype, behind 0) in
    ((byte, λ i. behind (suc i)), tt, tt, IsProperSubtype-subtype_of subtype)

-- an old binary
old_binary_proper : (p outer inner : List ℕ) (subtype : ℕ) → AreBytes p → IsBinary p subtype outer → HasInnerLength outer inner → IsLeafProper (binary BinaryOld inner)
old_binary_proper p outer inner subtype all b h =
    let behind : AreBytes (subtype ∷ outer) = AreBytes-back (le32 (pos (length outer))) (subtype ∷ outer) (rw b.spelled at all) in
    let bytes : AreBytes outer = λ i. behind (suc i) in
    ((omega arith, AreBytes-back (le32 (pos (length inner))) inner (rw h.spelled at bytes)), tt, tt, refl)

-- the leaf that a payload means
leaf_proper : (k : ElementType) (p r : List ℕ) (l : Leaf) → AreBytes p → HasShape k p r → MeansValue k p (raw.single l) → IsLeafProper (leaf_in_order l)
leaf_proper kind.Binary p r l all x (subtype, bytes, is, inl plain) =
    let e : l ≡ binary (subtype_of subtype) bytes = cc in
    rw e (plain_binary_proper p bytes subtype all is)
leaf_proper kind.Binary p r l all x (subtype, bytes, is, inr old) =
    let e : l ≡ binary BinaryOld old.1 = cc in
    rw e (old_binary_proper p bytes old.1 subtype all is old.2)
leaf_proper kind.DbPointer p r l all x m =
    let id : AreBytes m.1 = AreBytes-back (string_payload m.0) m.1 (rw m.2.spelled at all) in
    let e : l ≡ db_pointer m.0 m.1 = cc in
    rw e ((m.3, (m.2.id_len, id)), tt, tt, tt)
leaf_proper k p r l all x m = grind (arith, IsUtf8-sorted_options, NulFree-sorted_options, OptionsAscend-sorted_options)

-- the code of a code with scope is a text
code_text : (k : ElementType) (p code scope : List ℕ) → MeansValue k p (raw.scoped code scope) → IsUtf8 code
code_text k p code scope m = grind arith

-- trees

-- what holds of the parts, if each follows from what is framed
module _ (holds : OfParts)
    (leaves : (l : Leaf) → IsLeafProper l → holds.of_leaf l) (codes : (code : List ℕ) → IsUtf8 code → holds.of_code code)
    (keys : (key : List ℕ) → IsUtf8 key → NulFree key → holds.of_key key) (kept : (ks : List (List ℕ)) → IsDistinct bytes_eq ks → holds.of_keys ks) where
  -- it holds in a tree
  abbrev IsMet : Tree → Type 0
  IsMet t = Everywhere holds t

  -- in the tree of each pair, and of its key
  abbrev InPairs : List (List ℕ × Tree) → Type 0
  InPairs ps = InEntries holds (entries ps)

  -- with one more pair
  InPairs-with_pair : (k : List ℕ) (t : Tree) (ps : List (List ℕ × Tree)) → holds.of_key k → IsMet t → InPairs ps → InPairs (with_pair k t ps)
  InPairs-with_pair k t [] a h b = (a, h, tt)
  InPairs-with_pair k t (p ∷ ps) a h b = grind (arith, InPairs-with_pair k t ps a h)

  -- with more pairs, inserted one after another
  InPairs-fold : (qs ps : List (List ℕ × Tree)) → InPairs qs → InPairs ps → InPairs (fold (λ rs p. with_pair p.0 p.1 rs) qs ps)
  InPairs-fold qs [] a h = a
  InPairs-fold qs (p ∷ ps) a h = InPairs-fold (with_pair p.0 p.1 qs) ps (InPairs-with_pair p.0 p.1 qs h.0 h.1 a) h.2

  -- so it holds in the kept pairs
  InPairs-keep : (ps : List (List ℕ × Tree)) → InPairs ps → InPairs (keep ps)
  InPairs-keep ps h = rw (fold-keep ps) at (InPairs-fold [] ps tt h)

  -- and without the keys
  InPairs-trees : (ps : List (List ℕ × Tree)) → InPairs ps → InTrees holds (trees (map (λ p. p.1) ps))
  InPairs-trees [] h = tt
  InPairs-trees (p ∷ ps) h = (h.1, InPairs-trees ps h.2)

  -- the tree of pairs
  of_pairs : (sort : Sort) (ps : List (List ℕ × Tree)) → InPairs ps → IsMet (tree_of_pairs sort ps)
  of_pairs as_document ps h = (kept _ (rw (keys_in-entries (keep ps)) (HasDistinctKeys-keep ps)), InPairs-keep ps h)
  of_pairs as_array ps h = InPairs-trees ps h

  -- it holds in each tree that bytes with an envelope are read as
  abbrev HoldRead : (Sort → List ℕ → Tree → Type 0) → Type 0
  HoldRead N = (sort : Sort) (b : List ℕ) (t : Tree) → IsEnvelope b → N sort b t → IsMet t

  -- then in the tree that a value stands for
  of_value : (N : Sort → List ℕ → Tree → Type 0) (v : RawValue) (t : Tree) → ((sort : Sort) (d : List ℕ) (u : Tree) → Holds v d → N sort d u → IsMet u)
      → ((l : Leaf) → v ≡ raw.single l → IsLeafProper (leaf_in_order l)) → ((code d : List ℕ) → v ≡ raw.scoped code d → IsUtf8 code) → StandsFor N v t → IsMet t
  of_value N v t nested leaf code h = grind (arith, leaves, codes)

  -- and in the pairs of a walk
  of_walk : {N : Sort → List ℕ → Tree → Type 0} → HoldRead N → (s : List ℕ) (frames : List Frame) (pairs : List (List ℕ × Tree)) → AreBytes s
      → IsWalk s frames Done → StandForEach N frames pairs → InPairs pairs
  of_walk read s [] pairs bytes w h = rw h tt
  of_walk {N = N} read s (f ∷ frames) pairs bytes w h =
      let at = w.1.payload_is in
      let here : IsMet h.1 = of_value N h.0 h.1 (λ sort d u holds. read sort d u (nested_envelope s f w.0 h.0 d w.1 h.3 holds))
      (λ l e. leaf_proper f.kind f.payload w.0 l (payload_bytes s f w.0 w.1 bytes) at (rw e at h.3)) (λ code d e. code_text f.kind f.payload code d (rw e at h.3)) h.4 in
      rw h.5 (keys f.key w.1.key_utf8 w.1.key_nul_free, here, of_walk read w.0 frames h.2 (AreBytes-rest s f w.0 w.1 bytes) w.2 h.6)

  -- in each tree that is read within some levels
  read_everywhere : (n : ℕ) → HoldRead (ReadsUpTo n)
  read_everywhere zero sort b t env h = absurd h
  read_everywhere (suc n) sort b t env h =
      rw h.2 (of_pairs sort h.0 (of_walk (read_everywhere n) (drop 4 b) h.1.0 h.0 (AreBytes-drop 4 b env.bytes) h.1.1 h.1.2))

-- a tree that bytes with an envelope are read as is proper
pub read_is_proper : (sort : Sort) (b : List ℕ) (t : Tree) → IsEnvelope b → ReadsAs sort b t → IsProper t
read_is_proper sort b t env (n, h) = record {
  well_formed = read_everywhere well_formed_parts (λ l p. p.0) (λ c u. u) (λ k u f. u) (λ ks d. d) n sort b t env h;
  nul_free = read_everywhere nul_free_parts (λ l p. p.1) (λ c u. tt) (λ k u f. f) (λ ks d. tt) n sort b t env h;
  options_ascend = read_everywhere ascending_parts (λ l p. p.2) (λ c u. tt) (λ k u f. tt) (λ ks d. tt) n sort b t env h;
  subtypes_proper = read_everywhere proper_subtype_parts (λ l p. p.3) (λ c u. tt) (λ k u f. tt) (λ ks d. tt) n sort b t env h;
}
