-- The encoding of a tree that was read.
use Rattle.std.proofs.Common.{◌≡◌, ◌≤◌, ◌∷◌, [], List, ℕ, zero, suc, map, length, arith, ap, refl, subst, ◌∙◌}
use Rattle.raw_tree.proofs.Common.{keep, Tree, Trees, Entries, leaf, array, document, code_with_scope, trees, entries, IsEnvelope, Frame, max_length, RawValue, AreBytes}
use Rattle.raw_tree.proofs.Common.{IsValueCanonical, AreFramesCanonical, IsCanonicalUpTo, IsCanonicalAs, IsSpelledOneWay, IsEncoded, framed, encoding, encoded_len, entries_bytes, items_bytes}
use Rattle.raw_tree.proofs.Common.{Sort, as_document, as_array, tree_of_pairs, leaf_in_order, StandsFor, StandForEach, ReadsUpTo, ReadsAs}
use Rattle.raw_view.proofs.Face.{framed_is_envelope, length-framed}
use Rattle.raw_view.specs.Meaning as raw
use Rattle.raw_tree.proofs.writer.Encodings.{length-tree_payload}
use Rattle.raw_tree.proofs.reader.ReadTrees.{read_is_proper}
use Rattle.raw_tree.proofs.Returns.{Returns, document_returns, array_returns}
use Rattle.raw_tree.proofs.Spelled.{canonical_is_spelled}

-- the encoding of the tree of some bytes is read as that tree
pub read_returns : (sort : Sort) (b : List ℕ) (t : Tree) → IsEnvelope b → ReadsAs sort b t → encoded_len t ≤ max_length → Returns sort (encoding t) t
read_returns sort b t env (zero, r) l = absurd r
read_returns as_document b t env (suc n, r) l = rw r.2 (document_returns (entries (keep r.0)) (rw r.2 at (read_is_proper as_document b t env (suc n, r))) (rw r.2 at l))
read_returns as_array b t env (suc n, r) l = rw r.2 (array_returns (trees (map (λ q. q.1) r.0)) (rw r.2 at (read_is_proper as_array b t env (suc n, r))) (rw r.2 at l))

-- what is canonical is read, if nested canonical bytes are
module _ (N : Sort → List ℕ → Type 0) (M : Sort → List ℕ → Tree → Type 0) (nested : (sort : Sort) (d : List ℕ) → N sort d → (pairs : List (List ℕ × Tree)) × M sort d (tree_of_pairs sort pairs)) where
  value_reads : (v : RawValue) → IsValueCanonical N v → (t : Tree) × StandsFor M v t
  value_reads (raw.single l) h = (leaf (leaf_in_order l), refl)
  value_reads (raw.document d) h = let read = nested as_document d h in (tree_of_pairs as_document read.0, read.1)
  value_reads (raw.array d) h = let read = nested as_array d h in (tree_of_pairs as_array read.0, read.1)
  value_reads (raw.scoped code d) h = let read = nested as_document d h in (code_with_scope code (entries (keep read.0)), (entries (keep read.0), read.1, refl))

  frames_read : (fs : List Frame) → AreFramesCanonical N fs → (pairs : List (List ℕ × Tree)) × StandForEach M fs pairs
  frames_read [] h = ([], refl)
  frames_read (f ∷ fs) h =
      let first = value_reads h.0 h.2 in
      let others = frames_read fs h.3 in
      ((f.key, first.0) ∷ others.0, (h.0, first.0, others.0, h.1, first.1, refl, others.1))

canonical_pairs : (n : ℕ) (sort : Sort) (b : List ℕ) → IsCanonicalUpTo n sort b → (pairs : List (List ℕ × Tree)) × ReadsUpTo n sort b (tree_of_pairs sort pairs)
canonical_pairs zero sort b c = absurd c
canonical_pairs (suc n) sort b c =
    let each = frames_read (IsCanonicalUpTo n) (ReadsUpTo n) (canonical_pairs n) c.0 c.3 in
    (each.0, (each.0, (c.0, c.1, each.1), refl))

-- a document is read as that of some entries
pub document_reads : (n : ℕ) (b : List ℕ) → IsCanonicalUpTo n as_document b → (es : Entries) × ReadsUpTo n as_document b (document es)
document_reads n b c = let read = canonical_pairs n as_document b c in (entries (keep read.0), read.1)

-- frames that are canonical
pub canonical_frames_read : (n : ℕ) (fs : List Frame) → AreFramesCanonical (IsCanonicalUpTo n) fs → (pairs : List (List ℕ × Tree)) × StandForEach (ReadsUpTo n) fs pairs
canonical_frames_read n fs h = frames_read (IsCanonicalUpTo n) (ReadsUpTo n) (canonical_pairs n) fs h

pub bytes_spelled_one_way : (sort : Sort) (b : List ℕ) → IsEnvelope b → IsSpelledOneWay sort b
bytes_spelled_one_way sort b env = record {
  proper = λ t r. read_is_proper sort b t env r;
  unchanged = λ t r. (
    (λ s. subst (IsCanonicalAs sort) s.1 (read_returns sort b t env r s.0).2),
    (λ c. let same : encoding t ≡ b = canonical_is_spelled sort b t env r c in (omega (arith, length-tree_payload t, ap length same, env.header.fits), same)),
  );
  canonical_reads = λ c. let read = canonical_pairs c.0 sort b c.1 in (tree_of_pairs sort read.0, (c.0, read.1));
}

-- what is written has an envelope
enveloped : (t : Tree) (inside out : List ℕ) → encoding t ≡ framed inside → IsEncoded t out → AreBytes out → IsEnvelope out
enveloped t inside out e is bytes =
    let same : out ≡ framed inside = is.2 ∙ e in
    rw same (framed_is_envelope inside (rw same at bytes) (omega (arith, ap length e, length-framed inside, length-tree_payload t, is.1)))

pub document_enveloped : (es : Entries) (out : List ℕ) → IsEncoded (document es) out → AreBytes out → IsEnvelope out
document_enveloped es out = enveloped (document es) (entries_bytes es) out refl

pub list_enveloped : (ts : Trees) (out : List ℕ) → IsEncoded (array ts) out → AreBytes out → IsEnvelope out
list_enveloped ts out = enveloped (array ts) (items_bytes 0 ts) out refl
