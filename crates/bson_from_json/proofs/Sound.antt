-- What is written of a readable tree is read again. Keys may repeat, so it need not be read as the same tree.
use Rattle.std.proofs.Common.{◌≡◌, ◌≤◌, ◌<◌, ◌+◌, ◌++◌, ◌∙◌, ◌∷◌, [], ℕ, zero, suc, false, List, length, decimal, arith, ap, refl, sym, subst, inl, inr, append_assoc, length-append}
use Rattle.std.proofs.Math.Nat.{le-max_left, le-max_right}
use Rattle.std.proofs.lemmas.Bool.{cases_lt}
use Rattle.std.proofs.lemmas.Bool.Decides.{nat_tests}
use Rattle.std.proofs.lemmas.Fmt.{IsAscii-decimal}
use Rattle.std.proofs.lemmas.Str.{IsUtf8-from_ascii}
use Rattle.std.specs.Fmt.{digits, digits_onto}
use Rattle.std.specs.Str.{IsUtf8}
use Rattle.bson_model.specs.Bytes.{AreBytes, NulFree}
use Rattle.bson_model.specs.Leaf.{Leaf}
use Rattle.bson_model.specs.Pairs.{keep}
use Rattle.bson_model.specs.Proper.{InEntries, InTrees}
use Rattle.bson_model.specs.Tree.{Tree, Trees, Entries, leaf, array, document, code_with_scope, no_tree, tree_then, no_entry, entry_then, entries}
use Rattle.bson_model.proofs.Face.{AreBytes-append, AreBytes-nil, NulFree-cons, NulFree-nil}
use Rattle.raw_view.specs.Frame.{Done, Frame, HasShape, IsWalk}
use Rattle.raw_view.specs.Frame.Envelope.{IsEnvelope}
use Rattle.raw_view.specs.Frame.Format.{element_of, framed, leaf_payload, string_payload}
use Rattle.raw_view.specs.Frame.Number.{max_length}
use Rattle.raw_view.specs.Meaning.{KeyedFault, MeansValue, RawValue}
use Rattle.raw_view.specs.Meaning as raw
use Rattle.raw_view.proofs.Face.{AreBytes-element, AreBytes-framed, AreBytes-leaf, AreBytes-scoped, declared_shape, framed_is_envelope, leaf_means, leaf_shape, length-framed, scoped_means}
use Rattle.raw_tree.specs.Encoding.{encoded_len, encoding, entries_bytes, entries_len, items_bytes, items_len, kind_of_tree, tree_payload}
use Rattle.raw_tree.specs.Members.{numbered}
use Rattle.raw_tree.specs.Reading.{ReadsUpTo, Sort, barriers, StandForEach, StandsFor, as_array, as_document, leaf_in_order, tree_of_pairs}
use Rattle.raw_tree.specs.WithinLimits.{Barrier, fault_of, too_deep, too_many_bytes}
use Rattle.raw_tree.specs.Places.{FirstBarrierAt, Step}
use Rattle.raw_tree.specs.walk.First.{IsFirst}
use Rattle.raw_tree.specs.declared.reader.limits.Limits.{Limits}
use Rattle.raw_tree.proofs.Face.{answered_one_way, bytes_one_way, length-tree_payload, read_within}
use Rattle.bson_from_json.specs.Depths.{entries_depth, items_depth, tree_depth}
use Rattle.bson_from_json.specs.Levels.{IsLeafReadable, IsReadAgain, IsReadable, IsReadableDocument, readable_parts}

-- the payload of a tree is bytes, has the shape of its kind whatever follows it, and means a value that stands for a tree of at most n levels
record IsRead (n : ℕ) (t : Tree) : Type 0 where
  bytes : AreBytes (tree_payload t)
  shape : (r : List ℕ) → HasShape (kind_of_tree t) (tree_payload t) r
  value : RawValue
  means : MeansValue (kind_of_tree t) (tree_payload t) value
  tree : Tree
  stands : StandsFor (ReadsUpTo n) value tree

leaf_read : (n : ℕ) (l : Leaf) → IsLeafReadable l → length (leaf_payload l) ≤ max_length → IsRead n (leaf l)
leaf_read n l h b = record {
  bytes = AreBytes-leaf l h.0;
  shape = λ r. leaf_shape l r h.0 h.1 b;
  value = raw.single l;
  means = leaf_means l h.0 h.1 h.2 b;
  tree = leaf (leaf_in_order l);
  stands = refl;
}

-- the frames of written elements
abbrev frames_in : Entries → List Frame
frames_in no_entry = []
frames_in (entry_then key t es) = record { kind = kind_of_tree t; key = key; payload = tree_payload t } ∷ frames_in es

-- written elements are bytes; followed by a 0 they have a walk, whose frames stand for pairs
record AreRead (n : ℕ) (es : Entries) : Type 0 where
  bytes : AreBytes (entries_bytes es)
  walk : IsWalk (entries_bytes es ++ 0 ∷ []) (frames_in es) Done
  pairs : List (List ℕ × Tree)
  stand : StandForEach (ReadsUpTo n) (frames_in es) pairs

none_read : (n : ℕ) → AreRead n no_entry
none_read n = record { bytes = AreBytes-nil; walk = refl; pairs = []; stand = refl }

one_read : (n : ℕ) (key : List ℕ) (t : Tree) (es : Entries) → IsUtf8 key → NulFree key → IsRead n t → AreRead n es → AreRead n (entry_then key t es)
one_read n key t es utf8 free h rest =
    let behind : List ℕ = entries_bytes es ++ 0 ∷ [] in
    record {
      bytes = AreBytes-append (element_of (kind_of_tree t) key (tree_payload t)) (entries_bytes es) (AreBytes-element (kind_of_tree t) key (tree_payload t) utf8 h.bytes) rest.bytes;
      walk = (behind, record { spelled = simp append_assoc; key_nul_free = free; key_utf8 = utf8; payload_is = h.shape behind }, rest.walk);
      pairs = (key, h.tree) ∷ rest.pairs;
      stand = (h.value, h.tree, rest.pairs, h.means, h.stands, refl, rest.stand);
    }

-- bytes with an envelope that are read as these pairs
abbrev IsFrameRead : ℕ → Sort → List ℕ → Type 0
IsFrameRead n sort b = IsEnvelope b × ((pairs : List (List ℕ × Tree)) × ReadsUpTo n sort b (tree_of_pairs sort pairs))

framed_read : (n : ℕ) (sort : Sort) (es : Entries) → AreRead n es → 5 + length (entries_bytes es) ≤ max_length → IsFrameRead (suc n) sort (framed (entries_bytes es))
framed_read n sort es w l = (framed_is_envelope (entries_bytes es) (AreBytes-framed (entries_bytes es) w.bytes) l, (w.pairs, (w.pairs, (frames_in es, w.walk, w.stand), refl)))

-- the elements of a list are those of its members
items_numbered : (n : ℕ) (ts : Trees) → entries_bytes (numbered n ts) ≡ items_bytes n ts
items_numbered n no_tree = refl
items_numbered n (tree_then t ts) = ap (λ (b : List ℕ). element_of (kind_of_tree t) (decimal n) (tree_payload t) ++ b) (items_numbered (n + 1) ts)

digits_nul_free : (k n : ℕ) (acc : List ℕ) → NulFree acc → NulFree (digits_onto k 10 false n acc)
digits_nul_free zero n acc h = h
digits_nul_free (suc k) n acc h = grind (arith, nat_tests, NulFree-cons, digits_nul_free k)

decimal_nul_free : (n : ℕ) → NulFree (decimal n)
unfolding digits
decimal_nul_free n = digits_nul_free 64 n [] NulFree-nil

code_read : (n : ℕ) (code : List ℕ) (es : Entries) → IsUtf8 code → IsFrameRead n as_document (framed (entries_bytes es))
    → 4 + (5 + length code) + (5 + entries_len es) ≤ max_length → IsRead n (code_with_scope code es)
code_read n code es u h l =
    let scope : List ℕ = framed (entries_bytes es) in
    let inside : List ℕ = string_payload code ++ scope in
    let fits : 4 + length inside ≤ max_length = omega (arith, length-append (string_payload code) scope, length-append code (0 ∷ []), length-tree_payload (document es)) in
    record {
      bytes = AreBytes-scoped code scope u h.0.bytes;
      shape = λ r. declared_shape inside r fits;
      value = raw.scoped code scope;
      means = scoped_means code scope u h.0 fits;
      tree = code_with_scope code (entries (keep h.1.0));
      stands = (entries (keep h.1.0), h.1.1, refl);
    }

mutual
  -- a readable tree that isn't too long, and has at most n levels
  tree_read : (n : ℕ) (t : Tree) → IsReadable t → encoded_len t ≤ max_length → tree_depth t ≤ n → IsRead n t
  tree_read n (leaf l) p b d = leaf_read n l p b
  tree_read zero (array ts) p b d = absurd (omega (arith, d))
  tree_read (suc n) (array ts) p b d =
      let size : 5 + length (entries_bytes (numbered 0 ts)) ≤ max_length =
      omega (arith, ap length (items_numbered 0 ts), length-framed (items_bytes 0 ts), length-tree_payload (array ts), b) in
      let h : IsFrameRead (suc n) as_array (framed (items_bytes 0 ts)) =
      subst (λ (x : List ℕ). IsFrameRead (suc n) as_array (framed x)) (items_numbered 0 ts)
      (framed_read n as_array (numbered 0 ts) (items_read n 0 ts p (omega (arith, b)) (omega (arith, d))) size) in
      record {
        bytes = h.0.bytes;
        shape = λ r. h.0;
        value = raw.array (framed (items_bytes 0 ts));
        means = refl;
        tree = tree_of_pairs as_array h.1.0;
        stands = h.1.1;
      }
  tree_read zero (document es) p b d = absurd (omega (arith, d))
  tree_read (suc n) (document es) p b d =
      let size : 5 + length (entries_bytes es) ≤ max_length = omega (arith, length-framed (entries_bytes es), length-tree_payload (document es), b) in
      let h = framed_read n as_document es (entries_read n es p.1 (omega (arith, b)) (omega (arith, d))) size in
      record {
        bytes = h.0.bytes;
        shape = λ r. h.0;
        value = raw.document (framed (entries_bytes es));
        means = refl;
        tree = tree_of_pairs as_document h.1.0;
        stands = h.1.1;
      }
  tree_read zero (code_with_scope code es) p b d = absurd (omega (arith, d))
  tree_read (suc n) (code_with_scope code es) p b d =
      let size : 5 + length (entries_bytes es) ≤ max_length = omega (arith, length-framed (entries_bytes es), length-tree_payload (document es), b) in
      code_read (suc n) code es p.0 (framed_read n as_document es (entries_read n es p.2 (omega (arith, b)) (omega (arith, d))) size) b

  -- and the members of a list
  items_read : (n m : ℕ) (ts : Trees) → InTrees readable_parts ts → m + items_len m ts ≤ max_length → items_depth ts ≤ n → AreRead n (numbered m ts)
  items_read n m no_tree p b d = none_read n
  items_read n m (tree_then t ts) p b d =
      let utf8 = IsUtf8-from_ascii (decimal m) (IsAscii-decimal m (omega (arith, b))) in
      one_read n (decimal m) t (numbered (m + 1) ts) utf8 (decimal_nul_free m)
      (tree_read n t p.0 (omega (arith, b)) (omega (arith, d, le-max_left (tree_depth t) (items_depth ts))))
      (items_read n (m + 1) ts p.1 (omega (arith, b)) (omega (arith, d, le-max_right (tree_depth t) (items_depth ts))))

  -- and the entries of a document
  entries_read : (n : ℕ) (es : Entries) → InEntries readable_parts es → entries_len es ≤ max_length → entries_depth es ≤ n → AreRead n es
  entries_read n no_entry p b d = none_read n
  entries_read n (entry_then key t es) p b d =
      one_read n key t es p.0.0 p.0.1 (tree_read n t p.1 (omega (arith, b)) (omega (arith, d, le-max_left (tree_depth t) (entries_depth es))))
      (entries_read n es p.2 (omega (arith, b)) (omega (arith, d, le-max_right (tree_depth t) (entries_depth es))))

-- a readable document that isn't too long, and has at most d levels
read_to_depth : (d : ℕ) (b : List ℕ) (es : Entries) → length b ≤ max_length → InEntries readable_parts es → b ≡ encoding (document es) → suc (entries_depth es) ≤ d
    → IsEnvelope b × ((t : Tree) × ReadsUpTo d as_document b t)
read_to_depth zero b es l readable e deep = absurd (omega (arith, deep))
read_to_depth (suc d) b es l readable e deep =
    let len : length b ≡ 5 + entries_len es = omega (arith, ap length e, length-tree_payload (document es)) in
    let size : 5 + length (entries_bytes es) ≤ max_length = omega (arith, len, length-framed (entries_bytes es), length-tree_payload (document es), l) in
    let h = framed_read d as_document es (entries_read d es readable (omega (arith, len, l)) (omega (arith, deep))) size in
    subst (λ (x : List ℕ). IsEnvelope x × ((t : Tree) × ReadsUpTo (suc d) as_document x t)) (sym e) (h.0, (tree_of_pairs as_document h.1.0, h.1.1))

pub document_read : (b : List ℕ) → length b ≤ max_length → IsReadableDocument b → IsReadAgain b
document_read b l (es, readable, e) =
    let read = read_to_depth (suc (entries_depth es)) b es l readable e (omega arith) in (read.0, (read.1.0, (suc (entries_depth es), read.1.1)))

-- no first fault

other_barrier : (fault : KeyedFault) → fault_of fault ≡ too_many_bytes → ⊥
other_barrier fault e = cc

-- what is read again has no fault
pub no_fault : (limits : Limits) (b : List ℕ) (x : Barrier) (fault : KeyedFault) {path : List Step} {offset : ℕ} → IsReadAgain b → FirstBarrierAt limits b x path offset → x ≡ fault_of fault → ⊥
no_fault limits b x fault (env, (t, read)) (inl (many, is, whole, none)) e = other_barrier fault (sym e ∙ is)
no_fault limits b x fault {path} {offset} (env, (t, read)) (inr (few, first)) e = (bytes_one_way as_document b env).not_both t fault read (limits.depth, path, offset, rw e at first)

-- limits

many_is_not_deep : too_many_bytes ≡ too_deep → ⊥
many_is_not_deep e = cc

never_many : (n : ℕ) (sort : Sort) (b : List ℕ) (path : List Step) (offset : ℕ) → IsFirst barriers n sort b too_many_bytes path offset → ⊥
never_many zero sort b path offset h = many_is_not_deep h.0
never_many (suc n) sort b path offset (passed, s, leads, passes, inl (key, is, named, begins)) = is
never_many (suc n) sort b path offset (passed, s, leads, passes, inr (none, (f, q, v, inner, d, steps, inside, frame, means, holds, nested, named, begins))) = never_many n inner d steps inside nested

deep_is_not_many : too_deep ≡ too_many_bytes → ⊥
deep_is_not_many e = cc

-- a readable document with too many bytes, or too many levels
module _ (limits : Limits) (b : List ℕ) (es : Entries) (is : b ≡ encoding (document es)) (x : Barrier) where
  pub too_long : {path : List Step} {offset : ℕ} → FirstBarrierAt limits b x path offset → x ≡ too_many_bytes → limits.bytes < encoded_len (document es)
  too_long {path} {offset} (inl (many, e, whole, start)) same = omega (arith, many, ap length is, length-tree_payload (document es))
  too_long {path} {offset} (inr (few, first)) same =
      absurd (never_many limits.depth as_document b path offset (subst (λ (y : Barrier). IsFirst barriers limits.depth as_document b y path offset) same first))

  pub too_deep_told : {path : List Step} {offset : ℕ} → length b ≤ max_length → InEntries readable_parts es → FirstBarrierAt limits b x path offset → x ≡ too_deep
      → limits.depth < tree_depth (document es)
  too_deep_told {path} {offset} l readable (inl (many, e, whole, start)) same = absurd (deep_is_not_many (sym same ∙ e))
  too_deep_told {path} {offset} l readable (inr (few, first)) same =
      elim (cases_lt limits.depth (tree_depth (document es))) [
        | inl deep ↦ deep
        | inr shallow ↦ let (env, (t, read)) = read_to_depth limits.depth b es l readable is shallow in
            absurd ((answered_one_way limits b env).not_both t x (read_within limits b t few read) (path, offset, inr (few, first)))
      ]
