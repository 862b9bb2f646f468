-- What a document becomes is a document that is read as a tree.
use Rattle.std.proofs.Common.{◌≡◌, ◌≢◌, ◌∙◌, ◌≤◌, ◌+◌, ◌++◌, ◌∷◌, [], inl, inr, ℕ, zero, suc, List, drop, length, ap, arith, refl, sym, subst, append_assoc, length-append}
use Rattle.std.specs.Str.{IsUtf8}
use Rattle.std.specs.Str.Lossy.{utf8_lossy}
use Rattle.bson_model.proofs.Face.{AreBytes-append, AreBytes-back, AreBytes-drop, AreBytes-front, AreBytes-nil}
use Rattle.bson_model.specs.Bytes.{AreBytes}
use Rattle.bson_model.specs.Leaf.{Leaf, string, javascript_code, symbol, db_pointer}
use Rattle.bson_model.specs.Proper.{IsLeafInRange, IsLeafNulFree, IsLeafSubtypeProper}
use Rattle.raw_view.proofs.Face.{AreBytes-element, AreBytes-framed, AreBytes-leaf, AreBytes-rest, AreBytes-scoped, declared_shape, framed_is_envelope, leaf_means, leaf_shape, length-framed, length-scoped_payload, scoped_means, stands_anywhere}
use Rattle.raw_view.specs.Frame.{Done, HasShape, IsShortScope, IsWalk}
use Rattle.raw_view.specs.Frame.Format.{element_of, scoped_payload, string_payload}
use Rattle.raw_view.specs.Meaning as raw
use Rattle.raw_view.specs.Meaning.{MeansValue}
use Rattle.raw_view.specs.declared.element_type.ElementType.{ElementType}
use Rattle.raw_view.specs.declared.element_type.ElementType.TheVariants as kind
use Rattle.raw_tree.specs.Payload.{element_bytes}
use Rattle.raw_tree.specs.Reading.{as_array, tree_of_pairs}
use Rattle.bson_model.specs.Tree.{code_with_scope}
use Rattle.raw_form.specs.Replacing.{BecomeBytes, Becomes, BecomesUpTo, HasBadText, IsValueWith, MeansKept}
use Rattle.raw_form.proofs.canonical.Common.{Frame, IsEnvelope, IsFrame, Means, RawValue, ReadsUpTo, Sort, StandForEach, StandsFor, Tree, as_document, entries, keep, kind_of_leaf, kind_of_raw, leaf, leaf_in_order, leaf_payload, max_length, payload_of, tag_of, value, value_spelled}
use Rattle.raw_form.proofs.replacing.Lossless.{lossy_utf8}

-- an element is put with this value, whose levels may be n deep: it stands before any bytes, and means a value that is read as a tree
record IsPut (n : ℕ) (w : RawValue) : Type 0 where
  shape : (r : List ℕ) → HasShape (kind_of_raw w) (payload_of w) r
  means : MeansValue (kind_of_raw w) (payload_of w) w
  bytes : AreBytes (payload_of w)
  tree : Tree
  stands : StandsFor (ReadsUpTo n) w tree

-- what a frame's element has
payload_bytes : (s : List ℕ) (f : Frame) (r : List ℕ) → IsFrame s f r → AreBytes s → AreBytes f.payload
payload_bytes s f r at bytes =
    let head = tag_of f.kind ∷ (f.key ++ 0 ∷ []) in
    let whole : s ≡ head ++ (f.payload ++ r) = at.spelled ∙ ap (λ (x : List ℕ). tag_of f.kind ∷ x) (sym (append_assoc f.key (0 ∷ []) (f.payload ++ r))) in
    AreBytes-front f.payload r (AreBytes-back head (f.payload ++ r) (subst AreBytes whole bytes))

-- leaves

no_scope : (l : Leaf) → kind_of_leaf l ≢ kind.JavaScriptCodeWithScope
no_scope l e = grind arith

-- one that the frame means
own_put : (n : ℕ) (s : List ℕ) (f : Frame) (r : List ℕ) (l : Leaf) → IsFrame s f r → AreBytes s → Means f (value (raw.single l)) → IsPut n (raw.single l)
own_put n s f r l at bytes means =
    let (payload_is, kind_is) = value_spelled f.kind f.payload r (raw.single l) at.payload_is means in
    let long : ¬ IsShortScope f = λ short. no_scope l (kind_is ∙ short.0) in
    let stands = stands_anywhere f at.key_nul_free at.key_utf8 ∣ (r, at.payload_is) ∣₁ long in
    record {
      shape = λ q. rw (payload_is, kind_is) (stands q).payload_is;
      means = rw (payload_is, kind_is) means;
      bytes = rw payload_is (payload_bytes s f r at bytes);
      tree = leaf (leaf_in_order l);
      stands = refl;
    }

-- one whose text is replaced
leaf_with : (k : ElementType) (p text rest : List ℕ) (l : Leaf) → HasBadText k p text rest → AreBytes p → IsValueWith k (utf8_lossy text) rest (raw.single l)
    → IsLeafInRange l × IsLeafNulFree l × IsLeafSubtypeProper l
leaf_with kind.String p text rest l bad bytes is = let it : l ≡ string (utf8_lossy text) = cc in rw it (lossy_utf8 text, tt, tt)
leaf_with kind.JavaScriptCode p text rest l bad bytes is = let it : l ≡ javascript_code (utf8_lossy text) = cc in rw it (lossy_utf8 text, tt, tt)
leaf_with kind.Symbol p text rest l bad bytes is = let it : l ≡ symbol (utf8_lossy text) = cc in rw it (lossy_utf8 text, tt, tt)
leaf_with kind.DbPointer p text rest l bad bytes is =
    let it : l ≡ db_pointer (utf8_lossy text) rest = cc in
    let id_bytes : AreBytes rest = AreBytes-back (string_payload text) rest (subst AreBytes bad.0.spelled bytes) in
    rw it ((lossy_utf8 text, (bad.0.id_len, id_bytes)), tt, tt)
leaf_with kind.JavaScriptCodeWithScope p text rest l bad bytes is = let no : raw.single l ≡ raw.scoped (utf8_lossy text) rest = is.1 in absurd (cc)
leaf_with _ p text rest l bad bytes is = absurd bad

leaf_put : (n : ℕ) (s : List ℕ) (f : Frame) (r : List ℕ) (l : Leaf) → IsFrame s f r → AreBytes s → length (leaf_payload l) ≤ max_length → MeansKept f (raw.single l) → IsPut n (raw.single l)
leaf_put n s f r l at bytes short (inl means) = own_put n s f r l at bytes means
leaf_put n s f r l at bytes short (inr (text, rest, bad, with)) =
    let (in_range, nul_free, proper) = leaf_with f.kind f.payload text rest l bad (payload_bytes s f r at bytes) with in
    record {
      shape = λ q. leaf_shape l q in_range nul_free short;
      means = leaf_means l in_range nul_free proper short;
      bytes = AreBytes-leaf l in_range;
      tree = leaf (leaf_in_order l);
      stands = refl;
    }

-- levels

-- the bytes have an envelope, and are read as the tree of some pairs
abbrev IsRead : ℕ → List ℕ → Type 0
IsRead n e = IsEnvelope e × ((pairs : List (List ℕ × Tree)) × ((sort : Sort) → ReadsUpTo n sort e (tree_of_pairs sort pairs)))

-- what nested bytes become
abbrev NestedRead : ℕ → Type 0
NestedRead n = (d e : List ℕ) → IsEnvelope d → length e ≤ max_length → BecomesUpTo n d e → IsRead n e

no_document : (k : ElementType) (p text rest d : List ℕ) → HasBadText k p text rest → IsValueWith k (utf8_lossy text) rest (raw.document d) → ⊥
no_document kind.String p text rest d bad is = cc
no_document kind.JavaScriptCode p text rest d bad is = cc
no_document kind.Symbol p text rest d bad is = cc
no_document kind.DbPointer p text rest d bad is = cc
no_document kind.JavaScriptCodeWithScope p text rest d bad is = let no : raw.document d ≡ raw.scoped (utf8_lossy text) rest = is.1 in cc
no_document _ p text rest d bad is = bad

no_array : (k : ElementType) (p text rest d : List ℕ) → HasBadText k p text rest → IsValueWith k (utf8_lossy text) rest (raw.array d) → ⊥
no_array kind.String p text rest d bad is = cc
no_array kind.JavaScriptCode p text rest d bad is = cc
no_array kind.Symbol p text rest d bad is = cc
no_array kind.DbPointer p text rest d bad is = cc
no_array kind.JavaScriptCodeWithScope p text rest d bad is = let no : raw.array d ≡ raw.scoped (utf8_lossy text) rest = is.1 in cc
no_array _ p text rest d bad is = bad

scope_with : (k : ElementType) (p text rest code d : List ℕ) → HasBadText k p text rest → IsValueWith k (utf8_lossy text) rest (raw.scoped code d) → IsUtf8 code × IsEnvelope d
scope_with kind.String p text rest code d bad is = absurd (cc)
scope_with kind.JavaScriptCode p text rest code d bad is = absurd (cc)
scope_with kind.Symbol p text rest code d bad is = absurd (cc)
scope_with kind.DbPointer p text rest code d bad is = absurd (cc)
scope_with kind.JavaScriptCodeWithScope p text rest code d bad is =
    let same : raw.scoped code d ≡ raw.scoped (utf8_lossy text) rest = is.1 in
    let code_is : code ≡ utf8_lossy text = cc in
    let scope_is : d ≡ rest = cc in
    (rw code_is (lossy_utf8 text), rw scope_is is.0)
scope_with _ p text rest code d bad is = absurd bad

document_in : (s : List ℕ) (f : Frame) (r d : List ℕ) → IsFrame s f r → MeansKept f (raw.document d) → IsEnvelope d
document_in s f r d at (inl means) =
    let (payload_is, kind_is) = value_spelled f.kind f.payload r (raw.document d) at.payload_is means in
    rw payload_is (subst (λ (k : ElementType). HasShape k f.payload r) (sym kind_is) at.payload_is)
document_in s f r d at (inr (text, rest, bad, with)) = absurd (no_document f.kind f.payload text rest d bad with)

array_in : (s : List ℕ) (f : Frame) (r d : List ℕ) → IsFrame s f r → MeansKept f (raw.array d) → IsEnvelope d
array_in s f r d at (inl means) =
    let (payload_is, kind_is) = value_spelled f.kind f.payload r (raw.array d) at.payload_is means in
    rw payload_is (subst (λ (k : ElementType). HasShape k f.payload r) (sym kind_is) at.payload_is)
array_in s f r d at (inr (text, rest, bad, with)) = absurd (no_array f.kind f.payload text rest d bad with)

scope_in : (s : List ℕ) (f : Frame) (r code d : List ℕ) → IsFrame s f r → MeansKept f (raw.scoped code d) → IsUtf8 code × IsEnvelope d
scope_in s f r code d at (inl means) =
    let (payload_is, kind_is) = value_spelled f.kind f.payload r (raw.scoped code d) at.payload_is means in
    let (x, y, is, utf8, envelope, same) = subst (λ (k : ElementType). MeansValue k f.payload (raw.scoped code d)) (sym kind_is) means in
    let codes_are : code ≡ x = cc in
    let scopes_are : d ≡ y = cc in
    (subst IsUtf8 (sym codes_are) utf8, subst IsEnvelope (sym scopes_are) envelope)
scope_in s f r code d at (inr (text, rest, bad, with)) = scope_with f.kind f.payload text rest code d bad with

module _ (n : ℕ) (nested : NestedRead n) where
  -- any value
  value_put : (s : List ℕ) (f : Frame) (r : List ℕ) (v w : RawValue) → IsFrame s f r → AreBytes s → MeansKept f v → Becomes (BecomesUpTo n) v w → length (payload_of w) ≤ max_length → IsPut n w
  value_put s f r (raw.single l) w at bytes means is short = rw is (leaf_put n s f r l at bytes (rw is at short) means)
  value_put s f r (raw.document d) w at bytes means (e, becomes, is) short =
      let (envelope, (pairs, reads)) = nested d e (document_in s f r d at means) (rw is at short) becomes in
      rw is (record { shape = λ q. envelope; means = refl; bytes = envelope.bytes; tree = tree_of_pairs as_document pairs; stands = reads as_document })
  value_put s f r (raw.array d) w at bytes means (e, becomes, is) short =
      let (envelope, (pairs, reads)) = nested d e (array_in s f r d at means) (rw is at short) becomes in
      rw is (record { shape = λ q. envelope; means = refl; bytes = envelope.bytes; tree = tree_of_pairs as_array pairs; stands = reads as_array })
  value_put s f r (raw.scoped code d) w at bytes means (e, becomes, is) short =
      let (utf8, scope) = scope_in s f r code d at means in
      let long : length (scoped_payload code e) ≤ max_length = rw is at short in
      let whole : 4 + length (string_payload code ++ e) ≤ max_length = omega (arith, long) in
      let (envelope, (pairs, reads)) = nested d e scope (omega (arith, long, length-scoped_payload code e)) becomes in
      rw is (record {
        shape = λ q. declared_shape (string_payload code ++ e) q whole;
        means = scoped_means code e utf8 envelope whole;
        bytes = AreBytes-scoped code e utf8 envelope.bytes;
        tree = code_with_scope code (entries (keep pairs));
        stands = (entries (keep pairs), reads as_document, refl);
      })

  -- what frames become is a walk of other frames
  frames_put : (s : List ℕ) (frames : List Frame) (inside : List ℕ) → AreBytes s → length inside ≤ max_length → IsWalk s frames Done → BecomeBytes (BecomesUpTo n) frames inside
      → AreBytes inside × ((fs : List Frame) × (pairs : List (List ℕ × Tree)) × IsWalk (inside ++ 0 ∷ []) fs Done × StandForEach (ReadsUpTo n) fs pairs)
  frames_put s [] inside bytes short walk is = rw is (AreBytes-nil, ([], [], refl, refl))
  frames_put s (f ∷ frames) inside bytes short (r, at, walk) (v, w, rest, means, becomes, more, is) =
      let p = payload_of w in
      let element = element_bytes f.key w in
      let len : length inside ≡ (2 + length f.key + length p) + length rest = ap length is ∙ omega (arith, length-append element rest, length-append f.key (0 ∷ p)) in
      let put = value_put s f r v w at bytes means becomes (omega (arith, short, len)) in
      let (others, (fs, pairs, led, each)) = frames_put r frames rest (AreBytes-rest s f r at bytes) (omega (arith, short, len)) walk more in
      let g : Frame = record { kind = kind_of_raw w; key = f.key; payload = p } in
      let spelled : inside ++ 0 ∷ [] ≡ element_of (kind_of_raw w) f.key (p ++ (rest ++ 0 ∷ [])) = rw is (simp append_assoc) in
      let there : IsFrame (inside ++ 0 ∷ []) g (rest ++ 0 ∷ []) =
      record { spelled = spelled; key_nul_free = at.key_nul_free; key_utf8 = at.key_utf8; payload_is = put.shape (rest ++ 0 ∷ []) } in (
        rw is (AreBytes-append element rest (AreBytes-element (kind_of_raw w) f.key p at.key_utf8 put.bytes) others),
        (g ∷ fs, (f.key, put.tree) ∷ pairs, (rest ++ 0 ∷ [], there, led), (w, put.tree, pairs, put.means, put.stands, refl, each)),
      )

pub becomes_read : (n : ℕ) → NestedRead n
becomes_read zero d e envelope short becomes = absurd becomes
becomes_read (suc n) d e envelope short (inside, (frames, walk, bytes), is) =
    let len : length e ≡ 5 + length inside = ap length is ∙ length-framed inside in
    let (put, (fs, pairs, led, each)) = frames_put n (becomes_read n) (drop 4 d) frames inside (AreBytes-drop 4 d envelope.bytes) (omega (arith, short, len)) walk bytes in
    rw is (framed_is_envelope inside (AreBytes-framed inside put) (omega (arith, short, len)), (pairs, λ sort. (pairs, (fs, led, each), refl)))
