-- Every frame has a meaning, and every document its items.
use Rattle.std.proofs.Common.{◌≡◌, ◌⊎◌, inl, inr, ◌++◌, ◌∷◌, [], ◌+◌, ◌-◌, ◌≤◌, ℕ, ℤ, pos, get_or, Some, negsuc, zero, suc, true, false, List, length, take, drop, w64, arith, ap, sym, refl, ◌∙◌, subst, length-drop, append_assoc}
use Rattle.std.specs.Int.{from_le_bytes}
use Rattle.std.proofs.lemmas.Bool.{cases_eq, cases_lt}
use Rattle.std.proofs.lemmas.Int.{ints}
use Rattle.std.proofs.lemmas.List.{take-append-drop, take-append-le, length-take-le}
use Rattle.std.proofs.lemmas.Option.{slice_get-get_or, get_or_from_slice_get}
use Rattle.bson_model.specs.Leaf.{Leaf, double, string, binary, undefined, object_id, boolean, date_time, null, regular_expression, db_pointer, javascript_code, symbol, int32, timestamp, int64, decimal128, max_key, min_key}
use Rattle.bson_model.specs.Subtype.{subtype_of}
use Rattle.bson_model.specs.declared.binaries.BinarySubtype.TheVariants.{BinaryOld}
use Rattle.bson_model.specs.Bytes.{AreBytes}
use Rattle.raw_view.specs.Frame.Number.{le32, IsLe32}
use Rattle.raw_view.specs.Frame.Envelope.{IsEnvelope, Refuses}
use Rattle.raw_view.specs.Frame.Kind.{tag_of}
use Rattle.raw_view.specs.declared.element_type.ElementType.{ElementType}
use Rattle.raw_view.specs.declared.element_type.ElementType.TheVariants as kind
use Rattle.raw_view.specs.declared.error.Reason.{Reason}
use Rattle.raw_view.specs.declared.error.Reason.TheVariants as reason
use Rattle.raw_view.specs.Frame.{Frame, IsFrame, HasShape, HasText, IsBinary, IsDbPointer, HasDeclaredLength, IsWalk, End, Done, Stopped}
use Rattle.raw_view.specs.Meaning.{single, document, array, scoped, Meaning, value, faulty, Means, MeansValue, MeansFault, SpellsText, SpellsNoText, HasInnerLength, IsCodeWithScope, KeyedFault, malformed, malformed_at, not_text}
use Rattle.raw_view.specs.Meaning.{OldBinaryFault, no_inner_length, overflow, wrong_inner_length, too_small, no_code, code_no_text, no_scope}
use Rattle.raw_view.specs.Meaning.Item.{Item, entry, stopped, ItemsOf, AreItems}
use Rattle.raw_view.proofs.Bytes.Numbers.{read_front, unsigned32, unsigned64, signed32, signed64, length_fits}
use Rattle.raw_view.proofs.Frames.Payloads.{timestamp_found}
use Rattle.bson_model.proofs.Face.{AreBytes-take, AreBytes-front, AreBytes-back, AreBytes-drop}
use Rattle.raw_view.proofs.Frames.Shapes.{scope_parts}
use Rattle.raw_view.proofs.Bytes.DecidedTexts.{utf8_or_not}
use Rattle.raw_view.proofs.Frames.Decided.{string_or_not, length_or_not, one_length}
use Rattle.raw_view.proofs.Frames.Reasons.{string_reason}
use Rattle.raw_view.proofs.Frames.Walks.{AreBytes-rest, document_has_walk}

-- bytes begin with their length, or not
header_or_not : (b : List ℕ) → AreBytes b → IsLe32 (take 4 b) (pos (length b)) ⊎ ¬ IsLe32 (take 4 b) (pos (length b))
header_or_not b bytes =
    elim (length_or_not b bytes) [
      | inl h ↦ elim (cases_eq h.0 (length b)) [
        | inl e ↦ inl (subst (λ (x : ℕ). IsLe32 (take 4 b) (pos x)) e h.1)
        | inr d ↦ inr (λ k. d (sym (one_length (take 4 b) h.0 (length b) h.1 k)))
      ]
      | inr none ↦ inr (none (length b))
    ]

-- these bytes are an envelope, or there is a first reason why they aren't
envelope_or_reason : (b : List ℕ) → AreBytes b → IsEnvelope b ⊎ ((why : Reason) × Refuses b why)
envelope_or_reason b bytes =
    elim (cases_lt (length b) 5) [
      | inl l ↦ inr (reason.TooShort, l)
      | inr l ↦ elim (header_or_not b bytes) [
        | inl h ↦ elim (cases_eq (get_or b (length b - 1) 0) 0) [
          | inl e ↦ inl (record { bytes = bytes; enough = l; header = h; ended = slice_get-get_or b (length b - 1) 0 (omega arith) ∙ ap Some e })
          | inr d ↦ inr (reason.NotTerminated, (l, h, λ e. d (get_or_from_slice_get b _ 0 0 e)))
        ]
        | inr n ↦ inr (reason.LengthIncorrect, (l, n))
      ]
    ]

-- what a payload means, by kind
abbrev HasMeaning : ElementType → List ℕ → List ℕ → Type 0
HasMeaning kind key p = (m : Meaning) × Means (record { kind = kind; key = key; payload = p }) m

-- a string is that of a UTF-8 text, or isn't
text_means : (kind : ElementType) (key p : List ℕ) (leaf : List ℕ → Leaf) → HasText p
    → ((text : List ℕ) → SpellsText p text → MeansValue kind p (single (leaf text))) → (SpellsNoText p → MeansFault kind key p not_text) → HasMeaning kind key p
text_means kind key p leaf t good bad =
    elim (utf8_or_not t.0) [
      | inl u ↦ (value (single (leaf t.0)), good t.0 (t.1, u))
      | inr n ↦ (faulty not_text, bad (t.0, t.1, n))
    ]

-- one byte: false, true, or a fault
boolean_means : (key p : List ℕ) → length p ≡ 1 → HasMeaning kind.Boolean key p
boolean_means key [] l = absurd (omega arith)
boolean_means key (x ∷ y ∷ p) l = absurd (omega arith)
boolean_means key (zero ∷ []) l = (value (single (boolean false)), (false, refl, refl))
boolean_means key (suc zero ∷ []) l = (value (single (boolean true)), (true, refl, refl))
boolean_means key (suc (suc n) ∷ []) l = (faulty (malformed_at (reason.BadBoolean (suc (suc n))) key), (suc (suc n), refl, omega arith, refl))

-- the inner length of an old binary counts the rest, or it is a fault
inner_length : (key outer : List ℕ) (v : ℤ) → 4 ≤ length outer → IsLe32 (take 4 outer) v → ((inner : List ℕ) × HasInnerLength outer inner) ⊎ ((fault : KeyedFault) × OldBinaryFault key outer fault)
inner_length key outer (pos n) l h =
    elim (cases_eq (n + 4) (length outer)) [
      | inl e ↦ (
          let size : length (drop 4 outer) ≡ n = omega (arith, length-drop 4 outer) in
          let head : take 4 outer ≡ le32 (pos (length (drop 4 outer))) = rw size h.bytes_are in
          inl (drop 4 outer, record { fits = omega (arith, size, length_fits (take 4 outer) n h); spelled = sym (take-append-drop 4 outer) ∙ ap (λ x. x ++ drop 4 outer) head }))
      | inr d ↦ inr (malformed_at reason.OldWrongInner key, wrong_inner_length (pos n) l h (λ o. omega (arith, ints, o.0, o.1)) (λ e. d (omega (arith, ints, e))) refl)
    ]
inner_length key outer (negsuc n) l h =
    elim (cases_lt n 4) [
      | inl s ↦ inr (malformed reason.AddOverflow, overflow (negsuc n) l h (omega (arith, ints), omega (arith, ints)) refl)
      | inr g ↦ inr (malformed_at reason.OldWrongInner key, wrong_inner_length (negsuc n) l h (λ o. omega (arith, ints, o.0, o.1)) (λ e. omega (arith, ints, e)) refl)
    ]

-- a binary of subtype 2
old_binary_means : (key p outer : List ℕ) → AreBytes outer → IsBinary p 2 outer → HasMeaning kind.Binary key p
old_binary_means key p outer bytes b =
    elim (cases_lt (length outer) 4) [
      | inl l ↦ (faulty (malformed_at reason.OldNoInner key), (outer, b, no_inner_length l refl))
      | inr l ↦ elim (inner_length key outer _ l (read_front outer _ bytes l refl)) [
        | inl i ↦ (value (single (binary BinaryOld i.0)), (2, outer, b, inr (refl, i.0, i.1, refl)))
        | inr f ↦ (faulty f.0, (outer, b, f.1))
      ]
    ]

-- any binary
binary_means : (key p bytes : List ℕ) (subtype : ℕ) → AreBytes p → IsBinary p subtype bytes → HasMeaning kind.Binary key p
binary_means key p bytes subtype all b =
    elim (cases_eq subtype 2) [
      | inl e ↦ (
          let behind : AreBytes (subtype ∷ bytes) = AreBytes-back (le32 (pos (length bytes))) (subtype ∷ bytes) (subst AreBytes b.spelled all) in
          old_binary_means key p bytes (λ i. behind (suc i)) (subst (λ (x : ℕ). IsBinary p x bytes) e b))
      | inr n ↦ (value (single (binary (subtype_of subtype) bytes)), (subtype, bytes, b, inl (n, refl)))
    ]

-- a pointer, whose namespace is UTF-8 or isn't
pointer_means : (key p namespace id : List ℕ) → IsDbPointer p namespace id → HasMeaning kind.DbPointer key p
pointer_means key p namespace id d =
    elim (utf8_or_not namespace) [
      | inl u ↦ (value (single (db_pointer namespace id)), (namespace, id, d, u, refl))
      | inr n ↦ (faulty not_text, (namespace, id, d, n, refl))
    ]

-- a code with scope of at least 14 bytes whose string has been cut off
code_means : (key p code scope : List ℕ) → 14 ≤ length p → AreBytes scope → IsCodeWithScope p code scope → HasMeaning kind.JavaScriptCodeWithScope key p
code_means key p code scope l bytes c =
    elim (utf8_or_not code) [
      | inl u ↦ elim (envelope_or_reason scope bytes) [
        | inl d ↦ (value (scoped code scope), (code, scope, c, u, d, refl))
        | inr r ↦ (faulty (malformed r.0), no_scope code scope r.0 l c u r.1 refl)
      ]
      | inr n ↦ (faulty not_text, code_no_text code scope l c n refl)
    ]

-- any code with scope
scoped_means : (key p r : List ℕ) → AreBytes p → HasDeclaredLength p r → HasMeaning kind.JavaScriptCodeWithScope key p
scoped_means key p r bytes d =
    elim (cases_lt (length p) 14) [
      | inl l ↦ (faulty (malformed_at reason.CodeTooSmall key), too_small l refl)
      | inr l ↦ (
          let behind : AreBytes (drop 4 p) = AreBytes-drop 4 p bytes in
          let four : take 4 (p ++ r) ≡ take 4 p = take-append-le 4 p r (omega arith) in
          let header : IsLe32 (take 4 p) (pos (length p)) = subst (λ (x : List ℕ). IsLe32 x (pos (length p))) four d.header in
          elim (string_or_not (drop 4 p) behind) [
            | inl s ↦ (
                let cut : drop 4 p ≡ take s.0 (drop 4 p) ++ drop s.0 (drop 4 p) = sym (take-append-drop s.0 (drop 4 p)) in
                code_means key p s.2.0 (drop s.0 (drop 4 p)) l (AreBytes-drop s.0 (drop 4 p) behind) (scope_parts p (take s.0 (drop 4 p)) (drop s.0 (drop 4 p)) s.2.0 header cut s.2.1))
            | inr none ↦ (
                let why = string_reason (drop 4 p) behind in
                (faulty (malformed why.0), no_code why.0 l none why.1 refl))
          ])
    ]

-- any payload
payload_means : (k : ElementType) (key p r : List ℕ) → AreBytes p → HasShape k p r → HasMeaning k key p
payload_means kind.Double key p r bytes l = (value (single (double _)), (from_le_bytes w64 p, unsigned64 p l bytes, refl))
payload_means kind.String key p r bytes t = text_means kind.String key p string t (λ text s. (text, s, refl)) (λ n. (n, refl))
payload_means kind.EmbeddedDocument key p r bytes d = (value (document p), refl)
payload_means kind.Array key p r bytes d = (value (array p), refl)
payload_means kind.Binary key p r bytes b = binary_means key p b.1 b.0 bytes b.2
payload_means kind.Undefined key p r bytes l = (value (single undefined), refl)
payload_means kind.ObjectId key p r bytes l = (value (single (object_id p)), refl)
payload_means kind.Boolean key p r bytes l = boolean_means key p l
payload_means kind.DateTime key p r bytes l = (value (single (date_time _)), (_, signed64 p _ (unsigned64 p l bytes), refl))
payload_means kind.Null key p r bytes l = (value (single null), refl)
payload_means kind.RegularExpression key p r bytes x = (value (single (regular_expression x.0 x.1)), (x.0, x.1, x.2, refl))
payload_means kind.DbPointer key p r bytes d = pointer_means key p d.0 d.1 d.2
payload_means kind.JavaScriptCode key p r bytes t = text_means kind.JavaScriptCode key p javascript_code t (λ text s. (text, s, refl)) (λ n. (n, refl))
payload_means kind.Symbol key p r bytes t = text_means kind.Symbol key p symbol t (λ text s. (text, s, refl)) (λ n. (n, refl))
payload_means kind.JavaScriptCodeWithScope key p r bytes d = scoped_means key p r bytes d
payload_means kind.Int32 key p r bytes l = (value (single (int32 _)), (_, signed32 p _ (unsigned32 p l bytes), refl))
payload_means kind.Timestamp key p r bytes l =
    let front = unsigned32 (take 4 p) (length-take-le 4 p (omega arith)) (AreBytes-take 4 p bytes) in
    let back = unsigned32 (drop 4 p) (omega (arith, length-drop 4 p)) (AreBytes-drop 4 p bytes) in
    let parts = timestamp_found p (take 4 p) (drop 4 p) _ _ (sym (take-append-drop 4 p)) front back in
    (value (single (timestamp _ _)), (_, _, parts, refl))
payload_means kind.Int64 key p r bytes l = (value (single (int64 _)), (_, signed64 p _ (unsigned64 p l bytes), refl))
payload_means kind.Decimal128 key p r bytes l = (value (single (decimal128 p)), refl)
payload_means kind.MaxKey key p r bytes l = (value (single max_key), refl)
payload_means kind.MinKey key p r bytes l = (value (single min_key), refl)

-- a frame has a meaning
pub has_meaning : (f : Frame) (r s : List ℕ) → AreBytes s → IsFrame s f r → (m : Meaning) × Means f m
has_meaning f r s bytes b =
    let head = tag_of f.kind ∷ (f.key ++ 0 ∷ []) in
    let whole : s ≡ head ++ (f.payload ++ r) = b.spelled ∙ ap (λ x. tag_of f.kind ∷ x) (sym (append_assoc f.key (0 ∷ []) (f.payload ++ r))) in
    let payload = AreBytes-front f.payload r (AreBytes-back head (f.payload ++ r) (subst AreBytes whole bytes)) in
    payload_means f.kind f.key f.payload r payload b.payload_is

-- what the frames of a walk mean, in order
items_of : (s : List ℕ) (frames : List Frame) (end : End) → AreBytes s → IsWalk s frames end → (items : List Item) × ItemsOf frames end items
items_of s [] Done bytes w = ([], refl)
items_of s [] (Stopped fault key) bytes w = (stopped (record { fault = fault; key = key }) ∷ [], refl)
items_of s (f ∷ frames) end bytes w =
    let m = has_meaning f w.0 s bytes w.1 in
    let rest = items_of w.0 frames end (AreBytes-rest s f w.0 w.1 bytes) w.2 in
    (entry f.key m.0 ∷ rest.0, (m.0, rest.0, m.1, refl, rest.1))

-- a document has items
pub has_items : (b : List ℕ) → IsEnvelope b → (items : List Item) × AreItems b items
has_items b d =
    let w = document_has_walk b d in
    let items = items_of (drop 4 b) w.0 w.1 (AreBytes-drop 4 b d.bytes) w.2 in
    (items.0, (w.0, w.1, w.2, items.1))
