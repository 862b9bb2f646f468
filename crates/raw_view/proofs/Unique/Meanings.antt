-- Meanings are determined: a frame has one at most. That its payload was framed, or is bytes, is not needed.
use Rattle.std.proofs.Common.{◌≡◌, inl, inr, ◌<◌, ℕ, pos, Bool, true, false, List, [], ◌∷◌, ◌+◌, ◌≤◌, length, take, drop, ap, sym, ◌∙◌, subst, arith, length-append}
use Rattle.std.specs.Str.{IsUtf8}
use Rattle.std.proofs.lemmas.Int.{ints}
use Rattle.bson_model.specs.Leaf.{double, string, binary, boolean, date_time, javascript_code, symbol, int32, int64}
use Rattle.bson_model.specs.declared.binaries.BinarySubtype.TheVariants.{BinaryOld}
use Rattle.raw_view.specs.Frame.Number.{IsLe32}
use Rattle.raw_view.specs.Frame.Envelope.{IsEnvelope, Refuses}
use Rattle.raw_view.specs.Frame.Format.{string_payload, boolean_payload}
use Rattle.raw_view.specs.declared.element_type.ElementType.{ElementType}
use Rattle.raw_view.specs.declared.element_type.ElementType.TheVariants as kind
use Rattle.raw_view.specs.declared.error.Reason.{Reason}
use Rattle.raw_view.specs.declared.error.Reason.TheVariants as reason
use Rattle.raw_view.specs.Frame.{Frame}
use Rattle.raw_view.specs.Meaning.{RawValue, single, Meaning, value, faulty, Means, MeansValue, MeansFault, SpellsText, SpellsNoText, HasInnerLength, IsBinaryValue, Overflows, IsCodeWithScope, HasNoCode, KeyedFault, malformed, malformed_at}
use Rattle.raw_view.specs.Meaning.{OldBinaryFault, no_inner_length, overflow, wrong_inner_length, ScopeFault, too_small, no_code, code_no_text, no_scope}
use Rattle.raw_view.specs.OneReading.{IsTheMeaning}
use Rattle.raw_view.proofs.Bytes.Numbers.{le32_of, IsLe32-same, IsLe64-same, IsUnsigned64-same}
use Rattle.raw_view.proofs.Frames.Payloads.{string_is, code_fits}
use Rattle.raw_view.proofs.Unique.Reasons.{one_string_reason, one_refusal, refuses_none}
use Rattle.raw_view.proofs.Unique.Payloads.{one_text, one_binary, one_inner, one_regex, one_pointer, one_code, one_timestamp, one_truth}

-- values

-- by the subtype's byte
one_binary_value : (m : ℕ) (bytes : List ℕ) (v w : RawValue) → IsBinaryValue m bytes v → IsBinaryValue m bytes w → v ≡ w
one_binary_value m bytes v w (inl a) (inl b) = a.1 ∙ sym b.1
one_binary_value m bytes v w (inl a) (inr b) = absurd (a.0 b.0)
one_binary_value m bytes v w (inr a) (inl b) = absurd (b.0 a.0)
one_binary_value m bytes v w (inr a) (inr b) = a.3 ∙ ap (λ x. single (binary BinaryOld x)) (one_inner bytes a.1 b.1 a.2 b.2) ∙ sym b.3

-- a payload of a kind means one value at most
one_value : (k : ElementType) (p : List ℕ) (v w : RawValue) → MeansValue k p v → MeansValue k p w → v ≡ w
one_value kind.Double p v w a b = a.2 ∙ ap (λ x. single (double x)) (IsUnsigned64-same p a.0 b.0 a.1 b.1) ∙ sym b.2
one_value kind.String p v w a b = a.2 ∙ ap (λ x. single (string x)) (one_text p a.0 b.0 a.1.0 b.1.0) ∙ sym b.2
one_value kind.EmbeddedDocument p v w a b = a ∙ sym b
one_value kind.Array p v w a b = a ∙ sym b
one_value kind.Binary p v w a b =
    let same = one_binary p a.1 b.1 a.0 b.0 a.2 b.2 in
    one_binary_value a.0 a.1 v w a.3 (rw (same.0, same.1) b.3)
one_value kind.Undefined p v w a b = a ∙ sym b
one_value kind.ObjectId p v w a b = a ∙ sym b
one_value kind.Boolean p v w a b = a.2 ∙ ap (λ x. single (boolean x)) (one_truth a.0 b.0 (sym a.1 ∙ b.1)) ∙ sym b.2
one_value kind.DateTime p v w a b = a.2 ∙ ap (λ x. single (date_time x)) (IsLe64-same p a.0 b.0 a.1 b.1) ∙ sym b.2
one_value kind.Null p v w a b = a ∙ sym b
one_value kind.RegularExpression p v w a b =
    let same = one_regex p a.0 b.0 a.1 b.1 a.2 b.2 in
    a.3 ∙ rw (same.0, same.1) (sym b.3)
one_value kind.DbPointer p v w a b =
    let same = one_pointer p a.0 b.0 a.1 b.1 a.2 b.2 in
    a.4 ∙ rw (same.0, same.1) (sym b.4)
one_value kind.JavaScriptCode p v w a b = a.2 ∙ ap (λ x. single (javascript_code x)) (one_text p a.0 b.0 a.1.0 b.1.0) ∙ sym b.2
one_value kind.Symbol p v w a b = a.2 ∙ ap (λ x. single (symbol x)) (one_text p a.0 b.0 a.1.0 b.1.0) ∙ sym b.2
one_value kind.JavaScriptCodeWithScope p v w a b =
    let same = one_code p a.0 b.0 a.1 b.1 a.2 b.2 in
    a.5 ∙ rw (same.0, same.1) (sym b.5)
one_value kind.Int32 p v w a b = a.2 ∙ ap (λ x. single (int32 x)) (IsLe32-same p a.0 b.0 a.1 b.1) ∙ sym b.2
one_value kind.Timestamp p v w a b =
    let same = one_timestamp p a.0 b.0 a.1 b.1 a.2 b.2 in
    a.3 ∙ rw (same.0, same.1) (sym b.3)
one_value kind.Int64 p v w a b = a.2 ∙ ap (λ x. single (int64 x)) (IsLe64-same p a.0 b.0 a.1 b.1) ∙ sym b.2
one_value kind.Decimal128 p v w a b = a ∙ sym b
one_value kind.MaxKey p v w a b = a ∙ sym b
one_value kind.MinKey p v w a b = a ∙ sym b

-- faults

-- of the inner length of an old binary
one_old_fault : (key outer : List ℕ) (f g : KeyedFault) → OldBinaryFault key outer f → OldBinaryFault key outer g → f ≡ g
one_old_fault key outer f g (no_inner_length l e) (no_inner_length m d) = e ∙ sym d
one_old_fault key outer f g (no_inner_length l e) (overflow v m h o d) = absurd (omega (arith, l, m))
one_old_fault key outer f g (no_inner_length l e) (wrong_inner_length v m h o n d) = absurd (omega (arith, l, m))
one_old_fault key outer f g (overflow v m h o d) (no_inner_length l e) = absurd (omega (arith, l, m))
one_old_fault key outer f g (overflow v l h o e) (overflow w m k u d) = e ∙ sym d
one_old_fault key outer f g (overflow v l h o e) (wrong_inner_length w m k u n d) = absurd (u (subst Overflows (IsLe32-same _ v w h k) o))
one_old_fault key outer f g (wrong_inner_length v l h o n e) (no_inner_length m d) = absurd (omega (arith, l, m))
one_old_fault key outer f g (wrong_inner_length v l h o n e) (overflow w m k u d) = absurd (o (subst Overflows (IsLe32-same _ w v k h) u))
one_old_fault key outer f g (wrong_inner_length v l h o n e) (wrong_inner_length w m k u d q) = e ∙ sym q

-- a code with scope has a code
has_code : (p code scope : List ℕ) → IsCodeWithScope p code scope → ¬ HasNoCode p
has_code p code scope c none = none (string_payload code) scope (ap (drop 4) c.spelled) (code, string_is code (code_fits p code scope c))

-- both are the code, so both or neither is a text
same_code : (p x y v w : List ℕ) → IsCodeWithScope p x v → IsCodeWithScope p y w → IsUtf8 x → IsUtf8 y
same_code p x y v w a b u = subst IsUtf8 (one_code p x y v w a b).0 u

-- there is one scope, so there is one reason
same_refusal : (p x y v w : List ℕ) (why other : Reason) → IsCodeWithScope p x v → IsCodeWithScope p y w → Refuses v why → Refuses w other → why ≡ other
same_refusal p x y v w why other a b r q = one_refusal v why other r (subst (λ (z : List ℕ). Refuses z other) (sym (one_code p x y v w a b).1) q)

-- of a code with scope
one_scope_fault : (key p : List ℕ) (f g : KeyedFault) → ScopeFault key p f → ScopeFault key p g → f ≡ g
one_scope_fault key p f g (too_small l e) (too_small m d) = e ∙ sym d
one_scope_fault key p f g (too_small l e) (no_code why m n r d) = absurd (omega (arith, l, m))
one_scope_fault key p f g (too_small l e) (code_no_text x v m c n d) = absurd (omega (arith, l, m))
one_scope_fault key p f g (too_small l e) (no_scope x v why m c u r d) = absurd (omega (arith, l, m))
one_scope_fault key p f g (no_code why m n r d) (too_small l e) = absurd (omega (arith, l, m))
one_scope_fault key p f g (no_code why l n r e) (no_code other m o q d) = e ∙ ap malformed (one_string_reason (drop 4 p) why other r q) ∙ sym d
one_scope_fault key p f g (no_code why l n r e) (code_no_text x v m c o d) = absurd (has_code p x v c n)
one_scope_fault key p f g (no_code why l n r e) (no_scope x v other m c u q d) = absurd (has_code p x v c n)
one_scope_fault key p f g (code_no_text x v m c n d) (too_small l e) = absurd (omega (arith, l, m))
one_scope_fault key p f g (code_no_text x v m c o d) (no_code why l n r e) = absurd (has_code p x v c n)
one_scope_fault key p f g (code_no_text x v l c n e) (code_no_text y w m k o d) = e ∙ sym d
one_scope_fault key p f g (code_no_text x v l c n e) (no_scope y w why m k u r d) = absurd (n (same_code p y x w v k c u))
one_scope_fault key p f g (no_scope x v why m c u r d) (too_small l e) = absurd (omega (arith, l, m))
one_scope_fault key p f g (no_scope x v why m c u r d) (no_code other l n q e) = absurd (has_code p x v c n)
one_scope_fault key p f g (no_scope y w why m k u r d) (code_no_text x v l c n e) = absurd (n (same_code p y x w v k c u))
one_scope_fault key p f g (no_scope x v why l c u r e) (no_scope y w other m k t q d) = e ∙ ap malformed (same_refusal p x y v w why other c k r q) ∙ sym d

-- a payload of a kind means one fault at most
one_fault : (k : ElementType) (key p : List ℕ) (f g : KeyedFault) → MeansFault k key p f → MeansFault k key p g → f ≡ g
one_fault kind.String key p f g a b = a.1 ∙ sym b.1
one_fault kind.JavaScriptCode key p f g a b = a.1 ∙ sym b.1
one_fault kind.Symbol key p f g a b = a.1 ∙ sym b.1
one_fault kind.DbPointer key p f g a b = a.4 ∙ sym b.4
one_fault kind.Boolean key p f g a b =
    let both : a.0 ∷ [] ≡ b.0 ∷ [] = sym a.1 ∙ b.1 in
    let byte : a.0 ≡ b.0 = cc in
    a.3 ∙ ap (λ x. malformed_at (reason.BadBoolean x) key) byte ∙ sym b.3
one_fault kind.Binary key p f g a b =
    let same = one_binary p a.0 b.0 2 2 a.1 b.1 in
    one_old_fault key a.0 f g a.2 (rw same.1 b.2)
one_fault kind.JavaScriptCodeWithScope key p f g a b = one_scope_fault key p f g a b
one_fault k key p f g a b = absurd a

-- a value and a fault exclude each other

-- a string is that of a UTF-8 text, or isn't
text_or_none : (p text : List ℕ) → SpellsText p text → ¬ SpellsNoText p
text_or_none p text a b = b.2 (subst IsUtf8 (one_text p text b.0 a.0 b.1) a.1)

-- an inner length that counts the bytes is no fault
no_old_fault : (key outer inner : List ℕ) (fault : KeyedFault) → HasInnerLength outer inner → ¬ OldBinaryFault key outer fault
no_old_fault key outer inner fault a b =
    let size : length outer ≡ length inner + 4 = omega (arith, ap length a.spelled) in
    let header : IsLe32 (take 4 outer) (pos (length inner)) = subst (λ (x : List ℕ). IsLe32 x (pos (length inner))) (sym (ap (take 4) a.spelled)) (le32_of (length inner) a.fits) in
    elim b [
      | no_inner_length l e ↦ omega (arith, l)
      | overflow v l h o e ↦ (
          let same : v ≡ pos (length inner) = IsLe32-same (take 4 outer) _ _ h header in
          omega (arith, ints, same, o.1))
      | wrong_inner_length v l h o n e ↦ (
          let same : v ≡ pos (length inner) = IsLe32-same (take 4 outer) _ _ h header in
          n (omega (arith, ints, same, size)))
    ]

-- a code with a scope that has an envelope is no fault
no_scope_fault : (key p code scope : List ℕ) (fault : KeyedFault) → IsCodeWithScope p code scope → IsUtf8 code → IsEnvelope scope → ¬ ScopeFault key p fault
no_scope_fault key p code scope fault c u d b =
    let size : 14 ≤ length p = omega (arith, ap length c.spelled, length-append (string_payload code) scope, length-append code (0 ∷ []), d.enough) in
    elim b [
      | too_small l e ↦ omega (arith, l)
      | no_code why l n r e ↦ has_code p code scope c n
      | code_no_text x v l k n e ↦ n (same_code p code x scope v c k u)
      | no_scope x v why l k t r e ↦ refuses_none v why r (subst IsEnvelope (one_code p code x scope v c k).1 d)
    ]

-- a binary's value, and the fault of an old one
no_binary_fault : (key p : List ℕ) (v : RawValue) (fault : KeyedFault) → MeansValue kind.Binary p v → ¬ MeansFault kind.Binary key p fault
no_binary_fault key p v fault a b =
    let same = one_binary p a.1 b.0 a.0 2 a.2 b.1 in
    elim a.3 [
      | inl n ↦ n.0 same.0
      | inr o ↦ no_old_fault key b.0 o.1 fault (subst (λ (x : List ℕ). HasInnerLength x o.1) same.1 o.2) b.2
    ]

-- the byte of a boolean
no_boolean_byte : (b : Bool) (byte : ℕ) → boolean_payload b ≡ byte ∷ [] → ¬ (1 < byte)
no_boolean_byte false byte e l = let same : 0 ≡ byte = cc in omega (arith, same, l)
no_boolean_byte true byte e l = let same : 1 ≡ byte = cc in omega (arith, same, l)

-- no payload of a kind means both a value and a fault
value_or_fault : (k : ElementType) (key p : List ℕ) (v : RawValue) (fault : KeyedFault) → MeansValue k p v → MeansFault k key p fault → ⊥
value_or_fault kind.String key p v fault a b = text_or_none p a.0 a.1 b.0
value_or_fault kind.JavaScriptCode key p v fault a b = text_or_none p a.0 a.1 b.0
value_or_fault kind.Symbol key p v fault a b = text_or_none p a.0 a.1 b.0
value_or_fault kind.DbPointer key p v fault a b = b.3 (subst IsUtf8 (one_pointer p a.0 b.0 a.1 b.1 a.2 b.2).0 a.3)
value_or_fault kind.Boolean key p v fault a b = no_boolean_byte a.0 b.0 (sym a.1 ∙ b.1) b.2
value_or_fault kind.Binary key p v fault a b = no_binary_fault key p v fault a b
value_or_fault kind.JavaScriptCodeWithScope key p v fault a b = no_scope_fault key p a.0 a.1 fault a.2 a.3 a.4 b
value_or_fault k key p v fault a b = b

-- a frame has one meaning at most
pub one_meaning : (f : Frame) (m n : Meaning) → Means f m → Means f n → m ≡ n
one_meaning f (value v) (value w) a b = ap value (one_value f.kind f.payload v w a b)
one_meaning f (value v) (faulty fault) a b = absurd (value_or_fault f.kind f.key f.payload v fault a b)
one_meaning f (faulty fault) (value w) a b = absurd (value_or_fault f.kind f.key f.payload w fault b a)
one_meaning f (faulty fault) (faulty other) a b = ap faulty (one_fault f.kind f.key f.payload fault other a b)

-- so its meaning is the only one
pub the_meaning : (f : Frame) (m : Meaning) → Means f m → IsTheMeaning f m
the_meaning f m a = (a, λ other o. one_meaning f other m o a)
