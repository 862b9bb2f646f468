-- Reasons are determined: why no payload is there, and why bytes have no envelope.
use Rattle.std.proofs.Common.{◌≡◌, inl, inr, ◌+◌, ◌∙◌, ℕ, ℤ, List, length, take, arith, ap, sym, subst, refl}
use Rattle.raw_view.specs.declared.element_type.ElementType.{ElementType}
use Rattle.raw_view.specs.declared.element_type.ElementType.TheVariants as kind
use Rattle.raw_view.specs.declared.error.Reason.{Reason}
use Rattle.raw_view.specs.declared.error.Reason.TheVariants as reason
use Rattle.raw_view.specs.Frame.Envelope.{IsEnvelope, Refuses}
use Rattle.raw_view.specs.Frame.Reasons.{string_row, document_row, binary_row, scope_row, ByDeclaredLength, IsStringReason}
use Rattle.raw_view.specs.Frame.{IsPointerReason, IsPayloadReason}
use Rattle.raw_view.specs.Frame.Kind.{tag_of}
use Rattle.raw_view.proofs.Bytes.Numbers.{IsLe32-same}
use Rattle.raw_view.proofs.Frames.Fronts.{tag_of-same}
use Rattle.raw_view.proofs.Frames.Payloads.{string_same}

-- by the length that is declared
by_one_length : (head : ℕ) (short : ℕ → Reason) (row : ℕ → ℤ → Reason) (z : List ℕ) (why other : Reason) → ByDeclaredLength head short row z why → ByDeclaredLength head short row z other → why ≡ other
by_one_length head short row z why other (inl a) (inl b) = a.1 ∙ sym b.1
by_one_length head short row z why other (inl a) (inr b) = absurd (omega (arith, a.0, b.0))
by_one_length head short row z why other (inr a) (inl b) = absurd (omega (arith, a.0, b.0))
by_one_length head short row z why other (inr a) (inr b) = a.3 ∙ ap (row (length z)) (IsLe32-same (take 4 z) a.1 b.1 a.2 b.2) ∙ sym b.3

pub one_string_reason : (z : List ℕ) (why other : Reason) → IsStringReason z why → IsStringReason z other → why ≡ other
one_string_reason z why other a b = by_one_length 4 (λ left. reason.StringHeadShort left) string_row z why other a b

one_pointer_reason : (z : List ℕ) (why other : Reason) → IsPointerReason z why → IsPointerReason z other → why ≡ other
one_pointer_reason z why other (inl a) (inl b) = one_string_reason z why other a.1 b.1
one_pointer_reason z why other (inl a) (inr b) = absurd (a.0 b.0 b.1 b.2 b.3)
one_pointer_reason z why other (inr a) (inl b) = absurd (b.0 a.0 a.1 a.2 a.3)
one_pointer_reason z why other (inr a) (inr b) =
    let same = string_same a.0 b.0 a.1 b.1 a.3.0 b.3.0 a.3.1 b.3.1 (sym a.2 ∙ b.2) in
    a.4 ∙ ap (λ x. reason.PastEnd (length x + 12) (length z)) same.0 ∙ sym b.4

-- of any kind
one_payload_reason : (k : ElementType) (z : List ℕ) (why other : Reason) → IsPayloadReason k z why → IsPayloadReason k z other → why ≡ other
one_payload_reason kind.Double z why other a b = a ∙ sym b
one_payload_reason kind.String z why other a b = one_string_reason z why other a b
one_payload_reason kind.EmbeddedDocument z why other a b = by_one_length 5 (λ left. reason.PastEnd 5 left) document_row z why other a b
one_payload_reason kind.Array z why other a b = by_one_length 5 (λ left. reason.PastEnd 5 left) document_row z why other a b
one_payload_reason kind.Binary z why other a b = by_one_length 4 (λ left. reason.LengthHeadShort left) binary_row z why other a b
one_payload_reason kind.Undefined z why other a b = absurd a
one_payload_reason kind.ObjectId z why other a b = a ∙ sym b
one_payload_reason kind.Boolean z why other a b = a ∙ sym b
one_payload_reason kind.DateTime z why other a b = a ∙ sym b
one_payload_reason kind.Null z why other a b = absurd a
one_payload_reason kind.RegularExpression z why other a b = a ∙ sym b
one_payload_reason kind.DbPointer z why other a b = one_pointer_reason z why other a b
one_payload_reason kind.JavaScriptCode z why other a b = one_string_reason z why other a b
one_payload_reason kind.Symbol z why other a b = one_string_reason z why other a b
one_payload_reason kind.JavaScriptCodeWithScope z why other a b = by_one_length 4 (λ left. reason.LengthHeadShort left) scope_row z why other a b
one_payload_reason kind.Int32 z why other a b = a ∙ sym b
one_payload_reason kind.Timestamp z why other a b = a ∙ sym b
one_payload_reason kind.Int64 z why other a b = a ∙ sym b
one_payload_reason kind.Decimal128 z why other a b = a ∙ sym b
one_payload_reason kind.MaxKey z why other a b = absurd a
one_payload_reason kind.MinKey z why other a b = absurd a

-- of the kind that has a tag
pub one_tagged_reason : (tag : ℕ) (k l : ElementType) (z : List ℕ) (why other : Reason) → tag ≡ tag_of k → tag ≡ tag_of l → IsPayloadReason k z why → IsPayloadReason l z other → why ≡ other
one_tagged_reason tag k l z why other is also a b =
    let same : k ≡ l = tag_of-same k l (sym is ∙ also) in
    one_payload_reason k z why other a (subst (λ (x : ElementType). IsPayloadReason x z other) (sym same) b)

-- why bytes have no envelope
pub one_refusal : (b : List ℕ) (why other : Reason) → Refuses b why → Refuses b other → why ≡ other
one_refusal b reason.TooShort reason.TooShort r q = refl
one_refusal b reason.TooShort reason.LengthIncorrect r q = absurd (omega (arith, r, q.0))
one_refusal b reason.TooShort reason.NotTerminated r q = absurd (omega (arith, r, q.0))
one_refusal b reason.LengthIncorrect reason.TooShort r q = absurd (omega (arith, q, r.0))
one_refusal b reason.LengthIncorrect reason.LengthIncorrect r q = refl
one_refusal b reason.LengthIncorrect reason.NotTerminated r q = absurd (r.1 q.1)
one_refusal b reason.NotTerminated reason.TooShort r q = absurd (omega (arith, q, r.0))
one_refusal b reason.NotTerminated reason.LengthIncorrect r q = absurd (q.1 r.1)
one_refusal b reason.NotTerminated reason.NotTerminated r q = refl
one_refusal b reason.TooShort other r q = absurd q
one_refusal b reason.LengthIncorrect other r q = absurd q
one_refusal b reason.NotTerminated other r q = absurd q
one_refusal b why other r q = absurd r

-- bytes for which there is a reason have no envelope
pub refuses_none : (b : List ℕ) (why : Reason) → Refuses b why → ¬ IsEnvelope b
refuses_none b reason.TooShort r d = omega (arith, r, d.enough)
refuses_none b reason.LengthIncorrect r d = r.1 d.header
refuses_none b reason.NotTerminated r d = r.2 d.ended
refuses_none b why r d = r
