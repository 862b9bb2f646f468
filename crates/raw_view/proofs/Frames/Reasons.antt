-- There is a reason where no payload is.
use Rattle.std.proofs.Common.{inl, inr, ◌+◌, ◌≤◌, ◌∷◌, [], ℕ, ℤ, List, length, take, drop, get_or, to_z, w32, arith, sym, refl}
use Rattle.std.specs.Int.{from_le_bytes}
use Rattle.std.proofs.lemmas.Bool.{cases_lt}
use Rattle.std.proofs.lemmas.List.{take-append-drop}
use Rattle.bson_model.specs.Bytes.{AreBytes}
use Rattle.raw_view.specs.declared.element_type.ElementType.{ElementType}
use Rattle.raw_view.specs.declared.element_type.ElementType.TheVariants as kind
use Rattle.raw_view.specs.declared.error.Reason.{Reason}
use Rattle.raw_view.specs.declared.error.Reason.TheVariants as reason
use Rattle.raw_view.specs.Frame.Reasons.{string_row, document_row, binary_row, scope_row, ByDeclaredLength, IsStringReason, IsDocumentReason}
use Rattle.raw_view.specs.Frame.{IsPointerReason, IsPayloadReason}
use Rattle.raw_view.proofs.Bytes.Numbers.{read_front}
use Rattle.raw_view.proofs.Frames.Decided.{Misses, string_or_not}

-- by the length that is declared
by_length : (head : ℕ) (short : ℕ → Reason) (row : ℕ → ℤ → Reason) (z : List ℕ) → 4 ≤ head → AreBytes z → (why : Reason) × ByDeclaredLength head short row z why
by_length head short row z four bytes =
    elim (cases_lt (length z) head) [
      | inl l ↦ (short (length z), inl (l, refl))
      | inr l ↦ (
          let declared : ℤ = to_z w32 (from_le_bytes w32 (get_or z 0 0 ∷ get_or z 1 0 ∷ get_or z 2 0 ∷ get_or z 3 0 ∷ [])) in
          (row (length z) declared, inr (l, declared, read_front z declared bytes (omega (arith, l, four)) refl, refl)))
    ]

pub string_reason : (z : List ℕ) → AreBytes z → (why : Reason) × IsStringReason z why
string_reason z bytes = by_length 4 (λ left. reason.StringHeadShort left) string_row z (omega arith) bytes

document_reason : (z : List ℕ) → AreBytes z → (why : Reason) × IsDocumentReason z why
document_reason z bytes = by_length 5 (λ left. reason.PastEnd 5 left) document_row z (omega arith) bytes

pointer_reason : (z : List ℕ) → AreBytes z → (why : Reason) × IsPointerReason z why
pointer_reason z bytes =
    elim (string_or_not z bytes) [
      | inl s ↦ (reason.PastEnd (length (take s.0 z) + 12) (length z), inr (take s.0 z, drop s.0 z, sym (take-append-drop s.0 z), s.2, refl))
      | inr none ↦ let why = string_reason z bytes in (why.0, inl (none, why.1))
    ]

-- of any kind
pub payload_reason : (k : ElementType) (z : List ℕ) → AreBytes z → Misses k z → (why : Reason) × IsPayloadReason k z why
payload_reason kind.Double z bytes none = (reason.PastEnd 8 (length z), refl)
payload_reason kind.String z bytes none = string_reason z bytes
payload_reason kind.EmbeddedDocument z bytes none = document_reason z bytes
payload_reason kind.Array z bytes none = document_reason z bytes
payload_reason kind.Binary z bytes none = by_length 4 (λ left. reason.LengthHeadShort left) binary_row z (omega arith) bytes
payload_reason kind.Undefined z bytes none = absurd (none [] z refl refl)
payload_reason kind.ObjectId z bytes none = (reason.PastEnd 12 (length z), refl)
payload_reason kind.Boolean z bytes none = (reason.PastEnd 1 (length z), refl)
payload_reason kind.DateTime z bytes none = (reason.PastEnd 8 (length z), refl)
payload_reason kind.Null z bytes none = absurd (none [] z refl refl)
payload_reason kind.RegularExpression z bytes none = (reason.NoTerminator, refl)
payload_reason kind.DbPointer z bytes none = pointer_reason z bytes
payload_reason kind.JavaScriptCode z bytes none = string_reason z bytes
payload_reason kind.Symbol z bytes none = string_reason z bytes
payload_reason kind.JavaScriptCodeWithScope z bytes none = by_length 4 (λ left. reason.LengthHeadShort left) scope_row z (omega arith) bytes
payload_reason kind.Int32 z bytes none = (reason.PastEnd 4 (length z), refl)
payload_reason kind.Timestamp z bytes none = (reason.PastEnd 8 (length z), refl)
payload_reason kind.Int64 z bytes none = (reason.PastEnd 8 (length z), refl)
payload_reason kind.Decimal128 z bytes none = (reason.PastEnd 16 (length z), refl)
payload_reason kind.MaxKey z bytes none = absurd (none [] z refl refl)
payload_reason kind.MinKey z bytes none = absurd (none [] z refl refl)
