-- Why no payload is there, by how many bytes are left for it and by the length that they declare. The first line of a
-- kind that applies gives the reason. The last line is for all that is left, since these are used only where no
-- payload of the kind is there. Numbers count bytes.
use Rattle.std.specs.Prelude.{◌≡◌, ◌⊎◌, ℕ, ◌+◌, ◌<◌, ◌≤◌, ◌==◌, nat_lt, ℤ, pos, negsuc, List, length, take, if◌then◌else◌}
use Rattle.raw_view.specs.Frame.Number.{IsLe32}
use Rattle.raw_view.specs.declared.error.Reason.{Reason}
use Rattle.raw_view.specs.declared.error.Reason.TheVariants as reason

-- a string: the length is negative; it is 0; fewer bytes are left than the four of the length and those that it
-- declares; the last of these isn't 0
abbrev pub string_row : ℕ → ℤ → Reason
string_row left (negsuc _) = reason.NegativeLength
string_row left (pos declared) =
    if declared == 0 then reason.StringTooSmall
    else if nat_lt left (declared + 4) then reason.StringPastEnd (declared + 4) left
    else reason.StringNotTerminated

-- a nested document: the length is negative; it is less than 5; fewer bytes are left; the last of them isn't 0
abbrev pub document_row : ℕ → ℤ → Reason
document_row left (negsuc _) = reason.NegativeLength
document_row left (pos declared) =
    if nat_lt declared 5 then reason.DocumentTooSmall declared
    else if nat_lt left declared then reason.PastEnd declared left
    else reason.NestedNotTerminated

-- a binary: the length is negative; fewer bytes are left than the four of the length, the subtype and those declared
abbrev pub binary_row : ℕ → ℤ → Reason
binary_row left (negsuc _) = reason.NegativeLength
binary_row left (pos declared) = reason.PastEnd (declared + 5) left

-- a code with scope: the length is negative; fewer bytes are left
abbrev pub scope_row : ℕ → ℤ → Reason
scope_row left (negsuc _) = reason.NegativeLength
scope_row left (pos declared) = reason.PastEnd declared left

-- The reason for the bytes z. If fewer than `head` bytes are left, it is `short` of their number. Otherwise it is
-- `row` of their number and of the length that the first four declare.
abbrev pub ByDeclaredLength : ℕ → (ℕ → Reason) → (ℕ → ℤ → Reason) → List ℕ → Reason → Type 0
ByDeclaredLength head short row z why =
    ((length z < head) × (why ≡ short (length z)))
    ⊎ ((head ≤ length z) × (declared : ℤ) × IsLe32 (take 4 z) declared × (why ≡ row (length z) declared))

-- why no string is at the front of z
abbrev pub IsStringReason : List ℕ → Reason → Type 0
IsStringReason z why = ByDeclaredLength 4 (λ left. reason.StringHeadShort left) string_row z why

-- why no nested document is at the front of z
abbrev pub IsDocumentReason : List ℕ → Reason → Type 0
IsDocumentReason z why = ByDeclaredLength 5 (λ left. reason.PastEnd 5 left) document_row z why

-- why no binary is at the front of z
abbrev pub IsBinaryReason : List ℕ → Reason → Type 0
IsBinaryReason z why = ByDeclaredLength 4 (λ left. reason.LengthHeadShort left) binary_row z why

-- why no code with scope is at the front of z
abbrev pub IsScopeReason : List ℕ → Reason → Type 0
IsScopeReason z why = ByDeclaredLength 4 (λ left. reason.LengthHeadShort left) scope_row z why
