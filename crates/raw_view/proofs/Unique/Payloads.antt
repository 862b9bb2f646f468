-- Payloads are determined: one of a kind is cut off in one way, and its parts are its only ones.
use Rattle.std.proofs.Common.{◌≡◌, ℕ, ℤ, pos, Bool, true, false, List, [], ◌∷◌, ◌++◌, ◌+◌, ◌-◌, ◌≤◌, length, take, w32, ap, sym, ◌∙◌, subst, refl, arith}
use Rattle.std.specs.Int.{to_le_bytes}
use Rattle.std.proofs.lemmas.List.{take-append-le, append_cancel_right}
use Rattle.raw_view.specs.declared.element_type.ElementType.{ElementType}
use Rattle.raw_view.specs.declared.element_type.ElementType.TheVariants as kind
use Rattle.raw_view.specs.Frame.Number.{le32, IsLe32}
use Rattle.raw_view.specs.Frame.Envelope.{IsEnvelope}
use Rattle.raw_view.specs.Frame.Format.{string_payload, boolean_payload}
use Rattle.raw_view.specs.Frame.{HasShape, IsString, IsBinary, IsRegex, IsDbPointer}
use Rattle.raw_view.specs.Meaning.{HasInnerLength, IsCodeWithScope, IsTimestamp}
use Rattle.raw_view.proofs.Bytes.Cuts.{cut}
use Rattle.raw_view.proofs.Frames.Decided.{one_length}
use Rattle.raw_view.proofs.Bytes.Numbers.{IsUnsigned32-same}
use Rattle.raw_view.proofs.Frames.Payloads.{string_is, same_cut, string_same, pointer_string, code_fits}
use Rattle.raw_view.proofs.Frames.Shapes.{binary_header}
use Rattle.raw_view.proofs.Bytes.Texts.{regex_front}

-- where a payload ends

-- payloads at the front of the same bytes are equal if their sizes follow from the length at the front
cut_by_length : (p q r t : List ℕ) (m n : ℕ) → IsLe32 (take 4 (p ++ r)) (pos m) → IsLe32 (take 4 (q ++ t)) (pos n) → (m ≡ n → length q ≡ length p) → p ++ r ≡ q ++ t → (p ≡ q) × (r ≡ t)
cut_by_length p q r t m n a b size e =
    let same : m ≡ n = one_length (take 4 (q ++ t)) n m b (subst (λ (x : List ℕ). IsLe32 (take 4 x) (pos m)) e a) in
    same_cut p q r t (length p) refl (size same) e

-- the length at the front stays there with more bytes after it
header_in_front : (p r : List ℕ) (n : ℕ) → 4 ≤ length p → IsLe32 (take 4 p) (pos n) → IsLe32 (take 4 (p ++ r)) (pos n)
header_in_front p r n l h = rw (take-append-le 4 p r l) h

-- a nested document is cut off in one way
pub document_same : (p q r t : List ℕ) → IsEnvelope p → IsEnvelope q → p ++ r ≡ q ++ t → (p ≡ q) × (r ≡ t)
document_same p q r t a b e =
    let front = header_in_front p r (length p) (omega (arith, a.enough)) a.header in
    let other = header_in_front q t (length q) (omega (arith, b.enough)) b.header in
    cut_by_length p q r t (length p) (length q) front other (λ n. sym n) e

-- a binary likewise
binary_same : (p q r t : List ℕ) → HasShape kind.Binary p r → HasShape kind.Binary q t → p ++ r ≡ q ++ t → (p ≡ q) × (r ≡ t)
binary_same p q r t a b e =
    let x = binary_header p a.0 a.1 a.2 in
    let y = binary_header q b.0 b.1 b.2 in
    let front = header_in_front p r (length p - 5) (omega (arith, x.0)) x.1 in
    let other = header_in_front q t (length q - 5) (omega (arith, y.0)) y.1 in
    cut_by_length p q r t (length p - 5) (length q - 5) front other (λ n. omega (arith, x.0, y.0, n)) e

-- a regular expression: two texts, each up to the next 0
regex_same : (p q r t : List ℕ) → HasShape kind.RegularExpression p r → HasShape kind.RegularExpression q t → p ++ r ≡ q ++ t → (p ≡ q) × (r ≡ t)
regex_same p q r t a b e =
    let x = regex_front (p ++ r) p r a.0 a.1 refl a.2 in
    let y = regex_front (p ++ r) q t b.0 b.1 e b.2 in
    let patterns = cut a.0 b.0 (a.1 ++ 0 ∷ r) (b.1 ++ 0 ∷ t) a.2.pattern_nul_free b.2.pattern_nul_free (sym x ∙ y) in
    let options = cut a.1 b.1 r t a.2.options_nul_free b.2.options_nul_free patterns.1 in
    let spelled : a.0 ++ 0 ∷ (a.1 ++ 0 ∷ []) ≡ b.0 ++ 0 ∷ (b.1 ++ 0 ∷ []) = rw (patterns.0, options.0) in
    (a.2.spelled ∙ spelled ∙ sym b.2.spelled, options.1)

-- a pointer: a string and twelve bytes
pointer_same : (p q r t : List ℕ) → HasShape kind.DbPointer p r → HasShape kind.DbPointer q t → p ++ r ≡ q ++ t → (p ≡ q) × (r ≡ t)
pointer_same p q r t a b e =
    let x = pointer_string (p ++ r) p r a.0 a.1 refl a.2 in
    let y = pointer_string (p ++ r) q t b.0 b.1 e b.2 in
    let strings = string_same (string_payload a.0) (string_payload b.0) (a.1 ++ r) (b.1 ++ t) a.0 b.0 (string_is a.0 a.2.fits) (string_is b.0 b.2.fits) (sym x ∙ y) in
    let ids = same_cut a.1 b.1 r t 12 a.2.id_len b.2.id_len strings.1 in
    let spelled : string_payload a.0 ++ a.1 ≡ string_payload b.0 ++ b.1 = ap (λ x. x ++ a.1) strings.0 ∙ ap (λ x. string_payload b.0 ++ x) ids.0 in
    (a.2.spelled ∙ spelled ∙ sym b.2.spelled, ids.1)

-- a payload of a kind is cut off in one way
pub payload_same : (k : ElementType) (p q r t : List ℕ) → HasShape k p r → HasShape k q t → p ++ r ≡ q ++ t → (p ≡ q) × (r ≡ t)
payload_same kind.Double p q r t a b e = same_cut p q r t 8 a b e
payload_same kind.String p q r t a b e = string_same p q r t a.0 b.0 a.1 b.1 e
payload_same kind.EmbeddedDocument p q r t a b e = document_same p q r t a b e
payload_same kind.Array p q r t a b e = document_same p q r t a b e
payload_same kind.Binary p q r t a b e = binary_same p q r t a b e
payload_same kind.Undefined p q r t a b e = same_cut p q r t 0 a b e
payload_same kind.ObjectId p q r t a b e = same_cut p q r t 12 a b e
payload_same kind.Boolean p q r t a b e = same_cut p q r t 1 a b e
payload_same kind.DateTime p q r t a b e = same_cut p q r t 8 a b e
payload_same kind.Null p q r t a b e = same_cut p q r t 0 a b e
payload_same kind.RegularExpression p q r t a b e = regex_same p q r t a b e
payload_same kind.DbPointer p q r t a b e = pointer_same p q r t a b e
payload_same kind.JavaScriptCode p q r t a b e = string_same p q r t a.0 b.0 a.1 b.1 e
payload_same kind.Symbol p q r t a b e = string_same p q r t a.0 b.0 a.1 b.1 e
payload_same kind.JavaScriptCodeWithScope p q r t a b e = cut_by_length p q r t (length p) (length q) a.header b.header (λ n. sym n) e
payload_same kind.Int32 p q r t a b e = same_cut p q r t 4 a b e
payload_same kind.Timestamp p q r t a b e = same_cut p q r t 8 a b e
payload_same kind.Int64 p q r t a b e = same_cut p q r t 8 a b e
payload_same kind.Decimal128 p q r t a b e = same_cut p q r t 16 a b e
payload_same kind.MaxKey p q r t a b e = same_cut p q r t 0 a b e
payload_same kind.MinKey p q r t a b e = same_cut p q r t 0 a b e

-- the parts of a payload

-- two lists after the bytes of a number
behind_numbers : (z w : ℤ) (x y : List ℕ) → le32 z ++ x ≡ le32 w ++ y → x ≡ y
behind_numbers z w x y e = (same_cut (le32 z) (le32 w) x y 4 refl refl e).1

-- a string has one text
pub one_text : (p x y : List ℕ) → IsString p x → IsString p y → x ≡ y
one_text p x y a b = append_cancel_right x y (0 ∷ []) (behind_numbers (pos (length x + 1)) (pos (length y + 1)) (x ++ 0 ∷ []) (y ++ 0 ∷ []) (sym a.spelled ∙ b.spelled))

-- a text, and what follows its string
text_and_rest : (p q r t x y : List ℕ) → IsString p x → IsString q y → p ++ r ≡ q ++ t → (x ≡ y) × (r ≡ t)
text_and_rest p q r t x y a b e =
    let same = string_same p q r t x y a b e in
    (one_text p x y a (subst (λ (z : List ℕ). IsString z y) (sym same.0) b), same.1)

-- a binary has one subtype and its bytes
pub one_binary : (p x y : List ℕ) (m n : ℕ) → IsBinary p m x → IsBinary p n y → (m ≡ n) × (x ≡ y)
one_binary p x y m n a b =
    let e : m ∷ x ≡ n ∷ y = behind_numbers (pos (length x)) (pos (length y)) (m ∷ x) (n ∷ y) (sym a.spelled ∙ b.spelled) in
    (cc, cc)

-- an old binary has its bytes
pub one_inner : (outer x y : List ℕ) → HasInnerLength outer x → HasInnerLength outer y → x ≡ y
one_inner outer x y a b = behind_numbers (pos (length x)) (pos (length y)) x y (sym a.spelled ∙ b.spelled)

-- a regular expression has one pattern and its options
pub one_regex : (p x y v w : List ℕ) → IsRegex p x v → IsRegex p y w → (x ≡ y) × (v ≡ w)
one_regex p x y v w a b =
    let patterns = cut x y (v ++ 0 ∷ []) (w ++ 0 ∷ []) a.pattern_nul_free b.pattern_nul_free (sym a.spelled ∙ b.spelled) in
    (patterns.0, (cut v w [] [] a.options_nul_free b.options_nul_free patterns.1).0)

-- a pointer has one namespace and its identifier
pub one_pointer : (p x y v w : List ℕ) → IsDbPointer p x v → IsDbPointer p y w → (x ≡ y) × (v ≡ w)
one_pointer p x y v w a b = text_and_rest (string_payload x) (string_payload y) v w x y (string_is x a.fits) (string_is y b.fits) (sym a.spelled ∙ b.spelled)

-- a code with scope has one code and its scope
pub one_code : (p x y v w : List ℕ) → IsCodeWithScope p x v → IsCodeWithScope p y w → (x ≡ y) × (v ≡ w)
one_code p x y v w a b =
    let v_whole : List ℕ = string_payload x ++ v in
    let w_whole : List ℕ = string_payload y ++ w in
    let e = behind_numbers (pos (4 + length v_whole)) (pos (4 + length w_whole)) v_whole w_whole (sym a.spelled ∙ b.spelled) in
    text_and_rest (string_payload x) (string_payload y) v w x y (string_is x (code_fits p x v a)) (string_is y (code_fits p y w b)) e

-- a timestamp has one time and its increment
pub one_timestamp : (p : List ℕ) (x y v w : ℕ) → IsTimestamp p x v → IsTimestamp p y w → (x ≡ y) × (v ≡ w)
one_timestamp p x y v w a b =
    let parts = same_cut (to_le_bytes w32 v) (to_le_bytes w32 w) (to_le_bytes w32 x) (to_le_bytes w32 y) 4 refl refl (sym a.spelled ∙ b.spelled) in (
      IsUnsigned32-same (to_le_bytes w32 y) x y (record { fits = a.time_fits; bytes_are = sym parts.1 }) (record { fits = b.time_fits; bytes_are = refl }),
      IsUnsigned32-same (to_le_bytes w32 w) v w (record { fits = a.increment_fits; bytes_are = sym parts.0 }) (record { fits = b.increment_fits; bytes_are = refl }),
    )

-- a boolean is one
pub one_truth : (x y : Bool) → boolean_payload x ≡ boolean_payload y → x ≡ y
one_truth false false e = refl
one_truth true true e = refl
one_truth false true e = let bad : ◌≡◌ {A = List ℕ} (0 ∷ []) (1 ∷ []) = e in cc
one_truth true false e = let bad : ◌≡◌ {A = List ℕ} (1 ∷ []) (0 ∷ []) = e in cc
