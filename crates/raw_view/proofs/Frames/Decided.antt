-- Decisions on kinds and their payloads: which one is at the front of bytes, or that none is.
use Rattle.std.proofs.Common.{◌≡◌, ◌≢◌, ◌⊎◌, inl, inr, ◌++◌, ◌-◌, ◌+◌, ◌<◌, ◌≤◌, ℕ, ℤ, pos, negsuc, List, length, take, drop, get_or, arith, ap, sym, refl, ◌∙◌, subst, length-append, Bool, true, eqb, Option, Some, None}
use Rattle.std.proofs.lemmas.Bool.{cases_eq, cases_lt, eqb-true, agree_below_at}
use Rattle.std.proofs.lemmas.Option.{none-some}
use Rattle.std.proofs.lemmas.List.{length-take-le, length-take}
use Rattle.raw_view.specs.declared.element_type.ElementType.{ElementType}
use Rattle.raw_view.specs.declared.element_type.ElementType.TheVariants as kind
use Rattle.raw_view.specs.Frame.{HasShape}
use Rattle.bson_model.specs.Bytes.{AreBytes}
use Rattle.raw_view.specs.Frame.Number.{IsLe32}
use Rattle.raw_view.specs.Frame.Kind.{tag_of}
use Rattle.raw_view.proofs.Frames.Fronts.{kind_of, kind_of-tag_of}
use Rattle.raw_view.proofs.Bytes.Numbers.{read_front, IsLe32-same, IsLe32-length}
use Rattle.raw_view.proofs.Frames.Payloads.{string_at, string_front, document_found, document_front, binary_found, binary_front, scoped_found, scoped_front, pointer_found, no_pointer, pointer_within}
use Rattle.raw_view.proofs.Bytes.Texts.{regex_front, options_of, regex_found}
use Rattle.raw_view.proofs.Bytes.DecidedTexts.{front_text_or_not, no_front_text}

-- two facts that are decided
pub both_or_not : {P Q : Type 0} → P ⊎ ¬ P → Q ⊎ ¬ Q → (P × Q) ⊎ ¬ (P × Q)
both_or_not p q =
    elim p [
      | inl x ↦ elim q [ inl y ↦ inl (x, y) | inr n ↦ inr (λ b. n b.1) ]
      | inr n ↦ inr (λ b. n b.0)
    ]

-- one number is at most another or not
le_or_not : (m n : ℕ) → (m ≤ n) ⊎ ¬ (m ≤ n)
le_or_not m n = elim (cases_lt n m) [ inl l ↦ inr (λ h. omega arith) | inr h ↦ inl h ]

-- the kind, if there is one, has this tag
abbrev names : Option ElementType → ℕ → Bool
names None tag = true
names (Some k) tag = eqb tag (tag_of k)

-- the kind that a tag gives has that tag
named : (tag : ℕ) → tag < 256 → names (kind_of tag) tag ≡ true
named tag l = agree_below_at (λ t. names (kind_of t) t) (λ t. true) 256 tag refl l

kind_or_none : (tag : ℕ) (found : Option ElementType) → kind_of tag ≡ found → names found tag ≡ true → ((k : ElementType) × (tag ≡ tag_of k)) ⊎ ((k : ElementType) → tag ≢ tag_of k)
kind_or_none tag None e named = inr (λ k t. none-some k (sym e ∙ ap kind_of t ∙ kind_of-tag_of k))
kind_or_none tag (Some k) e named = inl (k, eqb-true tag (tag_of k) named)

-- a byte is a kind's tag, or no kind's
pub kind_or_not : (tag : ℕ) → tag < 256 → ((k : ElementType) × (tag ≡ tag_of k)) ⊎ ((k : ElementType) → tag ≢ tag_of k)
kind_or_not tag l = kind_or_none tag (kind_of tag) refl (named tag l)

-- payloads

-- a payload of the kind is at the front of z, of some length
abbrev pub Stands : ElementType → List ℕ → Type 0
Stands kind z = (n : ℕ) × (n ≤ length z) × HasShape kind (take n z) (drop n z)

-- no cut of z gives a payload of the kind
abbrev pub Misses : ElementType → List ℕ → Type 0
Misses kind z = (p r : List ℕ) → z ≡ p ++ r → HasShape kind p r → ⊥

-- a kind with one size
sized_or_not : (n : ℕ) (z : List ℕ) → ((m : ℕ) × (m ≤ length z) × (length (take m z) ≡ n)) ⊎ ((p r : List ℕ) → z ≡ p ++ r → length p ≡ n → ⊥)
sized_or_not n z =
    elim (cases_lt (length z) n) [
      | inl l ↦ inr (λ p r e x. omega (arith, ap length e, length-append p r))
      | inr l ↦ inl (n, l, length-take-le n z l)
    ]

-- four bytes are one length
pub one_length : (head : List ℕ) (n m : ℕ) → IsLe32 head (pos n) → IsLe32 head (pos m) → m ≡ n
one_length head n m h k = let e : pos m ≡ pos n = IsLe32-same head (pos m) (pos n) k h in cc

-- a number is a length or negative
is_length : (head : List ℕ) (v : ℤ) → IsLe32 head v → ((n : ℕ) × IsLe32 head (pos n)) ⊎ ((n : ℕ) → ¬ IsLe32 head (pos n))
is_length head (pos n) h = inl (n, h)
is_length head (negsuc n) h = inr (λ m k. let e : negsuc n ≡ pos m = IsLe32-same head (negsuc n) (pos m) h k in cc)

-- the four bytes at the front are a length, or none is there
pub length_or_not : (z : List ℕ) → AreBytes z → ((n : ℕ) × IsLe32 (take 4 z) (pos n)) ⊎ ((n : ℕ) → ¬ IsLe32 (take 4 z) (pos n))
length_or_not z bytes =
    elim (cases_lt (length z) 4) [
      | inl l ↦ inr (λ n h. omega (arith, IsLe32-length (take 4 z) (pos n) h, length-take 4 z))
      | inr l ↦ is_length (take 4 z) _ (read_front z _ bytes l refl)
    ]

-- A kind whose payload begins with a length: a payload of it is at the front if and only if that length fits, and this is decided.
by_length :
    (kind : ElementType) (z : List ℕ) (Fits : ℕ → Type 0) → AreBytes z →
    ((n : ℕ) → Fits n ⊎ ¬ Fits n) →
    ((n : ℕ) → IsLe32 (take 4 z) (pos n) → Fits n → Stands kind z) →
    ((p r : List ℕ) → z ≡ p ++ r → HasShape kind p r → (n : ℕ) × IsLe32 (take 4 z) (pos n) × Fits n) →
    Stands kind z ⊎ Misses kind z
by_length kind z Fits bytes fits stands front =
    elim (length_or_not z bytes) [
      | inl d ↦ elim (fits d.0) [
        | inl f ↦ inl (stands d.0 d.1 f)
        | inr n ↦ inr (λ p r e x. let t = front p r e x in n (subst Fits (one_length (take 4 z) d.0 t.0 d.1 t.1) t.2))
      ]
      | inr none ↦ inr (λ p r e x. let t = front p r e x in none t.0 t.1)
    ]

-- a string: its text has the length less 1, then comes a 0
pub string_or_not : (z : List ℕ) → AreBytes z → Stands kind.String z ⊎ Misses kind.String z
string_or_not z bytes =
    by_length kind.String z (λ n. (1 ≤ n) × ((n + 4 ≤ length z) × (get_or z (n + 4 - 1) 0 ≡ 0))) bytes
    (λ n. both_or_not (le_or_not 1 n) (both_or_not (le_or_not (n + 4) (length z)) (cases_eq (get_or z (n + 4 - 1) 0) 0)))
    (λ n h f. (n + 4, f.1.0, string_at z n h (λ e. omega arith) f.1.0 f.1.1))
    (λ p r e x.
    let s = string_front z p r x.0 e x.1 in
    let at : length x.0 + 1 + 4 - 1 ≡ length x.0 + 4 = omega arith in
    (length x.0 + 1, s.0, (omega arith, (omega arith, rw at s.2))))

-- a nested document: as many bytes as its length says, at least five, the last a 0
pub document_or_not : (z : List ℕ) → AreBytes z → Stands kind.EmbeddedDocument z ⊎ Misses kind.EmbeddedDocument z
document_or_not z bytes =
    by_length kind.EmbeddedDocument z (λ n. (5 ≤ n) × ((n ≤ length z) × (get_or z (n - 1) 0 ≡ 0))) bytes
    (λ n. both_or_not (le_or_not 5 n) (both_or_not (le_or_not n (length z)) (cases_eq (get_or z (n - 1) 0) 0)))
    (λ n h f. (n, f.1.0, document_found z n bytes h f.0 f.1.0 f.1.1))
    (λ p r e x. let d = document_front z p r e x in (d.0, d.1, (d.2, (d.3, d.4))))

-- a binary: five bytes more than its length
binary_or_not : (z : List ℕ) → AreBytes z → Stands kind.Binary z ⊎ Misses kind.Binary z
binary_or_not z bytes =
    by_length kind.Binary z (λ n. n + 5 ≤ length z) bytes
    (λ n. le_or_not (n + 5) (length z))
    (λ n h f. (n + 5, f, binary_found z n h f))
    (binary_front z)

-- a code with scope: as many bytes as its length says
scoped_or_not : (z : List ℕ) → AreBytes z → Stands kind.JavaScriptCodeWithScope z ⊎ Misses kind.JavaScriptCodeWithScope z
scoped_or_not z bytes =
    by_length kind.JavaScriptCodeWithScope z (λ n. (4 ≤ length z) × (n ≤ length z)) bytes
    (λ n. both_or_not (le_or_not 4 (length z)) (le_or_not n (length z)))
    (λ n h f. (n, f.1, scoped_found z n f.0 h f.1))
    (λ p r e x. let d = scoped_front z p r e x in (d.0, d.2, (d.1, d.3)))

-- a pointer: a string and twelve bytes
pointer_or_not : (z : List ℕ) → AreBytes z → Stands kind.DbPointer z ⊎ Misses kind.DbPointer z
pointer_or_not z bytes =
    elim (string_or_not z bytes) [
      | inl t ↦ elim (cases_lt (length z) (t.0 + 12)) [
        | inl l ↦ inr (λ p r e x. omega (arith, pointer_within z p r t.0 t.2 t.1 e x))
        | inr l ↦ inl (t.0 + 12, l, pointer_found z t.0 t.2 l)
      ]
      | inr none ↦ inr (no_pointer z none)
    ]

-- a regular expression: two texts
regex_or_not : (z : List ℕ) → Stands kind.RegularExpression z ⊎ Misses kind.RegularExpression z
regex_or_not z =
    elim (front_text_or_not z) [
      | inl t ↦ elim (front_text_or_not t.1) [
        | inl u ↦ inl (length z - length u.1, omega arith, regex_found z t.0 t.1 u.0 u.1 t.2 u.2 t.3 t.4 u.3 u.4)
        | inr n ↦ inr (λ p r e x. no_front_text t.1 x.1 r (options_of z t.0 t.1 p r t.2 t.3 e x) x.2.options_nul_free x.2.options_text n)
      ]
      | inr n ↦ inr (λ p r e x. no_front_text z x.0 _ (regex_front z p r x.0 x.1 e x.2) x.2.pattern_nul_free x.2.pattern_text n)
    ]

-- a payload of the kind is at the front, or none is
pub payload_or_not : (k : ElementType) (z : List ℕ) → AreBytes z → Stands k z ⊎ Misses k z
payload_or_not kind.Double z bytes = sized_or_not 8 z
payload_or_not kind.String z bytes = string_or_not z bytes
payload_or_not kind.EmbeddedDocument z bytes = document_or_not z bytes
payload_or_not kind.Array z bytes = document_or_not z bytes
payload_or_not kind.Binary z bytes = binary_or_not z bytes
payload_or_not kind.Undefined z bytes = sized_or_not 0 z
payload_or_not kind.ObjectId z bytes = sized_or_not 12 z
payload_or_not kind.Boolean z bytes = sized_or_not 1 z
payload_or_not kind.DateTime z bytes = sized_or_not 8 z
payload_or_not kind.Null z bytes = sized_or_not 0 z
payload_or_not kind.RegularExpression z bytes = regex_or_not z
payload_or_not kind.DbPointer z bytes = pointer_or_not z bytes
payload_or_not kind.JavaScriptCode z bytes = string_or_not z bytes
payload_or_not kind.Symbol z bytes = string_or_not z bytes
payload_or_not kind.JavaScriptCodeWithScope z bytes = scoped_or_not z bytes
payload_or_not kind.Int32 z bytes = sized_or_not 4 z
payload_or_not kind.Timestamp z bytes = sized_or_not 8 z
payload_or_not kind.Int64 z bytes = sized_or_not 8 z
payload_or_not kind.Decimal128 z bytes = sized_or_not 16 z
payload_or_not kind.MaxKey z bytes = sized_or_not 0 z
payload_or_not kind.MinKey z bytes = sized_or_not 0 z
