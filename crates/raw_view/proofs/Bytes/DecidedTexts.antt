-- Decisions on texts: which one is at the front of bytes, or that none is.
use Rattle.std.proofs.Common.{◌≡◌, ◌⊎◌, inl, inr, ◌++◌, ◌∷◌, [], List, ℕ, ap, sym, ◌∙◌, subst}
use Rattle.std.specs.Str.{IsUtf8, is_utf8}
use Rattle.std.proofs.lemmas.Bool.{cases_Bool, cases_eq, both_ways}
use Rattle.std.proofs.lemmas.Str.{IsUtf8-from_is_utf8, is_utf8-from_IsUtf8}
use Rattle.bson_model.specs.Bytes.{NulFree}
use Rattle.raw_view.specs.Frame.{BeginsWithBadText, HasBadRegexText}
use Rattle.bson_model.proofs.Face.{NulFree-nil, NulFree-cons}
use Rattle.raw_view.proofs.Bytes.Cuts.{cut}
use Rattle.raw_view.proofs.Bytes.Texts.{no_nul_in, good_text, no_bad_regex}

-- bytes are UTF-8 or not
pub utf8_or_not : (x : List ℕ) → IsUtf8 x ⊎ ¬ IsUtf8 x
utf8_or_not x =
    elim (cases_Bool (is_utf8 x)) [
      | inl e ↦ inl (IsUtf8-from_is_utf8 x e)
      | inr e ↦ inr (λ u. both_ways (is_utf8 x) e (is_utf8-from_IsUtf8 x u))
    ]

-- the bytes before the first 0 and after it, or there is no 0
nul_or_none : (z : List ℕ) → ((x w : List ℕ) × (z ≡ x ++ 0 ∷ w) × NulFree x) ⊎ NulFree z
nul_or_none [] = inr NulFree-nil
nul_or_none (b ∷ z) =
    elim (cases_eq b 0) [
      | inl e ↦ inl ([], z, ap (λ x. x ∷ z) e, NulFree-nil)
      | inr n ↦ elim (nul_or_none z) [
        | inl f ↦ inl (b ∷ f.0, f.1, ap (λ x. b ∷ x) f.2, NulFree-cons b f.0 n f.3)
        | inr h ↦ inr (NulFree-cons b z n h)
      ]
    ]

-- z begins with a UTF-8 text and its 0
abbrev pub HasFrontText : List ℕ → Type 0
HasFrontText z = (x w : List ℕ) × (z ≡ x ++ 0 ∷ w) × NulFree x × IsUtf8 x

-- z has no 0, or the bytes before the first 0 aren't UTF-8
abbrev pub HasNoFrontText : List ℕ → Type 0
HasNoFrontText z = NulFree z ⊎ BeginsWithBadText z

-- a text ends at the first 0, or none does
pub front_text_or_not : (z : List ℕ) → HasFrontText z ⊎ HasNoFrontText z
front_text_or_not z =
    elim (nul_or_none z) [
      | inl f ↦ elim (utf8_or_not f.0) [
        | inl u ↦ inl (f.0, f.1, f.2, f.3, u)
        | inr n ↦ inr (inr (f.0, f.1, f.2, f.3, n))
      ]
      | inr h ↦ inr (inl h)
    ]

-- not both
pub no_front_text : (z x w : List ℕ) → z ≡ x ++ 0 ∷ w → NulFree x → IsUtf8 x → HasNoFrontText z → ⊥
no_front_text z x w e h u none = elim none [ inl n ↦ no_nul_in z x w e n | inr b ↦ good_text z x w e h u b ]

-- z begins with bytes up to a 0 that are no text, or not
bad_text_or_not : (z : List ℕ) → BeginsWithBadText z ⊎ ¬ BeginsWithBadText z
bad_text_or_not z =
    elim (front_text_or_not z) [
      | inl t ↦ inr (good_text z t.0 t.1 t.2 t.3 t.4)
      | inr n ↦ elim n [
        | inl h ↦ inr (λ b. no_nul_in z b.0 b.1 b.2 h)
        | inr b ↦ inl b
      ]
    ]

-- the texts of a regular expression

-- after a good pattern, a bad text is that of the options
bad_behind : (z : List ℕ) (t : HasFrontText z) → HasBadRegexText z → BeginsWithBadText t.1
bad_behind z t bad =
    elim bad [
      | inl b ↦ absurd (good_text z t.0 t.1 t.2 t.3 t.4 b)
      | inr b ↦ subst BeginsWithBadText (sym (cut t.0 b.0 t.1 b.1 t.3 b.3 (sym t.2 ∙ b.2)).1) b.5
    ]

-- the pattern or the options are no text, or neither is
pub bad_regex_or_not : (z : List ℕ) → HasBadRegexText z ⊎ ¬ HasBadRegexText z
bad_regex_or_not z =
    elim (front_text_or_not z) [
      | inl t ↦ elim (bad_text_or_not t.1) [
        | inl b ↦ inl (inr (t.0, t.1, t.2, t.3, t.4, b))
        | inr n ↦ inr (λ bad. n (bad_behind z t bad))
      ]
      | inr n ↦ elim n [
        | inl h ↦ inr (no_bad_regex z h)
        | inr b ↦ inl (inl b)
      ]
    ]
