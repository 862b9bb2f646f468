-- Texts up to a 0, and the two of a regular expression.
use Rattle.std.proofs.Common.{◌≡◌, inl, inr, ◌++◌, ◌∷◌, [], ◌-◌, ℕ, List, length, take, arith, ap, sym, refl, ◌∙◌, subst, append_assoc, length-append}
use Rattle.std.specs.Str.{IsUtf8}
use Rattle.std.proofs.lemmas.List.{take_at}
use Rattle.raw_view.specs.declared.error.ErrorKind.{ErrorKind}
use Rattle.raw_view.specs.declared.error.ErrorKind.TheVariants as what
use Rattle.raw_view.specs.declared.element_type.ElementType.TheVariants as kind
use Rattle.bson_model.specs.Bytes.{NulFree}
use Rattle.raw_view.specs.Frame.{IsRegex, BeginsWithBadText, HasBadRegexText}
use Rattle.raw_view.specs.Frame.Front.{IsTextFault, IsPayloadFault}
use Rattle.bson_model.proofs.Face.{NulFree-head, NulFree-tail}
use Rattle.raw_view.proofs.Bytes.Cuts.{cut}

-- a list with a 0 in it
pub has_nul : (x w : List ℕ) → NulFree (x ++ 0 ∷ w) → ⊥
has_nul [] w h = NulFree-head 0 w h refl
has_nul (b ∷ x) w h = has_nul x w (NulFree-tail b (x ++ 0 ∷ w) h)

pub no_nul_in : (z x w : List ℕ) → z ≡ x ++ 0 ∷ w → NulFree z → ⊥
no_nul_in z x w e h = has_nul x w (subst NulFree e h)

-- bytes that begin with a text don't begin with bytes that aren't one
pub good_text : (z x w : List ℕ) → z ≡ x ++ 0 ∷ w → NulFree x → IsUtf8 x → BeginsWithBadText z → ⊥
good_text z x w e h u bad =
    let same = cut x bad.0 w bad.1 h bad.3 (sym e ∙ bad.2) in
    bad.4 (subst IsUtf8 same.0 u)

-- what a regular expression at the front says of the bytes
pub regex_front : (bs p r pattern options : List ℕ) → bs ≡ p ++ r → IsRegex p pattern options → bs ≡ pattern ++ 0 ∷ (options ++ 0 ∷ r)
regex_front bs p r pattern options e x = e ∙ ap (λ y. y ++ r) x.spelled ∙ append_assoc pattern (0 ∷ (options ++ 0 ∷ [])) r ∙ ap (λ y. pattern ++ 0 ∷ y) (append_assoc options (0 ∷ []) r)

pub pattern_fault_no_regex : (bs : List ℕ) (fault : ErrorKind) → IsTextFault bs fault → (p r : List ℕ) → bs ≡ p ++ r → (pattern options : List ℕ) × IsRegex p pattern options → ⊥
pattern_fault_no_regex bs (what.MalformedValue why) h p r e x = no_nul_in bs x.0 _ (regex_front bs p r x.0 x.1 e x.2) h.0
pattern_fault_no_regex bs (what.Utf8EncodingError error) h p r e x = good_text bs x.0 _ (regex_front bs p r x.0 x.1 e x.2) x.2.pattern_nul_free x.2.pattern_text h
pattern_fault_no_regex bs what.OutOfMemory h p r e x = h

-- the options' part of a regular expression at the front
pub options_of : (bs text behind p r : List ℕ) → bs ≡ text ++ 0 ∷ behind → NulFree text → bs ≡ p ++ r → (x : (pattern options : List ℕ) × IsRegex p pattern options) → behind ≡ x.1 ++ 0 ∷ r
options_of bs text behind p r spelled nul_free e x = (cut text x.0 behind (x.1 ++ 0 ∷ r) nul_free x.2.pattern_nul_free (sym spelled ∙ regex_front bs p r x.0 x.1 e x.2)).1

pub options_fault_no_regex : {bs : List ℕ} (text behind : List ℕ) (fault : ErrorKind) → bs ≡ text ++ 0 ∷ behind → NulFree text → IsTextFault behind fault → (p r : List ℕ)
    → bs ≡ p ++ r → (pattern options : List ℕ) × IsRegex p pattern options → ⊥
options_fault_no_regex {bs = bs} text behind (what.MalformedValue why) spelled nul_free h p r e x = no_nul_in behind x.1 r (options_of bs text behind p r spelled nul_free e x) h.0
options_fault_no_regex {bs = bs} text behind (what.Utf8EncodingError error) spelled nul_free h p r e x =
    good_text behind x.1 r (options_of bs text behind p r spelled nul_free e x) x.2.options_nul_free x.2.options_text h
options_fault_no_regex text behind what.OutOfMemory spelled nul_free h p r e x = h

-- the kind of the fault
pub no_bad_regex : (bs : List ℕ) → NulFree bs → HasBadRegexText bs → ⊥
no_bad_regex bs h bad = elim bad [ inl b ↦ no_nul_in bs b.0 b.1 b.2 h | inr b ↦ no_nul_in bs b.0 b.1 b.2 h ]

pub pattern_fault : (bs : List ℕ) (fault : ErrorKind) → IsTextFault bs fault → IsPayloadFault kind.RegularExpression bs fault
pattern_fault bs (what.MalformedValue why) h = (λ bad. no_bad_regex bs h.0 bad.1, h.1)
pattern_fault bs (what.Utf8EncodingError error) h = (refl, inl h)
pattern_fault bs what.OutOfMemory h = h

no_bad_options : (bs text behind : List ℕ) → bs ≡ text ++ 0 ∷ behind → NulFree text → IsUtf8 text → NulFree behind → HasBadRegexText bs → ⊥
no_bad_options bs text behind e nul_free u h bad =
    elim bad [
      | inl b ↦ good_text bs text behind e nul_free u b
      | inr b ↦ let same = (cut text b.0 behind b.1 nul_free b.3 (sym e ∙ b.2)).1 in no_nul_in behind b.5.0 b.5.1 (same ∙ b.5.2) h
    ]

pub options_fault : (bs text behind : List ℕ) (fault : ErrorKind) → bs ≡ text ++ 0 ∷ behind → NulFree text → IsUtf8 text → IsTextFault behind fault
    → IsPayloadFault kind.RegularExpression bs fault
options_fault bs text behind (what.MalformedValue why) e nul_free u h = (λ bad. no_bad_options bs text behind e nul_free u h.0 bad.1, h.1)
options_fault bs text behind (what.Utf8EncodingError error) e nul_free u h = (refl, inr (text, behind, e, nul_free, u, h))
options_fault bs text behind what.OutOfMemory e nul_free u h = h

-- two texts, each with its 0, are a regular expression
pub regex_found : (bs x w y v : List ℕ) → bs ≡ x ++ 0 ∷ w → w ≡ y ++ 0 ∷ v → NulFree x → IsUtf8 x → NulFree y → IsUtf8 y
    → (pattern options : List ℕ) × IsRegex (take (length bs - length v) bs) pattern options
regex_found bs x w y v e d h u k t =
    let whole : bs ≡ (x ++ 0 ∷ (y ++ 0 ∷ [])) ++ v = e ∙ ap (λ z. x ++ 0 ∷ z) (d ∙ sym (append_assoc y (0 ∷ []) v)) ∙ sym (append_assoc x (0 ∷ (y ++ 0 ∷ [])) v) in
    let size : length (x ++ 0 ∷ (y ++ 0 ∷ [])) ≡ length bs - length v = omega (arith, ap length whole, length-append (x ++ 0 ∷ (y ++ 0 ∷ [])) v) in
    let front : take (length bs - length v) bs ≡ x ++ 0 ∷ (y ++ 0 ∷ []) = ap (take (length bs - length v)) whole ∙ take_at (x ++ 0 ∷ (y ++ 0 ∷ [])) v _ size in
    (x, y, record { spelled = front; pattern_nul_free = h; pattern_text = u; options_nul_free = k; options_text = t })
