-- The text of a double in quotes is read as its bits, and as no others. Of the NaNs this is the default one.
use Rattle.std.proofs.Common.{◌≡◌, ◌≢◌, ◌<◌, ◌≤◌, ◌^◌, ◌++◌, ℕ, ℤ, Bool, true, false, cond, List, [], ◌∷◌, Some, codes, length, get_or, inl, inr, refl, sym, ap, subst, ◌∙◌, arith, from_bits}
use Rattle.std.specs.Fmt.{sign_text}
use Rattle.std.specs.Prelude.{T, not}
use Rattle.std.specs.Str.Parse.{AllDigits}
use Rattle.std.specs.Float.{binary64, float_is_finite}
use Rattle.std.specs.Float.Parse.{without_sign}
use Rattle.std.specs.Char.{to_ascii_lowercase}
use Rattle.std.proofs.lemmas.Bool.{and_from, false≢true, ne_eqb}
use Rattle.std.proofs.lemmas.Str.Ascii.{lowercase_is}
use Rattle.std.proofs.lemmas.Str.Parse.{digit_from_value}
use Rattle.std.specs.Float.Ieee.{Float, nan, inf, fin}
use lib.Ieee.{is_nan, of_bits, to_bits}
use lib.Ieee.Bits.{to_bits-of_bits}
use Rattle.ryu.specs.Plain.{IsPlainNumber}
use Rattle.fast_float.specs.Parse.{parse_float}
use Rattle.fast_float.specs.Text.{Parts, exponent_text, text_of}
use Rattle.fast_float.proofs.OnLiterals.{fast_float_on_literals}
use Rattle.bson_to_json.specs.Doubles.{IsDoubleText}
use Rattle.bson_from_json.specs.DecimalTexts.{IsWord}
use Rattle.bson_from_json.specs.Numbers.{WritesDouble, WritesNearest, infinity_bits, nan_bits, sign_bits}
use Rattle.values_from_json.specs.Spaces.{is_space, trimmed}
use Rattle.values_from_json.proofs.Face.{are_dense, dense_both}
use Rattle.json_round_trip.specs.Returning.{DoubleComesBack}
use Rattle.json_round_trip.proofs.leaves.Dense.{dense_trimmed, digits_dense}
use Rattle.json_round_trip.proofs.leaves.Plain.{are_plain, plain_both, plain_digits, sign_plain}

number_has_bits : (x : Float) (bits : ℕ) → bits < 2 ^ 64 → T (not (is_nan x)) → from_bits binary64 bits ≡ x → to_bits binary64 x ≡ bits
number_has_bits x bits h number is =
    ap (to_bits binary64) (sym is) ∙ to_bits-of_bits binary64 bits h (subst (λ (y : Float). T (not (is_nan y))) (sym is) number)

infinity_is : to_bits binary64 (inf false) ≡ infinity_bits
unfolding to_bits
infinity_is = refl

minus_infinity_is : to_bits binary64 (inf true) ≡ 0xFFF0_0000_0000_0000
unfolding to_bits
minus_infinity_is = refl

is_number : (s : Bool) → T (not (is_nan (inf s)))
unfolding is_nan
is_number s = tt

is_finite_number : (s : Bool) (m : ℕ) (e : ℤ) → T (not (is_nan (fin s m e)))
unfolding is_nan
is_finite_number s m e = tt

-- the characters of a number are no white space

exponent_dense : (negative : Bool) (ds : List ℕ) → AllDigits 10 ds → are_dense (exponent_text negative ds) ≡ true
exponent_dense negative [] h = refl
exponent_dense true (d ∷ ds) h = digits_dense (d ∷ ds) h
exponent_dense false (d ∷ ds) h = digits_dense (d ∷ ds) h

fraction_dense : (point : Bool) (fraction : List ℕ) → AllDigits 10 fraction → are_dense (cond point (46 ∷ fraction) []) ≡ true
fraction_dense true fraction h = digits_dense fraction h
fraction_dense false fraction h = refl

sign_dense : (negative : Bool) → are_dense (sign_text negative) ≡ true
sign_dense true = refl
sign_dense false = refl

number_dense : (text : List ℕ) → IsPlainNumber text → are_dense text ≡ true
number_dense text (negative, p, is, plain) =
    let w = plain.well_formed in
    ap are_dense is ∙ dense_both (sign_text negative) (text_of p) (sign_dense negative)
    (dense_both p.whole _ (digits_dense p.whole w.whole_digits)
    (dense_both (cond p.point (46 ∷ p.fraction) []) _ (fraction_dense p.point p.fraction w.fraction_digits) (exponent_dense p.exponent_negative p.exponent w.exponent_digits)))

number_trimmed : (text : List ℕ) → IsPlainNumber text → trimmed text ≡ text
number_trimmed text h = dense_trimmed text (number_dense text h)

abbrev Quotes : ℕ → List ℕ → Type 0
Quotes bits text = WritesDouble (trimmed text) bits

writes : (x : Float) (bits : ℕ) (text : List ℕ) → from_bits binary64 bits ≡ x → bits < 2 ^ 64 → DoubleComesBack bits x → IsDoubleText x text → Quotes bits text
unfolding float_is_finite
writes nan bits text is few kept t = subst (Quotes bits) (sym t) (inr (inl (refl, kept)))
writes (inf false) bits text is few kept t =
    subst (Quotes bits) (sym t) (inl (inl refl, sym (number_has_bits (inf false) bits few (is_number false) is) ∙ infinity_is))
writes (inf true) bits text is few kept t =
    subst (Quotes bits) (sym t) (inl (inl refl, sym (number_has_bits (inf true) bits few (is_number true) is) ∙ minus_infinity_is))
writes (fin s m e) bits text is few kept t =
    subst (λ (l : List ℕ). WritesDouble l bits) (sym (number_trimmed text t.0))
    (inr (inr (fin s m e, t.1, refl, sym (number_has_bits (fin s m e) bits few (is_finite_number s m e) is))))

pub double_written : (bits : ℕ) (text : List ℕ) → bits < 2 ^ 64 → DoubleComesBack bits (from_bits binary64 bits) → IsDoubleText (from_bits binary64 bits) text
    → WritesDouble (trimmed text) bits
double_written bits text few kept t = writes (from_bits binary64 bits) bits text refl few kept t

-- a text has the bits of one double

-- words differ at their first letters
unlike : (a b : ℕ) (xs ys : List ℕ) → a ≢ b → a ∷ xs ≡ b ∷ ys → ⊥
unlike a b xs ys differ e = differ (ap (λ (l : List ℕ). get_or l 0 0) e)

no_number : (x y : Float) → float_is_finite x ≡ false → Some x ≡ Some y → float_is_finite y ≡ true → ⊥
no_number x y none same finite =
    let one : x ≡ y = cc in
    false≢true (sym none ∙ ap float_is_finite one ∙ finite)

nan_read : parse_float binary64 (codes "NaN") ≡ Some nan
unfolding fast_float_on_literals
nan_read = refl

infinity_read : parse_float binary64 (codes "Infinity") ≡ Some (inf false)
unfolding fast_float_on_literals
infinity_read = refl

minus_infinity_read : parse_float binary64 (codes "-Infinity") ≡ Some (inf true)
unfolding fast_float_on_literals
minus_infinity_read = refl

nan_infinite : float_is_finite nan ≡ false
unfolding float_is_finite
nan_infinite = refl

inf_infinite : (s : Bool) → float_is_finite (inf s) ≡ false
unfolding float_is_finite
inf_infinite s = refl

nan_only : (a : ℕ) → WritesDouble (codes "NaN") a → a ≡ nan_bits
nan_only a (inl (inl w, is)) = absurd (unlike _ _ _ _ (λ e. omega (arith, e)) w)
nan_only a (inl (inr w, is)) = absurd (unlike _ _ _ _ (λ e. omega (arith, e)) w)
nan_only a (inr (inl (w, is))) = is
nan_only a (inr (inr (y, read, finite, is))) = absurd (no_number nan y nan_infinite (sym nan_read ∙ read) finite)

infinity_only : (a : ℕ) → WritesDouble (codes "Infinity") a → a ≡ infinity_bits
infinity_only a (inl (w, is)) = is
infinity_only a (inr (inl (w, is))) = absurd (unlike _ _ _ _ (λ e. omega (arith, e)) w)
infinity_only a (inr (inr (y, read, finite, is))) = absurd (no_number (inf false) y (inf_infinite false) (sym infinity_read ∙ read) finite)

minus_infinity_only : (a : ℕ) → WritesDouble (codes "-Infinity") a → a ≡ 0xFFF0_0000_0000_0000
minus_infinity_only a (inl (w, is)) = is
minus_infinity_only a (inr (inl (w, is))) = absurd (unlike _ _ _ _ (λ e. omega (arith, e)) w)
minus_infinity_only a (inr (inr (y, read, finite, is))) = absurd (no_number (inf true) y (inf_infinite true) (sym minus_infinity_read ∙ read) finite)

-- a number is no word: its first character after a sign is a digit
no_sign : (d : ℕ) (ds : List ℕ) → 48 ≤ d → without_sign (d ∷ ds) ≡ d ∷ ds
no_sign d ds h = rw (ne_eqb d 43 (λ e. omega (arith, h, e)), ne_eqb d 45 (λ e. omega (arith, h, e))) refl

behind_sign : (negative : Bool) (d : ℕ) (ds : List ℕ) → 48 ≤ d → without_sign (sign_text negative ++ d ∷ ds) ≡ d ∷ ds
behind_sign true d ds h = refl
behind_sign false d ds h = no_sign d ds h

digit_no_word : (d letter : ℕ) (ds word : List ℕ) → d ≤ 57 → 57 < letter → IsWord (letter ∷ word) (d ∷ ds) → ⊥
digit_no_word d letter ds word few large w =
    let kept : to_ascii_lowercase d ≡ d = (lowercase_is d).1 (omega (arith, few)) in
    let same : to_ascii_lowercase d ≡ letter = ap (λ (l : List ℕ). get_or l 0 0) w in
    omega (arith, kept, same, few, large)

first_digit : (ds rest : List ℕ) → 0 < length ds → AllDigits 10 ds → (d : ℕ) × (more : List ℕ) × (ds ++ rest ≡ d ∷ more) × (48 ≤ d) × (d ≤ 57)
first_digit [] rest some h = absurd (omega (arith, some))
first_digit (d ∷ ds) rest some h = let r = digit_from_value d h.0 in (d, ds ++ rest, refl, r.0, r.1)

number_no_word : (text : List ℕ) → IsPlainNumber text → (letter : ℕ) (word : List ℕ) → 57 < letter → IsWord (letter ∷ word) (without_sign text) → ⊥
number_no_word text (negative, p, is, plain) letter word large w =
    let (d, more, e, low, few) = first_digit p.whole (cond p.point (46 ∷ p.fraction) [] ++ exponent_text p.exponent_negative p.exponent) plain.whole plain.well_formed.whole_digits in
    let same : without_sign text ≡ d ∷ more = ap without_sign (is ∙ ap (λ (l : List ℕ). sign_text negative ++ l) e) ∙ behind_sign negative d more low in
    digit_no_word d letter more word few large (subst (IsWord (letter ∷ word)) same w)

one_value : (s : List ℕ) (a b : ℕ) → WritesNearest s a → WritesNearest s b → a ≡ b
one_value s a b (x, read, _, is) (y, also, _, same) =
    let both : Some x ≡ Some y = sym read ∙ also in
    let one : x ≡ y = cc in
    is ∙ ap (to_bits binary64) one ∙ sym same

number_only : (text : List ℕ) (a : ℕ) → IsPlainNumber text → WritesDouble text a → WritesNearest text a
number_only text a h (inl (inl w, is)) = absurd (number_no_word text h _ _ (omega arith) w)
number_only text a h (inl (inr w, is)) = absurd (number_no_word text h _ _ (omega arith) w)
number_only text a h (inr (inl (w, is))) = absurd (number_no_word text h _ _ (omega arith) w)
number_only text a h (inr (inr w)) = w

pub one_double : (x : Float) (text : List ℕ) (a b : ℕ) → IsDoubleText x text → WritesDouble (trimmed text) a → WritesDouble (trimmed text) b → a ≡ b
one_double nan text a b t v w = nan_only a (subst (Quotes a) t v) ∙ sym (nan_only b (subst (Quotes b) t w))
one_double (inf false) text a b t v w = infinity_only a (subst (Quotes a) t v) ∙ sym (infinity_only b (subst (Quotes b) t w))
one_double (inf true) text a b t v w = minus_infinity_only a (subst (Quotes a) t v) ∙ sym (minus_infinity_only b (subst (Quotes b) t w))
one_double (fin s m e) text a b t v w =
    let kept = number_trimmed text t.0 in
    one_value text a b (number_only text a t.0 (subst (λ (l : List ℕ). WritesDouble l a) kept v)) (number_only text b t.0 (subst (λ (l : List ℕ). WritesDouble l b) kept w))

-- it is in a JSON string as it is

exponent_plain : (negative : Bool) (ds : List ℕ) → AllDigits 10 ds → are_plain (exponent_text negative ds) ≡ true
exponent_plain negative [] h = refl
exponent_plain true (d ∷ ds) h = plain_digits (d ∷ ds) h
exponent_plain false (d ∷ ds) h = plain_digits (d ∷ ds) h

fraction_plain : (point : Bool) (fraction : List ℕ) → AllDigits 10 fraction → are_plain (cond point (46 ∷ fraction) []) ≡ true
fraction_plain true fraction h = plain_digits fraction h
fraction_plain false fraction h = refl

number_plain : (text : List ℕ) → IsPlainNumber text → are_plain text ≡ true
number_plain text (negative, p, is, plain) =
    let w = plain.well_formed in
    ap are_plain is ∙ plain_both (sign_text negative) (text_of p) (sign_plain negative)
    (plain_both p.whole _ (plain_digits p.whole w.whole_digits)
    (plain_both (cond p.point (46 ∷ p.fraction) []) _ (fraction_plain p.point p.fraction w.fraction_digits) (exponent_plain p.exponent_negative p.exponent w.exponent_digits)))

pub double_plain : (x : Float) (text : List ℕ) → IsDoubleText x text → are_plain text ≡ true
double_plain nan text is = ap are_plain is
double_plain (inf true) text is = ap are_plain is
double_plain (inf false) text is = ap are_plain is
double_plain (fin s m e) text is = number_plain text is.0
