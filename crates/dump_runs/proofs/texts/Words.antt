-- A number or a literal of JSON goes up to an operator, a space or the end of the text, with no quote and no backslash in it.
use Rattle.std.proofs.Common.{◌≡◌, ◌≤◌, ◌<◌, ◌+◌, ◌&&◌, nat_eq, nat_le, ℕ, suc, Bool, true, false, cond, ◌||◌, ◌==◌, List, [], ◌∷◌, ◌++◌, Option, Some, None, ap, arith, drop, inl, inr, length, option_and_then, refl, subst, sym, take, ◌∙◌}
use Rattle.std.proofs.lemmas.Bool.{and_parts, eqb-true, false≢true, leb-true, ne_eqb, or_cases}
use Rattle.std.proofs.lemmas.List.{take-append-drop}
use Rattle.std.proofs.lemmas.Slice.Eq.{bytes_eq-Decides}
use Rattle.std.specs.Char.{is_ascii_digit}
use Rattle.std.specs.List.{prefix_len, starts_with}
use Rattle.json.specs.Lex.{Class, backslash, class, operator, other, quote, space}
use Rattle.json.specs.Token.{Token}
use Rattle.json.specs.Word.{after_digits, after_exponent, after_fraction, after_minus, after_number, after_sign, after_whole, ends_word, head, is_operator, is_space, literal, number_before, word}

-- what is so of a byte of a class
abbrev pub IsOf : Class → ℕ → Type 0
IsOf quote x = x ≡ 34
IsOf backslash x = x ≡ 92
IsOf operator x = is_operator x ≡ true
IsOf space x = is_space x ≡ true
IsOf other x = ((x == 34) ≡ false) × ((x == 92) ≡ false) × (is_operator x ≡ false) × (is_space x ≡ false)

is_of_tests : (x : ℕ) (q b o s : Bool) → (x == 34) ≡ q → (x == 92) ≡ b → is_operator x ≡ o → is_space x ≡ s
    → IsOf (cond q quote (cond b backslash (cond o operator (cond s space other)))) x
is_of_tests x true b o s hq hb ho hs = eqb-true x 34 hq
is_of_tests x false true o s hq hb ho hs = eqb-true x 92 hb
is_of_tests x false false true s hq hb ho hs = ho
is_of_tests x false false false true hq hb ho hs = hs
is_of_tests x false false false false hq hb ho hs = (hq, hb, ho, hs)

pub is_of_class : (x : ℕ) → IsOf (class x) x
is_of_class x = is_of_tests x (x == 34) (x == 92) (is_operator x) (is_space x) refl refl refl refl

-- bytes that a test tells apart
pub differ : (test : ℕ → Bool) (x c : ℕ) (b : Bool) → test x ≡ b → (test c ≡ b → ⊥) → (x == c) ≡ false
differ test x c b is other' = ne_eqb x c (λ e. other' (sym (ap test e) ∙ is))

-- from here on there is no quote and no backslash before an operator, a space or the end
abbrev pub IsBareByte : Class → Type 0 → Type 0
IsBareByte quote rest = ⊥
IsBareByte backslash rest = ⊥
IsBareByte operator rest = Unit {0}
IsBareByte space rest = Unit {0}
IsBareByte other rest = rest

abbrev pub IsBare : List ℕ → Type 0
IsBare [] = Unit {0}
IsBare (x ∷ xs) = IsBareByte (class x) (IsBare xs)

bare_end_byte : (c : Class) (x : ℕ) (rest : Type 0) → IsOf c x → (is_operator x || is_space x) ≡ true → IsBareByte c rest
bare_end_byte quote x rest is h = absurd (false≢true (sym (ap (λ y. is_operator y || is_space y) is) ∙ h))
bare_end_byte backslash x rest is h = absurd (false≢true (sym (ap (λ y. is_operator y || is_space y) is) ∙ h))
bare_end_byte operator x rest is h = tt
bare_end_byte space x rest is h = tt
bare_end_byte other x rest (q, b, o, s) h =
    elim (or_cases (is_operator x) (is_space x) h) [
      | inl e ↦ absurd (false≢true (sym o ∙ e))
      | inr e ↦ absurd (false≢true (sym s ∙ e))
    ]

bare_end : (t : List ℕ) → ends_word t ≡ true → IsBare t
bare_end [] h = tt
bare_end (x ∷ xs) h = bare_end_byte (class x) x (IsBare xs) (is_of_class x) h

bare_more : (x : ℕ) (xs : List ℕ) → class x ≡ other → IsBare xs → IsBare (x ∷ xs)
bare_more x xs is h = subst (λ c. IsBareByte c (IsBare xs)) (sym is) h

bare_behind : (c : ℕ) (t : List ℕ) → class c ≡ other → (head t == c) ≡ true → IsBare (drop 1 t) → IsBare t
bare_behind c [] is e h = tt
bare_behind c (x ∷ xs) is e h = bare_more x xs (ap class (eqb-true x c e) ∙ is) h

below_digits : (x c : ℕ) → 48 ≤ x → c < 48 → (x == c) ≡ false
below_digits x c low less = ne_eqb x c (λ e. omega (arith, e, low, less))

above_digits : (x c : ℕ) → x ≤ 57 → 57 < c → (x == c) ≡ false
above_digits x c high more = ne_eqb x c (λ e. omega (arith, e, high, more))

between_is_other : (x : ℕ) → 48 ≤ x → x ≤ 57 → class x ≡ other
between_is_other x low high =
    let b123 = above_digits x 123 high (omega arith) in
    let b125 = above_digits x 125 high (omega arith) in
    let b91 = above_digits x 91 high (omega arith) in
    let b93 = above_digits x 93 high (omega arith) in
    let b58 = above_digits x 58 high (omega arith) in
    let b44 = below_digits x 44 low (omega arith) in
    let b32 = below_digits x 32 low (omega arith) in
    let b9 = below_digits x 9 low (omega arith) in
    let b10 = below_digits x 10 low (omega arith) in
    let b13 = below_digits x 13 low (omega arith) in
    let b34 = below_digits x 34 low (omega arith) in
    let b92 = above_digits x 92 high (omega arith) in
    λ i. cond (b34 i) quote (cond (b92 i) backslash (cond (b123 i || b125 i || b91 i || b93 i || b58 i || b44 i) operator (cond (b32 i || b9 i || b10 i || b13 i) space other)))

digit_is_other : (x : ℕ) → is_ascii_digit x ≡ true → class x ≡ other
digit_is_other x h =
    let both = and_parts (nat_le 48 x) (nat_le x 57) h in
    between_is_other x (leb-true 48 x both.0) (leb-true x 57 both.1)

bare_digit : (d : Bool) (x n : ℕ) (xs : List ℕ) → is_ascii_digit x ≡ d → (IsBare (drop n xs) → IsBare xs) → IsBare (drop (cond d (1 + n) 0) (x ∷ xs)) → IsBare (x ∷ xs)
bare_digit true x n xs is more h =
    let same : 1 + n ≡ suc n = omega arith in
    bare_more x xs (digit_is_other x is) (more (subst (λ k. IsBare (drop k (x ∷ xs))) same h))
bare_digit false x n xs is more h = h

bare_digits : (t : List ℕ) → IsBare (drop (prefix_len is_ascii_digit t) t) → IsBare t
bare_digits [] h = tt
bare_digits (x ∷ xs) h = bare_digit (is_ascii_digit x) x (prefix_len is_ascii_digit xs) xs refl (bare_digits xs) h

-- so it is of what is after a part of a number, if there is one
abbrev IsBareBehind : Option (List ℕ) → Type 0
IsBareBehind None = ⊥
IsBareBehind (Some rest) = IsBare rest

one_of_two : (b : Bool) (x y : Option (List ℕ)) (P : Type 0) → (b ≡ true → IsBareBehind x → P) → (IsBareBehind y → P) → IsBareBehind (cond b x y) → P
one_of_two true x y P f g h = f refl h
one_of_two false x y P f g h = g h

may_skip : (b : Bool) (t : List ℕ) → (b ≡ true → IsBare (drop 1 t) → IsBare t) → IsBare (cond b (drop 1 t) t) → IsBare t
may_skip true t f h = f refl h
may_skip false t f h = h

one_of_bytes : (a b : ℕ) (t : List ℕ) → class a ≡ other → class b ≡ other → ((head t == a) || (head t == b)) ≡ true → IsBare (drop 1 t) → IsBare t
one_of_bytes a b t is is' e h =
    elim (or_cases (head t == a) (head t == b) e) [
      | inl f ↦ bare_behind a t is f h
      | inr f ↦ bare_behind b t is' f h
    ]

bare_after_digits : (t : List ℕ) → IsBareBehind (after_digits t) → IsBare t
bare_after_digits t = one_of_two (prefix_len is_ascii_digit t == 0) None (Some (drop (prefix_len is_ascii_digit t) t)) (IsBare t) (λ e h. absurd h) (bare_digits t)

bare_after_whole : (t : List ℕ) → IsBareBehind (after_whole t) → IsBare t
bare_after_whole t = one_of_two (head t == 48) (Some (drop 1 t)) (after_digits t) (IsBare t) (bare_behind 48 t refl) (bare_after_digits t)

bare_after_fraction : (t : List ℕ) → IsBareBehind (after_fraction t) → IsBare t
bare_after_fraction t =
    one_of_two (head t == 46) (after_digits (drop 1 t)) (Some t) (IsBare t) (λ e h. bare_behind 46 t refl e (bare_after_digits (drop 1 t) h)) (λ h. h)

bare_signed : (t : List ℕ) → IsBareBehind (after_digits (after_sign t)) → IsBare t
bare_signed t h = may_skip ((head t == 45) || (head t == 43)) t (one_of_bytes 45 43 t refl refl) (bare_after_digits (after_sign t) h)

bare_after_exponent : (t : List ℕ) → IsBareBehind (after_exponent t) → IsBare t
bare_after_exponent t =
    one_of_two ((head t == 101) || (head t == 69)) (after_digits (after_sign (drop 1 t))) (Some t) (IsBare t)
    (λ e h. one_of_bytes 101 69 t refl refl e (bare_signed (drop 1 t) h)) (λ h. h)

then_bare : (part : List ℕ → Option (List ℕ)) (o : Option (List ℕ)) → ((t : List ℕ) → IsBareBehind (part t) → IsBare t) → IsBareBehind (option_and_then part o) → IsBareBehind o
then_bare part None f h = h
then_bare part (Some t) f h = f t h

bare_after_number : (t : List ℕ) → IsBareBehind (after_number t) → IsBare t
unfolding after_number
bare_after_number t h =
    let whole = after_whole (after_minus t) in
    let fraction = then_bare after_exponent (option_and_then after_fraction whole) bare_after_exponent h in
    may_skip (head t == 45) t (bare_behind 45 t refl) (bare_after_whole (after_minus t) (then_bare after_fraction whole bare_after_fraction fraction))

-- what a word is read as: a number or a literal, which is bare; else it is bad
abbrev pub IsWordOf : List ℕ → Token → Type 0
IsWordOf t (Token.number s) = IsBare t
IsWordOf t (Token.boolean b) = IsBare t
IsWordOf t Token.null = IsBare t
IsWordOf t Token.bad = Unit {0}
IsWordOf t _ = ⊥

either_word : (t : List ℕ) (b : Bool) (v w : Token) → IsWordOf t v → IsWordOf t w → IsWordOf t (cond b v w)
either_word t true v w f g = f
either_word t false v w f g = g

or_bad : (t : List ℕ) (b : Bool) (w : Token) → (b ≡ true → IsWordOf t w) → IsWordOf t (cond b w Token.bad)
or_bad t true w f = f refl
or_bad t false w f = tt

literal_word : (t name : List ℕ) (w : Token) → ((rest : List ℕ) → IsBare rest → IsBare (name ++ rest)) → (IsBare t → IsWordOf t w) → IsWordOf t (literal name w t)
literal_word t name w bare is =
    or_bad t (starts_with nat_eq t name && ends_word (drop (length name) t)) w
    (λ e.
    (let both = and_parts (starts_with nat_eq t name) (ends_word (drop (length name) t)) e in
    let front : name ≡ take (length name) t = (bytes_eq-Decides name (take (length name) t)).0 both.0 in
    let whole : name ++ drop (length name) t ≡ t = ap (λ l. l ++ drop (length name) t) front ∙ take-append-drop (length name) t in
    is (subst IsBare whole (bare (drop (length name) t) (bare_end (drop (length name) t) both.1)))))

number_word : (t : List ℕ) (o : Option (List ℕ)) → (IsBareBehind o → IsBare t) → IsWordOf t (number_before t o)
number_word t None f = tt
number_word t (Some rest) f = or_bad t (ends_word rest) _ (λ e. f (bare_end rest e))

pub word_of : (t : List ℕ) → IsWordOf t (word t)
unfolding word
word_of t =
    either_word t (head t == 116) _ _ (literal_word t (116 ∷ 114 ∷ 117 ∷ 101 ∷ []) (Token.boolean true) (λ r h. h) (λ h. h))
    (either_word t (head t == 102) _ _ (literal_word t (102 ∷ 97 ∷ 108 ∷ 115 ∷ 101 ∷ []) (Token.boolean false) (λ r h. h) (λ h. h))
    (either_word t (head t == 110) _ _ (literal_word t (110 ∷ 117 ∷ 108 ∷ 108 ∷ []) Token.null (λ r h. h) (λ h. h)) (number_word t (after_number t) (bare_after_number t))))
