-- Digits and words have no white space around them.
use Rattle.std.proofs.Common.{◌≡◌, ◌≤◌, ◌&&◌, ◌==◌, nat_lt, not, cond, ℕ, Bool, true, false, List, [], ◌∷◌, ◌++◌, reverse, refl, sym, ap, ◌∙◌, arith}
use Rattle.std.proofs.lemmas.Bool.{and_from, and_parts, false≢true, le-ltb, ne_eqb}
use Rattle.std.proofs.lemmas.List.{reverse-append, reverse-reverse}
use Rattle.std.proofs.lemmas.Str.Parse.{digit_from_value}
use Rattle.std.specs.Str.Parse.{AllDigits}
use Rattle.values_from_json.specs.Spaces.{is_space, trimmed, trimmed_start}
use Rattle.values_from_json.proofs.Face.{are_dense, dense_both}

and_no : (a : Bool) → (a && false) ≡ false
and_no true = refl
and_no false = refl

pub no_space : (d : ℕ) → 33 ≤ d → is_space d ≡ false
no_space d h = rw (ne_eqb d 32 (λ e. omega (arith, h, e)), le-ltb d 14 (omega (arith, h))) (and_no (nat_lt 8 d))

pub digits_dense : (ds : List ℕ) → AllDigits 10 ds → are_dense ds ≡ true
digits_dense [] h = refl
digits_dense (d ∷ ds) h =
    let r = digit_from_value d h.0 in
    and_from _ _ (ap not (no_space d (omega (arith, r.0)))) (digits_dense ds h.1)

started : (is : Bool) (x y : List ℕ) → not is ≡ true → cond is x y ≡ y
started true x y h = absurd (false≢true h)
started false x y h = refl

pub dense_start : (s : List ℕ) → are_dense s ≡ true → trimmed_start s ≡ s
dense_start [] h = refl
dense_start (b ∷ bs) h = started (is_space b) (trimmed_start bs) (b ∷ bs) (and_parts _ _ h).0

dense_reversed : (s : List ℕ) → are_dense s ≡ true → are_dense (reverse s) ≡ true
dense_reversed [] h = refl
dense_reversed (b ∷ bs) h =
    let both = and_parts _ _ h in
    ap are_dense (reverse-append (b ∷ []) bs) ∙ dense_both (reverse bs) (b ∷ []) (dense_reversed bs both.1) (and_from _ _ both.0 refl)

-- a text without white space is trimmed
pub dense_trimmed : (s : List ℕ) → are_dense s ≡ true → trimmed s ≡ s
dense_trimmed s h =
    ap (λ (l : List ℕ). reverse (trimmed_start (reverse l))) (dense_start s h)
    ∙ ap reverse (dense_start (reverse s) (dense_reversed s h)) ∙ reverse-reverse s
