-- Texts that are in a JSON string as they are.
use Rattle.std.proofs.Common.{◌≡◌, ◌<◌, ◌≤◌, ◌&&◌, ◌||◌, ◌==◌, nat_lt, not, ℕ, zero, suc, Bool, true, false, List, [], ◌∷◌, ◌++◌, length, get_or, replicate, refl, ap, ◌∙◌, arith}
use Rattle.std.proofs.lemmas.Bool.{and_from, and_parts, eqb-false, le-ltb, ltb-false, ne_eqb}
use Rattle.std.proofs.lemmas.Str.Parse.{digit_from_value}
use Rattle.std.specs.Fmt.{sign_text}
use Rattle.std.specs.Str.Parse.{AllDigits}
use Rattle.json.specs.Print.{escape}
use Rattle.json.specs.Run.{is_plain}
use Rattle.json.proofs.Printed.Strings.{escape_byte_plain}

-- no quote, no backslash, no control character
abbrev pub are_plain : List ℕ → Bool
are_plain [] = true
are_plain (x ∷ xs) = is_plain x && are_plain xs

none_of : (a b c : Bool) → not (a || b || c) ≡ true → (a ≡ false) × (b ≡ false) × (c ≡ false)
none_of true b c h = cc
none_of false true c h = cc
none_of false false true h = cc
none_of false false false h = (refl, refl, refl)

pub escape_plain : (xs : List ℕ) → are_plain xs ≡ true → escape xs ≡ xs
escape_plain [] h = refl
escape_plain (x ∷ xs) h =
    let both = and_parts _ _ h in
    let none = none_of (x == 34) (x == 92) (nat_lt x 32) both.0 in
    let one = escape_byte_plain x (eqb-false x 34 none.0) (eqb-false x 92 none.1) (ltb-false x 32 none.2) in
    ap (λ (l : List ℕ). l ++ escape xs) one ∙ ap (λ (l : List ℕ). x ∷ l) (escape_plain xs both.1)

pub plain_both : (xs ys : List ℕ) → are_plain xs ≡ true → are_plain ys ≡ true → are_plain (xs ++ ys) ≡ true
plain_both [] ys p q = q
plain_both (x ∷ xs) ys p q = let both = and_parts _ _ p in and_from _ _ both.0 (plain_both xs ys both.1 q)

digit_plain : (d : ℕ) → 48 ≤ d → d ≤ 57 → is_plain d ≡ true
digit_plain d low high = rw (ne_eqb d 34 (λ e. omega arith), ne_eqb d 92 (λ e. omega arith), le-ltb d 32 (omega arith)) refl

pub plain_digits : (ds : List ℕ) → AllDigits 10 ds → are_plain ds ≡ true
plain_digits [] h = refl
plain_digits (d ∷ ds) h = let r = digit_from_value d h.0 in and_from _ _ (digit_plain d r.0 r.1) (plain_digits ds h.1)

pub plain_at : (xs : List ℕ) (i : ℕ) → are_plain xs ≡ true → i < length xs → is_plain (get_or xs i 0) ≡ true
plain_at [] i h lt = absurd (omega arith)
plain_at (x ∷ xs) zero h lt = (and_parts _ _ h).0
plain_at (x ∷ xs) (suc i) h lt = plain_at xs i (and_parts _ _ h).1 (omega arith)

pub plain_repeated : (x n : ℕ) → is_plain x ≡ true → are_plain (replicate n x) ≡ true
plain_repeated x zero h = refl
plain_repeated x (suc n) h = and_from _ _ h (plain_repeated x n h)

pub sign_plain : (negative : Bool) → are_plain (sign_text negative) ≡ true
sign_plain true = refl
sign_plain false = refl
