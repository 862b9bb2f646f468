-- The place of a key among others.
use Rattle.std.proofs.Common.{not, ◌≡◌, ◌⊎◌, ◌++◌, inr, ◌<◌, ◌∷◌, [], ℕ, suc, List, Bool, true, false, cond, Bor, Option, None, Some, option_map, length, arith, refl, sym, bytes_eq}
use Rattle.std.proofs.lemmas.Bool.Decides.{nat_tests}
use Rattle.std.proofs.lemmas.Cmp.{nat_list_eq_equiv}
use Rattle.std.proofs.lemmas.List.{length-append}
use Rattle.std.proofs.lemmas.List.Folds.{position_or_len_push}
use Rattle.std.proofs.lemmas.List.Sums.{prefix_len-le-length}
use Rattle.std.proofs.lemmas.Map.Views.{Contains-from_any, list_any-from_Contains}
use Rattle.std.specs.Cmp.Lexicographic.{same_text}
use Rattle.std.specs.List.{Contains, list_any, position}
use Rattle.key_set.specs.References.{texts}

-- the same, by recursion
abbrev pub first_at : {X : Type 0} → (X → Bool) → List X → Option ℕ
first_at p [] = None
first_at p (x ∷ xs) = cond (p x) (Some 0) (option_map (λ n. suc n) (first_at p xs))

pub position_is : {X : Type 0} (p : X → Bool) (xs : List X) → position p xs ≡ first_at p xs
position_is p [] = refl
position_is p (x ∷ xs) = grind (arith, position_is p xs)

-- among references
pub text_place : (key : List ℕ) (refs : List (Bor (List ℕ))) → position (λ (k : Bor (List ℕ)). bytes_eq key k.now) refs ≡ position (bytes_eq key) (texts refs)
text_place key [] = refl
text_place key (k ∷ refs) = grind (arith, text_place key refs)

pub same_key : (x y : List ℕ) → bytes_eq x y ≡ true → x ≡ y
same_key x y e = same_text x y (sym e)

-- some element passes and has a first place, or none does
first_where : {X : Type 0} (p : X → Bool) (xs : List X) → ((n : ℕ) × (first_at p xs ≡ Some n) × (n < length xs) × (list_any p xs ≡ true)) ⊎ ((first_at p xs ≡ None) × (list_any p xs ≡ false))
first_where p [] = inr (refl, refl)
first_where p (x ∷ xs) = grind (arith, first_where p xs)

-- a key has a place among others, a test finds it and it is one of them; or none of this holds
pub place_where : (keys : List (List ℕ)) (key : List ℕ)
    → ((n : ℕ) × (position (bytes_eq key) keys ≡ Some n) × (n < length keys) × (list_any (bytes_eq key) keys ≡ true) × Contains keys key)
    ⊎ ((position (bytes_eq key) keys ≡ None) × (list_any (bytes_eq key) keys ≡ false) × ¬ Contains keys key)
place_where keys key =
    grind (arith, position_is (bytes_eq key) keys, first_where (bytes_eq key) keys, Contains-from_any same_key key keys, list_any-from_Contains nat_list_eq_equiv key keys)

-- with one more key
abbrev pub first_or : Option ℕ → Option ℕ → Option ℕ
first_or (Some n) m = Some n
first_or None m = m

pub place_more : (keys : List (List ℕ)) (k q : List ℕ)
    → position (bytes_eq q) (keys ++ k ∷ []) ≡ first_or (position (bytes_eq q) keys) (cond (bytes_eq q k) (Some (length keys)) None)
place_more keys k q = grind (arith, nat_tests, position_or_len_push (bytes_eq q) keys k, length-append keys (k ∷ []), prefix_len-le-length (λ (x : List ℕ). not (bytes_eq q x)) keys)
