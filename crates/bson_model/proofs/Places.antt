-- The place of a text among others, none of which occurs twice.
use Rattle.std.proofs.Common.{◌≡◌, ℕ, suc, ◌+◌, ◌<◌, ◌≤◌, Bool, true, false, not, cond, ◌||◌, ltb, is_some, List, [], ◌∷◌, ◌++◌, length, Option, Some, None, Result, Ok, Err, OnErr, position, slice_index_or, String, Global, refl, sym, ◌∙◌, arith}
use Rattle.std.proofs.lemmas.Bool.Decides.{nat_tests}
use Rattle.std.proofs.lemmas.List.Sums.{position_or_len_is}
use Rattle.std.specs.List.{position_or_len, list_any, IsDistinct, AllByRecursion}
use Rattle.std.specs.String.{string_bytes}
use Rattle.bson_model.specs.Keys.{has_bytes, is_among, AreDistinct}
use Rattle.bson_model.proofs.Keep.{flipped, distinct_last}

pub none_distinct : (texts : List (String Global)) → texts ≡ [] → AreDistinct texts
unfolding IsDistinct
none_distinct [] e = tt
none_distinct (text ∷ texts) e = cc

module _ {X : Type 0} (p : X → Bool) where
  -- a place among the elements is that of one that passes
  any_before : (xs : List X) → list_any p xs ≡ ltb (position_or_len p xs) (length xs)
  any_before [] = refl
  any_before (x ∷ xs) =
      elim (p x) as (λ b. (b || list_any p xs) ≡ ltb (cond (not b) (1 + position_or_len p xs) 0) (suc (length xs))) [
        | true ↦ grind (arith, nat_tests)
        | false ↦ any_before xs ∙ grind (arith, nat_tests)
      ]

  up_to : (xs : List X) → position_or_len p xs ≤ length xs
  up_to [] = omega arith
  up_to (x ∷ xs) =
      elim (p x) as (λ b. cond (not b) (1 + position_or_len p xs) 0 ≤ suc (length xs)) [
        | true ↦ omega arith
        | false ↦ omega (arith, up_to xs)
      ]

  -- the first place of one that passes, if it is a place
  abbrev place : List X → Bool → Option ℕ
  place xs b = cond b (Some (position_or_len p xs)) None

  -- what a look-up says if it finds a place, and if it finds none
  pub met : (xs : List X) (i : ℕ) → position p xs ≡ Some i → (list_any p xs ≡ true) × (position_or_len p xs ≡ i)
  met xs i e =
      elim (ltb (position_or_len p xs) (length xs)) as (λ b. ltb (position_or_len p xs) (length xs) ≡ b → place xs b ≡ Some i → (list_any p xs ≡ true) × (position_or_len p xs ≡ i)) [
        | true ↦ λ h n. (any_before xs ∙ h, cc)
        | false ↦ λ h n. cc
      ] refl e

  pub missed : (xs : List X) → position p xs ≡ None → (list_any p xs ≡ false) × (position_or_len p xs ≡ length xs)
  missed xs e =
      elim (ltb (position_or_len p xs) (length xs)) as (λ b. ltb (position_or_len p xs) (length xs) ≡ b → place xs b ≡ None → (list_any p xs ≡ false) × (position_or_len p xs ≡ length xs)) [
        | true ↦ λ h n. cc
        | false ↦ λ h n. (any_before xs ∙ h, let within = up_to xs in grind (arith, nat_tests))
      ] refl e

  pub somewhere : (xs : List X) → is_some (position p xs) ≡ list_any p xs
  somewhere xs =
      elim (ltb (position_or_len p xs) (length xs)) as (λ b. ltb (position_or_len p xs) (length xs) ≡ b → is_some (place xs b) ≡ list_any p xs) [
        | true ↦ λ h. sym (any_before xs ∙ h)
        | false ↦ λ h. sym (any_before xs ∙ h)
      ] refl

  -- none of the first elements passes
  abbrev pub NoneBefore : List X → ℕ → Type 0
  NoneBefore xs i = (k : ℕ) → k < i → (d : X) → p (slice_index_or xs k d) ≡ false

  pub first_at : (xs : List X) (i : ℕ) (d : X) → i < length xs → NoneBefore xs i → p (slice_index_or xs i d) ≡ true → position p xs ≡ Some i
  first_at xs i d within none at =
      let first : position_or_len p xs ≡ i = position_or_len_is p xs i d (omega (arith, within)) (λ k h. none k h d) (λ h. at) in
      let found : ltb i (length xs) ≡ true = grind (arith, nat_tests) in
      rw (first, found) refl

  pub nowhere : (xs : List X) (i : ℕ) → length xs ≤ i → NoneBefore xs i → position p xs ≡ None
  nowhere [] i h none = refl
  nowhere (x ∷ xs) i h none =
      let end = length (x ∷ xs) in
      let last : position_or_len p (x ∷ xs) ≡ end = position_or_len_is p (x ∷ xs) end x (omega arith) (λ k b. none k (omega (arith, b, h)) x) (λ b. absurd (omega (arith, b))) in
      let past : ltb end end ≡ false = grind (arith, nat_tests) in
      rw (last, past) refl

-- a text is not among those before it
pub new_behind : (held : List (String Global)) (text : String Global) (rest : List (String Global)) → AreDistinct (held ++ text ∷ rest) → is_among (string_bytes text) held ≡ false
unfolding IsDistinct
new_behind [] text rest h = refl
new_behind (first ∷ held) text rest h = rw (flipped (string_bytes first) (string_bytes text) (unlike held h.0)) (new_behind held text rest h.1)
  where
    unlike : (texts : List (String Global)) → AllByRecursion (λ l. has_bytes (string_bytes first) l ≡ false) (texts ++ text ∷ rest) → has_bytes (string_bytes first) text ≡ false
    unlike [] a = a.0
    unlike (t ∷ texts) a = unlike texts a.1

pub still_distinct : (text : String Global) (held : List (String Global)) → AreDistinct held → is_among (string_bytes text) held ≡ false → AreDistinct (held ++ text ∷ [])
still_distinct text held h new = distinct_last string_bytes text held h new

-- what holds whatever a call returned
pub whatever : {T E P : Type 0} (r : Result T E) → P → OnErr r P
whatever (Ok x) h = tt
whatever (Err e) h = h
