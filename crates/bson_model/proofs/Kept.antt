-- What pairs that are kept as keys beside values return, by the place of a key.
use Rattle.std.proofs.Common.{◌≡◌, ℕ, zero, suc, ◌+◌, ◌<◌, Bool, true, false, cond, not, ◌||◌, List, [], ◌∷◌, ◌++◌, length, map, Option, Some, None, slice_get, slice_set, slice_index_or, refl, ap, sym, ◌∙◌, arith}
use Rattle.std.proofs.Common.{ltb, is_some, IfSome, option_copied, Bor}
use Rattle.std.proofs.lemmas.Bool.Decides.{nat_tests}
use Rattle.std.proofs.lemmas.Option.{slice_get_past, slice_get-get_or}
use Rattle.std.specs.List.{zip, position, position_from, position_or_len, list_any, IsDistinct, AllByRecursion}
use Rattle.std.specs.Str.{bytes_eq}
use Rattle.std.proofs.lemmas.Iterator.Adapters.{position_from-zero}
use Rattle.bson_model.specs.Pairs.{value_at, with_pair}

abbrev pub test : {K : Type 0} → (K → List ℕ) → List ℕ → K → Bool
test f q k = bytes_eq q (f k)

abbrev pub pairs_by : {K T : Type 0} → (K → List ℕ) → List K → List T → List (List ℕ × T)
pairs_by f ks vs = zip (map f ks) vs

module _ {K T : Type 0} (f : K → List ℕ) (q : List ℕ) where
  abbrev pub Found : T → Option T → List (List ℕ × T) → List K → List T → ℕ → Type 0
  Found w o ps ks vs j = (o ≡ slice_get vs j) × (ps ≡ pairs_by f ks (slice_set vs j w)) × (j < length vs)

  pub found : (w : T) (ks : List K) (vs : List T) → length vs ≡ length ks → list_any (test f q) ks ≡ true
      → Found w (value_at q (pairs_by f ks vs)) (with_pair q w (pairs_by f ks vs)) ks vs (position_or_len (test f q) ks)
  found w [] vs e p = cc
  found w (k ∷ ks) [] e p = absurd (omega arith)
  found w (k ∷ ks) (v ∷ vs) e p =
      elim (test f q k) as (λ b. (b || list_any (test f q) ks) ≡ true
      → Found w (cond b (Some v) (value_at q (pairs_by f ks vs))) (cond b ((f k, w) ∷ pairs_by f ks vs) ((f k, v) ∷ with_pair q w (pairs_by f ks vs)))
      (k ∷ ks) (v ∷ vs) (cond (not b) (1 + position_or_len (test f q) ks) 0)) [
        | true ↦ λ h. (refl, refl, omega arith)
        | false ↦ λ h. let r = found w ks vs (omega arith) h in let next : 1 + position_or_len (test f q) ks ≡ suc (position_or_len (test f q) ks) =
            omega arith in rw next (r.0, ap (λ l. (f k, v) ∷ l) r.1, omega (arith, r.2))
      ] p

  pub lost : (w : T) (ks : List K) (vs : List T) → length vs ≡ length ks → list_any (test f q) ks ≡ false
      → (value_at q (pairs_by f ks vs) ≡ None) × ((k : K) → f k ≡ q → with_pair q w (pairs_by f ks vs) ≡ pairs_by f (ks ++ k ∷ []) (vs ++ w ∷ []))
  lost w [] [] e p = (refl, λ k h. ap (λ x. (x, w) ∷ []) (sym h))
  lost w [] (v ∷ vs) e p = absurd (omega arith)
  lost w (k ∷ ks) [] e p = absurd (omega arith)
  lost w (k ∷ ks) (v ∷ vs) e p =
      elim (test f q k) as (λ b. (b || list_any (test f q) ks) ≡ false
      → (cond b (Some v) (value_at q (pairs_by f ks vs)) ≡ None)
      × ((l : K) → f l ≡ q → cond b ((f k, w) ∷ pairs_by f ks vs) ((f k, v) ∷ with_pair q w (pairs_by f ks vs)) ≡ pairs_by f ((k ∷ ks) ++ l ∷ [])
      ((v ∷ vs) ++ w ∷ []))) [
        | true ↦ λ h. cc
        | false ↦ λ h. let r = lost w ks vs (omega arith) h in (r.0, λ l s. ap (λ x. (f k, v) ∷ x) (r.1 l s))
      ] p

pub pair_at : {K T : Type 0} (f : K → List ℕ) (i : ℕ) (k : K) (v : T) (ks : List K) (vs : List T) → slice_get ks i ≡ Some k → slice_get vs i ≡ Some v → slice_get (pairs_by f ks vs) i ≡ Some (f k, v)
pair_at f i k v [] vs e h = cc
pair_at f i k v (l ∷ ks) [] e h = cc
pair_at f zero k v (l ∷ ks) (w ∷ vs) e h = cc
pair_at f (suc i) k v (l ∷ ks) (w ∷ vs) e h = pair_at f i k v ks vs e h

pub no_pair_at : {K T : Type 0} (f : K → List ℕ) (i : ℕ) (ks : List K) (vs : List T) → slice_get ks i ≡ None → slice_get (pairs_by f ks vs) i ≡ None
no_pair_at f i [] vs e = refl
no_pair_at f i (l ∷ ks) [] e = refl
no_pair_at f zero (l ∷ ks) (w ∷ vs) e = cc
no_pair_at f (suc i) (l ∷ ks) (w ∷ vs) e = no_pair_at f i ks vs e

pub keys_of-pairs : {K T : Type 0} (f : K → List ℕ) (ks : List K) (vs : List T) → length vs ≡ length ks → map (λ p. p.0) (pairs_by f ks vs) ≡ map f ks
keys_of-pairs f [] vs e = refl
keys_of-pairs f (k ∷ ks) [] e = absurd (omega arith)
keys_of-pairs f (k ∷ ks) (v ∷ vs) e = ap (λ l. f k ∷ l) (keys_of-pairs f ks vs (omega arith))

distinct_all : {K : Type 0} (f : K → List ℕ) (k : K) (ks : List K) → AllByRecursion (λ l. bytes_eq (f k) (f l) ≡ false) ks → AllByRecursion (λ y. bytes_eq (f k) y ≡ false) (map f ks)
distinct_all f k [] h = tt
distinct_all f k (l ∷ ks) h = (h.0, distinct_all f k ks h.1)

pub distinct_map : {K : Type 0} (f : K → List ℕ) (ks : List K) → IsDistinct (λ k l. bytes_eq (f k) (f l)) ks → IsDistinct bytes_eq (map f ks)
unfolding IsDistinct
distinct_map f [] h = tt
distinct_map f (k ∷ ks) h = (distinct_all f k ks h.0, distinct_map f ks h.1)

-- what `get` of a slice ensures, as the element at the index
pub looked_up : {X : Type 0} (o : Option (Bor X)) (xs : List X) (i : ℕ) → (is_some o ≡ ltb i (length xs)) × IfSome o (λ x. x.now ≡ slice_index_or xs i x.now) → option_copied o ≡ slice_get xs i
looked_up None xs i h = sym (slice_get_past xs i (grind (arith, nat_tests)))
looked_up (Some x) xs i h = let within : i < length xs = grind (arith, nat_tests) in ap Some h.1 ∙ sym (slice_get-get_or xs i x.now within)

module _ {K T : Type 0} (f : K → List ℕ) (q : List ℕ) where
  seen_from : (n i : ℕ) (ks : List K) (vs : List T) → length vs ≡ length ks → position_from (test f q) n ks ≡ Some i → (j : ℕ) × ((i ≡ n + j) × (value_at q (pairs_by f ks vs) ≡ slice_get vs j))
  seen_from n i [] vs e p = cc
  seen_from n i (k ∷ ks) [] e p = absurd (omega arith)
  seen_from n i (k ∷ ks) (v ∷ vs) e p =
      elim (test f q k) as (λ b. cond b (Some n) (position_from (test f q) (n + 1) ks) ≡ Some i → (j : ℕ) × ((i ≡ n + j) × (cond b (Some v) (value_at q (pairs_by f ks vs)) ≡ slice_get (v ∷ vs) j))) [
        | true ↦ λ h. let at : n ≡ i = cc in (0, (omega arith, refl))
        | false ↦ λ h. let r = seen_from (n + 1) i ks vs (omega arith) h in (suc r.0, (omega (arith, r.1.0), r.1.1))
      ] p

  pub value_found : (i : ℕ) (ks : List K) (vs : List T) → length vs ≡ length ks → position (test f q) ks ≡ Some i → value_at q (pairs_by f ks vs) ≡ slice_get vs i
  value_found i ks vs e p =
      let r = seen_from 0 i ks vs e (sym (position_from-zero (test f q) ks) ∙ p) in
      let at : r.0 ≡ i = omega (arith, r.1.0) in
      rw (← at) r.1.1

  missed_from : (n : ℕ) (ks : List K) (vs : List T) → length vs ≡ length ks → position_from (test f q) n ks ≡ None → value_at q (pairs_by f ks vs) ≡ None
  missed_from n [] vs e p = refl
  missed_from n (k ∷ ks) [] e p = refl
  missed_from n (k ∷ ks) (v ∷ vs) e p =
      elim (test f q k) as (λ b. cond b (Some n) (position_from (test f q) (n + 1) ks) ≡ None → cond b (Some v) (value_at q (pairs_by f ks vs)) ≡ None) [
        | true ↦ λ h. cc
        | false ↦ λ h. missed_from (n + 1) ks vs (omega arith) h
      ] p

  pub value_missed : (ks : List K) (vs : List T) → length vs ≡ length ks → position (test f q) ks ≡ None → value_at q (pairs_by f ks vs) ≡ None
  value_missed ks vs e p = missed_from 0 ks vs e (sym (position_from-zero (test f q) ks) ∙ p)
