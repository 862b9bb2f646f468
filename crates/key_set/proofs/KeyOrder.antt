-- Keys in the order of hashes and texts, each with its place.
use Rattle.std.proofs.Common.{◌≡◌, ◌≢◌, ◌⊎◌, ◌<◌, ◌+◌, ◌++◌, take, get_or, length-take, ◌∷◌, [], ℕ, List, Bor, Bool, true, cond, Option, None, Some, length, arith, refl, sym, bytes_eq}
use Rattle.std.proofs.lemmas.Cmp.{nat_list_eq_equiv, tied_itself, nat_cmp_total}
use Rattle.std.proofs.lemmas.Map.Text.{is_eq-slice_cmp}
use Rattle.std.specs.BTreeMap.{BTreeMap}
use Rattle.std.specs.List.{position}
use Rattle.std.specs.Option.{unwrap_or}
use Rattle.std.specs.Ordering.{is_eq}
use Rattle.key_set.specs.Fingerprints.{hash_of}
use Rattle.key_set.specs.IndexedKeys.{GivesPlace, HasPlaces, InsertsKey, key_cmp, with_key}
use Rattle.key_set.specs.References.{texts}
use Rattle.key_set.proofs.References.{length_texts, texts_more}
use Rattle.key_set.proofs.KeyPlaces.{first_or, place_more, place_where, same_key}

-- keys that compare equal are equal
key_same : (k q : Bor (List ℕ)) → is_eq (key_cmp (hash_of k.now, k) (hash_of q.now, q)) ≡ bytes_eq q.now k.now
key_same k q = grind (arith, same_key q.now k.now, tied_itself nat_cmp_total (hash_of k.now), is_eq-slice_cmp, nat_list_eq_equiv.symm)

-- the key has this place, or it is put last because it had none
put_last : (here there : Option ℕ) (n last : ℕ) (same : Bool) → (same ≡ true → there ≡ here) → n ≡ unwrap_or here last → cond same (Some n) there ≡ first_or there (cond same (Some last) None)
put_last here there n last same e is = grind arith

had_place : (here there : Option ℕ) (n last : ℕ) (same : Bool) → (same ≡ true → there ≡ here) → here ≡ Some n → first_or there (cond same (Some last) None) ≡ there
had_place here there n last same e is = grind arith

-- the map after a key was given its place, or the next one
module _ {old new : BTreeMap (ℕ × Bor (List ℕ)) ℕ} {k : Bor (List ℕ)} {hash n next : ℕ} (keys : List (List ℕ)) (has : HasPlaces old keys)
    (put : GivesPlace old hash k next n new) (hash_is : hash ≡ hash_of k.now) (last : next ≡ length keys) where
  same_place : (q : Bor (List ℕ)) → bytes_eq q.now k.now ≡ true → position (bytes_eq q.now) keys ≡ position (bytes_eq k.now) keys
  same_place q e = rw (same_key q.now k.now e) refl

  placed : n ≡ unwrap_or (position (bytes_eq k.now) keys) (length keys)
  placed = rw (hash_is, last, has k) at put.place_is

  places_pushed : HasPlaces new (keys ++ k.now ∷ [])
  places_pushed q =
      rw (put.gives (hash_of q.now, q), hash_is, key_same k q, has q, place_more keys k.now q.now)
      (put_last (position (bytes_eq k.now) keys) (position (bytes_eq q.now) keys) n (length keys) (bytes_eq q.now k.now) (same_place q) placed)

  places_with : (place : Option ℕ) → place ≡ position (bytes_eq k.now) keys → HasPlaces new (with_key keys k.now place)
  places_with None e q = places_pushed q
  places_with (Some m) e q =
      rw (places_pushed q, place_more keys k.now q.now)
      (had_place (position (bytes_eq k.now) keys) (position (bytes_eq q.now) keys) m (length keys) (bytes_eq q.now k.now) (same_place q) (sym e))

  -- what the place says
  pub ordered : (place : Option ℕ) (after : List (List ℕ)) → ((n ≡ next) × (place ≡ None)) ⊎ ((n ≢ next) × (place ≡ Some n)) → after ≡ with_key keys k.now place
      → InsertsKey keys k.now place after × HasPlaces new after
  ordered place after which e =
      let there : place ≡ position (bytes_eq k.now) keys = grind (arith, place_where keys k.now, placed) in
      ((there, e), rw e (places_with place there))

-- the next one of some references
pub places_next : {old new : BTreeMap (ℕ × Bor (List ℕ)) ℕ} {hash n : ℕ} (refs : List (Bor (List ℕ))) (i : ℕ) (d : Bor (List ℕ)) → i < length refs → HasPlaces old (texts (take i refs))
    → GivesPlace old hash (get_or refs i d) i n new → hash ≡ hash_of (get_or refs i d).now → HasPlaces new (texts (take (i + 1) refs))
places_next refs i d within has put hash_is =
    rw (texts_more refs i d within) (places_pushed (texts (take i refs)) has put hash_is (omega (arith, within, length_texts (take i refs), length-take i refs)))
