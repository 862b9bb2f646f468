-- The keys of a document so far: while they ascend, in the list with their filter, and with an index.
use Rattle.std.proofs.Common.{Box, Global, None, Some, Option, ◌-◌, subst, suc, ◌<◌, ◌≡◌, ◌+◌, ◌++◌, ◌∷◌, [], ℕ, List, false, length, drop, take, arith, refl, append_assoc}
use Rattle.std.proofs.lemmas.Bool.{false_from_ne_true}
use Rattle.std.proofs.lemmas.Cmp.{nat_list_cmp_total, nat_list_eq_equiv, tied_itself}
use Rattle.std.proofs.Math.ListN.{get_or}
use Rattle.std.proofs.lemmas.List.{map-append, take-append-drop, take_rest}
use Rattle.std.proofs.lemmas.Map.Keys.{IsDistinct-push}
use Rattle.std.specs.List.{IsDistinct, list_any, position}
use Rattle.std.specs.Str.{bytes_eq}
use denote.Ref.{Bor}
use Rattle.key_set.specs.IndexedKeys.{InsertsKey, with_key}
use Rattle.key_set.specs.KeyFilter.{filter_bit, AreInFilter, IsInFilter}
use Rattle.key_set.specs.KeySets.{AddsKey, AreAscending, HasKeys, IsLaterKey, IsBehindLast, MovesKeys}
use Rattle.key_set.specs.References.{texts}
use Rattle.key_set.specs.declared.key_set.KeySet.{KeySet}
use Rattle.key_set.specs.declared.key_set.KeySet.TheVariants as keys
use Rattle.key_set.proofs.DistinctKeys.{distinct_apart, distinct_front}
use Rattle.key_set.proofs.KeyPlaces.{place_where, same_key}
use Rattle.key_set.proofs.References.{texts_behind, texts_front, texts_push, texts_more, each_more}

-- keys that ascend

behind_more : (a b c : List ℕ) → IsLaterKey a b → IsLaterKey b c → IsLaterKey a c
behind_more a b c x y = grind (arith, nat_list_cmp_total.trans)

behind_differs : (first key : List ℕ) → IsLaterKey first key → bytes_eq key first ≡ false
behind_differs first key b = false_from_ne_true (bytes_eq key first) (λ e. grind (arith, same_key key first e, tied_itself nat_list_cmp_total first))

-- a key after the last of keys that ascend is after the first
behind_first : (key first : List ℕ) (keys : List (List ℕ)) → AreAscending (first ∷ keys) → IsBehindLast (first ∷ keys) key → IsLaterKey first key
behind_first key first [] h b = b
behind_first key first (next ∷ keys) h b = behind_more first next key h.0 (behind_first key next keys h.1 b)

-- it is none of them
ascending_test : (keys : List (List ℕ)) (key : List ℕ) → AreAscending keys → IsBehindLast keys key → list_any (bytes_eq key) keys ≡ false
ascending_test [] key h b = refl
ascending_test (first ∷ []) key h b = rw (behind_differs first key b) refl
ascending_test (first ∷ next ∷ keys) key h b = rw (behind_differs first key (behind_first key first (next ∷ keys) h b)) (ascending_test (next ∷ keys) key h.1 b)

-- and they ascend with it
ascending_more : (keys : List (List ℕ)) (key : List ℕ) → AreAscending keys → IsBehindLast keys key → AreAscending (keys ++ key ∷ [])
ascending_more [] key h b = tt
ascending_more (first ∷ []) key h b = (b, tt)
ascending_more (first ∷ next ∷ keys) key h b = (h.0, ascending_more (next ∷ keys) key h.1 b)

-- the last of references
pub last_behind : (refs : List (Bor (List ℕ))) (last : Bor (List ℕ)) (key : List ℕ) → last ≡ get_or refs (length refs - 1) last → IsLaterKey last.now key → IsBehindLast (texts refs) key
last_behind [] last key e b = tt
last_behind (x ∷ []) last key e b = subst (λ (k : Bor (List ℕ)). IsLaterKey k.now key) e b
last_behind (x ∷ y ∷ refs) last key e b =
    let next : suc (suc (length refs)) - 1 ≡ suc (suc (length refs) - 1) = omega arith in
    last_behind (y ∷ refs) last key (rw next at e) b

-- distinct references that are inserted one after another are each put last
pub each_inserted : (refs : List (Bor (List ℕ))) (i : ℕ) (d : Bor (List ℕ)) (after : List (List ℕ)) (place : Option ℕ) → i < length refs
    → IsDistinct bytes_eq (texts refs) → InsertsKey (texts (take i refs)) (get_or refs i d).now place after → after ≡ texts (take (i + 1) refs)
each_inserted refs i d after place l distinct put =
    let cut = map-append (λ (k : Bor (List ℕ)). k.now) (take (i + 1) refs) (drop (i + 1) refs) in
    let front = distinct_front (texts (take (i + 1) refs)) (texts (drop (i + 1) refs)) (rw (← cut, take-append-drop (i + 1) refs) distinct) in
    let new = distinct_apart (texts (take i refs)) (get_or refs i d).now (rw (texts_more refs i d l) at front) in
    rw (texts_more refs i d l) (grind (arith, place_where (texts (take i refs)) (get_or refs i d).now, new, put))

-- one more key

-- keys stay distinct with one that has no place
distinct_with : (own : List (List ℕ)) (key : List ℕ) (place : Option ℕ) → place ≡ position (bytes_eq key) own → IsDistinct bytes_eq own → IsDistinct bytes_eq (with_key own key place)
distinct_with own key place e h = grind (arith, place_where own key, IsDistinct-push nat_list_eq_equiv own key h)

-- the keys of a level are in the list from this place on
abbrev pub own_in : ℕ → List (Bor (List ℕ)) → List (List ℕ)
own_in first refs = texts (take (length refs - first) (drop first refs))

pub own_texts : (refs : List (Bor (List ℕ))) (below own : List (List ℕ)) (first : ℕ) → first ≡ length below → texts refs ≡ below ++ own → own_in first refs ≡ own
own_texts refs below own first f e = rw (take_rest refs first) (texts_behind refs below own first f e)

listed_texts : (refs : List (Bor (List ℕ))) (below own : List (List ℕ)) (key : Bor (List ℕ)) → texts refs ≡ below ++ own → texts (refs ++ key ∷ []) ≡ below ++ (own ++ key.now ∷ [])
listed_texts refs below own key e = rw (texts_push refs key refl, e) (append_assoc below own (key.now ∷ []))

module _ (first : ℕ) (refs : List (Bor (List ℕ))) where
  -- keys that ascend have this filter
  pub ascending_listed : (filter : ℕ) → AreInFilter filter (own_in first refs) → (below own : List (List ℕ)) → HasKeys (keys.Ascending first) refs below own
      → HasKeys (keys.Listed first filter) refs below own
  ascending_listed filter filtered below own has = (has.0, has.1, has.2, rw (own_texts refs below own first has.1 has.2) at filtered)

  -- they still ascend with the key
  pub ascending_kept : (key : Bor (List ℕ)) → IsBehindLast (own_in first refs) key.now → AddsKey (keys.Ascending first) refs key.now (keys.Ascending first) (refs ++ key ∷ []) None
  ascending_kept key behind below own has =
      let last : IsBehindLast own key.now = rw (own_texts refs below own first has.1 has.2) at behind in
      let test = ascending_test own key.now has.3 last in
      record {
        place_is = grind (arith, place_where own key.now, test);
        keys = (IsDistinct-push nat_list_eq_equiv own key.now has.0 test, has.1, listed_texts refs below own key has.2, ascending_more own key.now has.3 last);
      }

  -- the key has a place among them
  pub listed_found : (filter : ℕ) (key : List ℕ) (place : ℕ) → Some place ≡ position (bytes_eq key) (own_in first refs)
      → AddsKey (keys.Listed first filter) refs key (keys.Listed first filter) refs (Some place)
  listed_found filter key place is below own has = record { place_is = rw (own_texts refs below own first has.1 has.2) at is; keys = has }

  -- the key has no place, and is put after them
  pub listed_more : (filter after : ℕ) (key : Bor (List ℕ)) → None ≡ position (bytes_eq key.now) (own_in first refs)
      → ((n : ℕ) → IsInFilter filter n → IsInFilter after n) → IsInFilter after (filter_bit key.now)
      → AddsKey (keys.Listed first filter) refs key.now (keys.Listed first after) (refs ++ key ∷ []) None
  listed_more filter after key new kept here below own has =
      let none : None ≡ position (bytes_eq key.now) own = rw (own_texts refs below own first has.1 has.2) at new in
      let filtered = each_more (λ k. IsInFilter filter (filter_bit k)) (λ k. IsInFilter after (filter_bit k)) own key.now has.3 (λ k. kept (filter_bit k)) here in
      record { place_is = none; keys = (distinct_with own key.now None none has.0, has.1, listed_texts refs below own key has.2, filtered) }

  -- they have moved to an index, where the key was inserted
  pub listed_moved : (key : List ℕ) (set : Box (List (List ℕ)) Global) (place : Option ℕ) → InsertsKey (own_in first refs) key place set.value
      → MovesKeys first refs key (keys.Indexed set) (take first refs) place
  listed_moved key set place put below own has =
      let here : InsertsKey own key place set.value = rw (own_texts refs below own first has.1 has.2) at put in
      record { place_is = here.0; keys = (distinct_with own key place here.0 has.0, texts_front refs below own first has.1 has.2, here.1) }

-- with an index, where the key was inserted
pub indexed_more : (old new : Box (List (List ℕ)) Global) (refs : List (Bor (List ℕ))) (key : List ℕ) (place : Option ℕ) → InsertsKey old.value key place new.value
    → AddsKey (keys.Indexed old) refs key (keys.Indexed new) refs place
indexed_more old new refs key place put below own has =
    let here : InsertsKey own key place new.value = rw has.2 at put in
    record { place_is = here.0; keys = (distinct_with own key place here.0 has.0, has.1, here.1) }

-- no two keys are equal
pub keys_distinct : (set : KeySet) (refs : List (Bor (List ℕ))) (below own : List (List ℕ)) → HasKeys set refs below own → IsDistinct bytes_eq own
keys_distinct set refs below own has = grind arith
