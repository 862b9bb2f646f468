-- The keys of a level, and canonical frames, with one more after them.
use Rattle.std.proofs.Common.{◌≡◌, ◌≢◌, ◌∙◌, ◌+◌, ◌++◌, ◌∷◌, [], ℕ, List, None, Some, length, decimal, arith, ap, refl, sym}
use Rattle.std.proofs.lemmas.Cmp.{nat_list_eq_equiv}
use Rattle.std.proofs.lemmas.Map.Keys.{IsDistinct-push}
use denote.Ref.{Bor}
use Rattle.std.specs.List.{IsDistinct}
use Rattle.raw_tree.proofs.Common.{AreFramesCanonical, Frame, IsValueCanonical, Means, RawValue, keys_of_frames, map-append, value, BreachesKeys, AreDecimalsFrom}
use Rattle.raw_tree.proofs.Common.{AreKeysCanonical, Sort, as_document, as_array, texts, Cause}
use Rattle.key_set.specs.KeySets.{AddsKey}
use Rattle.raw_tree.specs.validator.ValidationSteps.{AddsOpenKey, HasKeysSoFar}
use Rattle.key_set.specs.declared.key_set.KeySet.{KeySet}
use Rattle.raw_tree.specs.declared.validator.keys_so_far.KeysSoFar.{KeysSoFar}
use Rattle.key_set.proofs.Face.{distinct_apart, distinct_front, place_where}
use Rattle.raw_tree.specs.declared.validator.breach.Cause.TheVariants as cause
use Rattle.raw_tree.specs.declared.validator.keys_so_far.KeysSoFar.TheVariants as keys

-- decimals before others, and after others
decimals_cut : (n : ℕ) (xs ys : List (List ℕ)) → (AreDecimalsFrom n (xs ++ ys) → AreDecimalsFrom n xs × AreDecimalsFrom (n + length xs) ys)
    × (AreDecimalsFrom n xs × AreDecimalsFrom (n + length xs) ys → AreDecimalsFrom n (xs ++ ys))
decimals_cut n [] ys = grind arith
decimals_cut n (x ∷ xs) ys = grind (arith, decimals_cut (n + 1) xs ys)

-- the first of canonical keys are canonical
pub keys_front : (sort : Sort) (xs ys : List (List ℕ)) → AreKeysCanonical sort (xs ++ ys) → AreKeysCanonical sort xs
keys_front as_document xs ys h = distinct_front xs ys h
keys_front as_array xs ys h = ((decimals_cut 0 xs ys).0 h).0

-- a key that is canonical after these is no breach
pub key_nor_breach : (sort : Sort) (keys : List (List ℕ)) (key : List ℕ) (why : Cause) → AreKeysCanonical sort (keys ++ key ∷ []) → BreachesKeys sort keys key why → ⊥
key_nor_breach as_document keys key why h b = grind (arith, place_where keys key, distinct_apart keys key h)
key_nor_breach as_array keys key why h b = b.0 (((decimals_cut 0 keys (key ∷ [])).0 h).1.0 ∙ ap decimal (omega arith))

-- one more key
pub array_key : (keys : List (List ℕ)) (key : List ℕ) → AreDecimalsFrom 0 keys → key ≡ decimal (length keys) → AreDecimalsFrom 0 (keys ++ key ∷ [])
array_key keys key h e = (decimals_cut 0 keys (key ∷ [])).1 (h, (e ∙ ap decimal (omega arith), tt))

-- in an array, where the key is the decimal of its number, and where it isn't
pub numbers_more : (refs : List (Bor (List ℕ))) (number : ℕ) (key : List ℕ) → key ≡ decimal number → AddsOpenKey keys.Numbers refs number key keys.Numbers refs None
numbers_more refs number key e sort below own has canonical n = (has, rw has.0 (array_key own key (rw has.0 at canonical) (e ∙ ap decimal n)))

pub numbers_breach : (refs : List (Bor (List ℕ))) (number : ℕ) (key : List ℕ) → key ≢ decimal number → AddsOpenKey keys.Numbers refs number key keys.Numbers refs (Some cause.ArrayKey)
numbers_breach refs number key e sort below own has canonical n = rw has.0 ((λ same. e (same ∙ ap decimal (sym n))), refl)

-- in a document, where the key is new, and where it has a place
module _ (old new : KeySet) (refs after : List (Bor (List ℕ))) (number : ℕ) (key : List ℕ) where
  pub distinct_more : AddsKey old refs key new after None → AddsOpenKey (keys.Distinct old) refs number key (keys.Distinct new) after None
  distinct_more adds sort below own has canonical n =
      let told = adds below own has.1 in
      ((has.0, told.keys), rw has.0 (IsDistinct-push nat_list_eq_equiv own key (rw has.0 at canonical) (grind (arith, place_where own key, told.place_is))))

  pub distinct_breach : (place : ℕ) → AddsKey old refs key new after (Some place) → AddsOpenKey (keys.Distinct old) refs number key (keys.Distinct new) after (Some cause.RepeatedKey)
  distinct_breach place adds sort below own has canonical n = rw has.0 (grind (arith, place_where own key, (adds below own has.1).place_is), refl)

-- the keys of a level depend on the texts alone
pub keys_on : (k : KeysSoFar) (refs others : List (Bor (List ℕ))) (sort : Sort) (below own : List (List ℕ)) → HasKeysSoFar k refs sort below own
    → texts others ≡ texts refs → HasKeysSoFar k others sort below own
keys_on k refs others sort below own h e = grind arith

-- before any frame the keys are canonical
pub no_keys : (sort : Sort) → AreKeysCanonical sort []
unfolding IsDistinct
no_keys sort = grind arith

pub keys_more : (fs : List Frame) (f : Frame) → keys_of_frames (fs ++ f ∷ []) ≡ keys_of_frames fs ++ f.key ∷ []
keys_more fs f = map-append (λ (g : Frame). g.key) fs (f ∷ [])

pub frames_more : (N : Sort → List ℕ → Type 0) (fs : List Frame) (f : Frame) (v : RawValue) → AreFramesCanonical N fs → Means f (value v) → IsValueCanonical N v → AreFramesCanonical N (fs ++ f ∷ [])
frames_more N [] f v h m c = (v, m, c, tt)
frames_more N (g ∷ fs) f v h m c = (h.0, h.1, h.2, frames_more N fs f v h.3 m c)
