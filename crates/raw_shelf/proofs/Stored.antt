-- One more document on a shelf.
use Rattle.std.proofs.Common.{true≢false, Bool, true, false, Result, Ok, Err, not, if◌then◌else◌, refl, ◌≡◌, inl, inr, ◌++◌, ◌∷◌, [], ℕ, zero, suc, List, Some, slice_get, Vec, Global, ap, arith, sym, ◌∙◌}
use Rattle.std.proofs.lemmas.List.Elements.{Contains-append_right, Contains-push_cases}
use Rattle.std.proofs.lemmas.Option.{none-some, same_Some}
use Rattle.std.proofs.lemmas.Cmp.{nat_list_eq_equiv}
use Rattle.std.proofs.lemmas.List.{map-append}
use Rattle.std.proofs.lemmas.Map.Views.{Contains-from_any, list_any-from_Contains}
use Rattle.std.specs.Cmp.Lexicographic.{same_text}
use Rattle.std.specs.List.{Contains, list_any}
use Rattle.std.specs.Str.{bytes_eq}
use Rattle.raw_bson.specs.Canonical.{IsCanonical}
use Rattle.raw_bson.specs.CanonicalForm.{AllAreSpelledOneWay}
use Rattle.raw_bson.specs.Envelope.{IsEnvelope}
use Rattle.raw_bson.specs.Reading.{Reads, as_document}
use Rattle.raw_bson.specs.Tree.{Tree}
use Rattle.raw_shelf.specs.Shelves.{IsShelf, Stores, items}
use Rattle.raw_shelf.specs.declared.put_error.PutError.{PutError}

-- canonical documents of one tree have the same bytes
same_bytes : AllAreSpelledOneWay as_document → (d b : List ℕ) (t : Tree) → IsEnvelope d → IsCanonical d → IsEnvelope b → IsCanonical b → Reads d t → Reads b t → d ≡ b
same_bytes spelled d b t d_env d_canonical b_env b_canonical d_reads b_reads =
    sym (((spelled d d_env).unchanged t d_reads).1 d_canonical).1 ∙ (((spelled b b_env).unchanged t b_reads).1 b_canonical).1

-- nothing is in a list of no documents; the first is in a list, and so are the others
none_among : (x : List ℕ) → Contains [] x → ⊥
none_among x h = absurd (omega (arith, h.1))

among_first : (d b : List ℕ) (ds : List (List ℕ)) → d ≡ b → Contains (d ∷ ds) b
among_first d b ds e = (0, omega arith, e)

among_others : (d b : List ℕ) (ds : List (List ℕ)) → Contains ds b → Contains (d ∷ ds) b
among_others d b ds h = Contains-append_right (d ∷ []) ds b h

-- so a document that isn't on a shelf has another tree than each that is
pub shelf_more : AllAreSpelledOneWay as_document → (ds : List (List ℕ)) (b : List ℕ) → IsShelf ds → IsEnvelope b → IsCanonical b → ¬ Contains ds b → IsShelf (ds ++ b ∷ [])
shelf_more spelled [] b shelf env canonical new = (env, canonical, (λ t other among reads same. none_among other among), tt)
shelf_more spelled (d ∷ ds) b shelf env canonical new = (
  shelf.0,
  shelf.1,
  (λ t other among d_reads other_reads. elim (Contains-push_cases ds b other among) [
    | inl before ↦ shelf.2 t other before d_reads other_reads
    | inr is ↦ new (among_first d b ds (same_bytes spelled d b t shelf.0 shelf.1 env canonical d_reads (rw is other_reads)))
  ]),
  shelf_more spelled ds b shelf.3 env canonical (λ among. new (among_others d b ds among)),
)

-- each document of a shelf has an envelope
pub envelope_at : (ds : List (List ℕ)) (i : ℕ) (d : List ℕ) → IsShelf ds → Some d ≡ slice_get ds i → IsEnvelope d
envelope_at [] i d shelf e = absurd (none-some d (sym e))
envelope_at (x ∷ ds) zero d shelf e = rw (same_Some d x e) shelf.0
envelope_at (x ∷ ds) (suc i) d shelf e = envelope_at ds i d shelf.3 e

-- what is at a place of a set of vectors
pub stored_at : (keys : List (Vec ℕ Global)) (i : ℕ) (v : Vec ℕ Global) → Some v ≡ slice_get keys i → Some v.items ≡ slice_get (items keys) i
stored_at [] i v e = absurd (none-some v (sym e))
stored_at (x ∷ keys) zero v e = ap (λ (d : Vec ℕ Global). Some d.items) (same_Some v x e)
stored_at (x ∷ keys) (suc i) v e = stored_at keys i v e

-- bytes in a set of vectors
same_items : (x y : List ℕ) → bytes_eq x y ≡ true → x ≡ y
same_items x y e = same_text x y (sym e)

found_in : (keys : List (Vec ℕ Global)) (b : List ℕ) → list_any (λ d. bytes_eq b d.items) keys ≡ list_any (bytes_eq b) (items keys)
found_in [] b = refl
found_in (d ∷ keys) b = rw (found_in keys b) refl

not_there : (ds : List (List ℕ)) (b : List ℕ) → list_any (bytes_eq b) ds ≡ false → ¬ Contains ds b
not_there ds b e c = true≢false (sym (list_any-from_Contains nat_list_eq_equiv b ds c) ∙ e)

stored_where : (keys after : List (Vec ℕ Global)) (v : Vec ℕ Global) (there new : Bool) → list_any (λ d. bytes_eq v.items d.items) keys ≡ there
    → new ≡ not there → after ≡ (if there then keys else keys ++ v ∷ []) → Stores (items keys) v.items (Ok new) (items after)
stored_where keys after v true new e n a = rw (n, a) (Contains-from_any same_items v.items (items keys) (sym (found_in keys v.items) ∙ e), refl)
stored_where keys after v false new e n a = rw (n, a) (not_there (items keys) v.items (sym (found_in keys v.items) ∙ e), map-append (λ (d : Vec ℕ Global). d.items) keys (v ∷ []))

pub stored : (keys after : List (Vec ℕ Global)) (v : Vec ℕ Global) (new : Bool) → new ≡ not (list_any (λ d. bytes_eq v.items d.items) keys)
    → after ≡ (if list_any (λ d. bytes_eq v.items d.items) keys then keys else keys ++ v ∷ []) → Stores (items keys) v.items (Ok new) (items after)
stored keys after v new n a = stored_where keys after v (list_any (λ d. bytes_eq v.items d.items) keys) new refl n a

-- the list after a put is a shelf
pub shelf_after : AllAreSpelledOneWay as_document → (before : List (List ℕ)) (b : List ℕ) (answer : Result Bool PutError) (after : List (List ℕ))
    → IsShelf before → IsEnvelope b → IsCanonical b → Stores before b answer after → IsShelf after
shelf_after spelled before b (Ok true) after shelf env canonical s = rw (s.1) (shelf_more spelled before b shelf env canonical s.0)
shelf_after spelled before b (Ok false) after shelf env canonical s = rw (s.1) shelf
shelf_after spelled before b (Err e) after shelf env canonical s = rw (s.1) shelf
