-- Pairs made of keys and of values beside them, inserted one after another.
use Rattle.std.proofs.Common.{◌≡◌, ℕ, zero, suc, ◌+◌, ◌<◌, ◌≤◌, List, [], ◌∷◌, ◌++◌, length, map, fold, take, drop, false, Some, slice_get, slice_index_or, refl, ap, sym, ◌∙◌, add-one, arith, Bor, String, Global}
use Rattle.std.specs.List.{zip, list_any}
use Rattle.std.specs.String.{string_bytes}
use Rattle.std.proofs.lemmas.List.{length-append, length-map, length-take, take_all}
use Rattle.std.proofs.lemmas.Option.{slice_get-get_or}
use Rattle.std.proofs.lemmas.Slice.Zip.{length-zip}
use Rattle.bson_model.specs.Pairs.{with_pair, keep}
use Rattle.bson_model.specs.Tree.{Tree, tree_of, with_trees}
use Rattle.bson_model.specs.declared.bson.Bson.{Bson}
use Rattle.bson_model.proofs.Keep.{fold-keep, keep-last}
use Rattle.bson_model.proofs.Kept.{test, pairs_by, pair_at, lost}
use Rattle.bson_model.proofs.Steps.{take-more}
use Rattle.bson_model.proofs.Trees.{with_trees-with_pair}

-- what is at a place of a list
there : {T : Type 0} (i : ℕ) (vs : List T) → i < length vs → (v : T) × (slice_get vs i ≡ Some v)
there i [] h = absurd (omega arith)
there zero (v ∷ vs) h = (v, refl)
there (suc i) (v ∷ vs) h = there i vs (omega arith)

-- the element at a place, and what follows it
pub behind : {T : Type 0} (i : ℕ) (vs rest : List T) (v : T) → drop i vs ≡ v ∷ rest → (slice_get vs i ≡ Some v) × (drop (i + 1) vs ≡ rest)
behind zero [] rest v e = absurd (omega (arith, ap length e))
behind zero (x ∷ vs) rest v e = let same : x ≡ v = cc in let others : vs ≡ rest = cc in (ap (λ y. Some y) same, others)
behind (suc i) [] rest v e = absurd (omega (arith, ap length e))
behind (suc i) (x ∷ vs) rest v e =
    let r = behind i vs rest v e in
    (r.0, rw add-one (rw add-one at r.1))

module _ {T : Type 0} (ks : List (Bor (List ℕ))) (vs : List T) where
  abbrev pub columns : List (List ℕ × T)
  columns = zip (map (λ key. key.now) ks) vs

  -- at the end of the keys all pairs were taken
  pub keys_end : (i : ℕ) → length ks ≤ i → take i columns ≡ columns
  keys_end i h = take_all i columns (rw (length-zip, length-map) (omega arith))

  pub values_end : (i : ℕ) → length vs ≤ i → take i columns ≡ columns
  values_end i h = take_all i columns (rw (length-zip, length-map) (omega arith))

  -- what is kept of one pair more
  pub kept_more : (i : ℕ) (d : Bor (List ℕ)) (text : List ℕ) (v : T) → i < length ks → text ≡ (slice_index_or ks i d).now → slice_get vs i ≡ Some v
      → keep (take (i + 1) columns) ≡ with_pair text v (keep (take i columns))
  kept_more i d text v within e at =
      let key : Bor (List ℕ) = slice_index_or ks i d in
      let pair = pair_at (λ (k : Bor (List ℕ)). k.now) i key v ks vs (slice_get-get_or ks i d within) at in
      ap keep (take-more columns i (key.now, v) pair) ∙ keep-last (take i columns) key.now v ∙ ap (λ k. with_pair k v (keep (take i columns))) (sym e)

  -- the texts are the first keys and none occurs twice, so the first values are beside them
  abbrev pub IsSoFar : List (String Global) → ℕ → Type 0
  IsSoFar set i = (length set ≡ i) × (pairs_by string_bytes set (take i vs) ≡ keep (take i columns))

  pub set_more : {new : List (String Global)} (set : List (String Global)) (i : ℕ) (d : Bor (List ℕ)) (text : String Global) → i < length ks → length vs ≡ length ks
      → string_bytes text ≡ (slice_index_or ks i d).now → list_any (test string_bytes (string_bytes text)) set ≡ false → new ≡ set ++ text ∷ [] → IsSoFar set i
      → IsSoFar new (i + 1)
  set_more {new = new} set i d text within same e none more h =
      let v = there i vs (omega (arith, within, same)) in
      let long : length (take i vs) ≡ length set = omega (arith, length-take i vs, within, same, h.0) in
      let put = (lost string_bytes (string_bytes text) v.0 set (take i vs) long none).1 text refl in (
        rw more (omega (arith, h.0, length-append set (text ∷ []))),
        rw (more, take-more vs i v.0 v.1, kept_more i d (string_bytes text) v.0 within e v.1) (sym put ∙ ap (λ ps. with_pair (string_bytes text) v.0 ps) h.1),
      )

  pub set_whole : (set : List (String Global)) (i : ℕ) → length vs ≡ length ks → length ks ≤ i → IsSoFar set i → pairs_by string_bytes set vs ≡ keep columns
  set_whole set i same all h =
      ap (λ x. pairs_by string_bytes set x) (sym (take_all i vs (omega (arith, same, all)))) ∙ h.1 ∙ ap keep (keys_end i all)

-- the trees of what is kept
with_trees-fold : (qs ps : List (List ℕ × Bson)) → with_trees (fold (λ (rs : List (List ℕ × Bson)) p. with_pair p.0 p.1 rs) qs ps) ≡ fold
    (λ (rs : List (List ℕ × Tree)) p. with_pair p.0 p.1 rs) (with_trees qs) (with_trees ps)
with_trees-fold qs [] = refl
with_trees-fold qs (p ∷ ps) =
    with_trees-fold (with_pair p.0 p.1 qs) ps ∙ ap (λ q. fold (λ (rs : List (List ℕ × Tree)) p. with_pair p.0 p.1 rs) q (with_trees ps)) (with_trees-with_pair p.0 p.1 qs)

with_trees-keep : (ps : List (List ℕ × Bson)) → with_trees (keep ps) ≡ keep (with_trees ps)
with_trees-keep ps = ap with_trees (sym (fold-keep ps)) ∙ with_trees-fold [] ps ∙ fold-keep (with_trees ps)

with_trees-zip : (ks : List (List ℕ)) (vs : List Bson) → with_trees (zip ks vs) ≡ zip ks (map tree_of vs)
with_trees-zip [] vs = refl
with_trees-zip (k ∷ ks) [] = refl
with_trees-zip (k ∷ ks) (v ∷ vs) = ap (λ ps. (k, tree_of v) ∷ ps) (with_trees-zip ks vs)

pub trees_kept : (ks : List (Bor (List ℕ))) (vs : List Bson) (ps : List (List ℕ × Bson)) → ps ≡ keep (columns ks vs) → with_trees ps ≡ keep (columns ks (map tree_of vs))
trees_kept ks vs ps e = ap with_trees e ∙ with_trees-keep (columns ks vs) ∙ ap keep (with_trees-zip (map (λ key. key.now) ks) vs)
