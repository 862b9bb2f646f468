-- How the well-formed trees of a list and of a document are made of those of their members.
use Rattle.std.proofs.Common.{◌≡◌, ℕ, zero, suc, ◌+◌, ◌<◌, List, [], ◌∷◌, map, length, take, Some, None, slice_get, All, refl, ap, add-one, arith}
use Rattle.std.specs.Str.{IsUtf8}
use Rattle.bson_model.specs.Pairs.{keys_of, HasDistinctKeys}
use Rattle.bson_model.specs.Proper.{keys_in, InTrees, InEntries, well_formed_parts, IsWellFormed}
use Rattle.bson_model.specs.Tree.{Tree, trees, entries, tree_of, pairs_of, with_trees, tree_of_document}
use Rattle.bson_model.specs.declared.bson.Bson.{Bson}
use Rattle.bson_model.specs.declared.bson.Document.{Document}

-- the trees of a list are well formed
abbrev pub AreWellFormed : List Bson → Type 0
AreWellFormed vs = InTrees well_formed_parts (trees (map tree_of vs))

-- the keys of pairs are texts, and their trees well formed
abbrev pub ArePairsWellFormed : List (List ℕ × Bson) → Type 0
ArePairsWellFormed ps = InEntries well_formed_parts (entries (with_trees ps))

pub keys_in-entries : (es : List (List ℕ × Tree)) → keys_in (entries es) ≡ keys_of es
keys_in-entries [] = refl
keys_in-entries (e ∷ es) = ap (λ ks. e.0 ∷ ks) (keys_in-entries es)

pub keys_of-with_trees : (ps : List (List ℕ × Bson)) → keys_of (with_trees ps) ≡ keys_of ps
keys_of-with_trees [] = refl
keys_of-with_trees (p ∷ ps) = ap (λ ks. p.0 ∷ ks) (keys_of-with_trees ps)

-- one more member
pub AreWellFormed-more : (vs : List Bson) (i : ℕ) (v : Bson) → slice_get vs i ≡ Some v → AreWellFormed (take i vs) → IsWellFormed (tree_of v) → AreWellFormed (take (i + 1) vs)
AreWellFormed-more [] i v e h w = cc
AreWellFormed-more (u ∷ vs) zero v e h w = let at : ◌≡◌ {A = Bson} v u = cc in (rw at at w, tt)
AreWellFormed-more (u ∷ vs) (suc i) v e h w = rw add-one (h.0, rw add-one at (AreWellFormed-more vs i v e h.1 w))

-- one more pair
pub ArePairsWellFormed-more : (ps : List (List ℕ × Bson)) (i : ℕ) (k : List ℕ) (v : Bson) → slice_get ps i ≡ Some (k, v) → ArePairsWellFormed (take i ps)
    → IsUtf8 k → IsWellFormed (tree_of v) → ArePairsWellFormed (take (i + 1) ps)
ArePairsWellFormed-more [] i k v e h u w = cc
ArePairsWellFormed-more (p ∷ ps) zero k v e h u w =
    let at : ◌≡◌ {A = List ℕ × Bson} (k, v) p = cc in
    let key = ap (λ q. q.0) at in let value = ap (λ q. q.1) at in
    (rw key at u, rw value at w, tt)
ArePairsWellFormed-more (p ∷ ps) (suc i) k v e h u w = rw add-one (h.0, h.1, rw add-one at (ArePairsWellFormed-more ps i k v e h.2 u w))

-- a document whose keys are distinct and whose pairs are well formed
pub IsWellFormed-document : (d : Document) → HasDistinctKeys (pairs_of d) → ArePairsWellFormed (pairs_of d) → IsWellFormed (tree_of_document d)
IsWellFormed-document d distinct pairs =
    (rw (keys_in-entries (with_trees (pairs_of d)), keys_of-with_trees (pairs_of d)) distinct, pairs)

-- the key of a pair, among keys that are texts
pub text_at : (ps : List (List ℕ × Bson)) → All IsUtf8 (keys_of ps) → (i : ℕ) (k : List ℕ) (v : Bson) → slice_get ps i ≡ Some (k, v) → IsUtf8 k
text_at [] h i k v e = cc
text_at (p ∷ ps) h zero k v e =
    let at : ◌≡◌ {A = List ℕ × Bson} p (k, v) = cc in
    rw (ap (λ q. q.0) at) at (h 0 [] (omega arith))
text_at (p ∷ ps) h (suc i) k v e = text_at ps (λ j d lt. h (suc j) d (omega arith)) i k v e

-- there is a pair at each place
pub not_past : {X : Type 0} (xs : List X) (i : ℕ) → i < length xs → slice_get xs i ≡ None → ⊥
not_past [] i h e = absurd (omega arith)
not_past (x ∷ xs) zero h e = cc
not_past (x ∷ xs) (suc i) h e = not_past xs i (omega arith) e
