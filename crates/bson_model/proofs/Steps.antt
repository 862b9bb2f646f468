-- Lists of trees as data and as lists, and one more member or pair of a walk.
use Rattle.std.proofs.Common.{◌≡◌, ℕ, zero, suc, ◌+◌, List, [], ◌∷◌, ◌++◌, map, take, Some, slice_get, refl, ap, ◌∙◌, add-one}
use Rattle.bson_model.specs.Tree.{Tree, Entries, no_entry, entry_then, trees, entries, items_in, pairs_in, tree_of, with_trees}
use Rattle.bson_model.specs.declared.bson.Bson.{Bson}

pub items_in-trees : (ts : List Tree) → items_in (trees ts) ≡ ts
items_in-trees [] = refl
items_in-trees (t ∷ ts) = ap (λ l. t ∷ l) (items_in-trees ts)

map-append : {X Y : Type 0} (f : X → Y) (xs ys : List X) → map f (xs ++ ys) ≡ map f xs ++ map f ys
map-append f [] ys = refl
map-append f (x ∷ xs) ys = ap (λ l. f x ∷ l) (map-append f xs ys)

-- the first members, and the one after them
pub take-more : {X : Type 0} (xs : List X) (i : ℕ) (x : X) → slice_get xs i ≡ Some x → take (i + 1) xs ≡ take i xs ++ x ∷ []
take-more [] i x e = cc
take-more (y ∷ ys) zero x e = let h : y ≡ x = cc in ap (λ z. z ∷ []) h
take-more (y ∷ ys) (suc i) x e = rw add-one (ap (λ l. y ∷ l) (rw add-one at (take-more ys i x e)))

-- the trees of one more member of a list
pub trees-more : (vs : List Bson) (i : ℕ) (v : Bson) → slice_get vs i ≡ Some v → map tree_of (take (i + 1) vs) ≡ map tree_of (take i vs) ++ tree_of v ∷ []
trees-more vs i v e = ap (λ l. map tree_of l) (take-more vs i v e) ∙ map-append tree_of (take i vs) (v ∷ [])

-- the trees of one more pair of a document
pub with_trees-more : (ps : List (List ℕ × Bson)) (i : ℕ) (k : List ℕ) (v : Bson) → slice_get ps i ≡ Some (k, v) → with_trees (take (i + 1) ps) ≡ with_trees (take i ps) ++ (k, tree_of v) ∷ []
with_trees-more ps i k v e = ap with_trees (take-more ps i (k, v) e) ∙ map-append (λ p. (p.0, tree_of p.1)) (take i ps) ((k, v) ∷ [])
