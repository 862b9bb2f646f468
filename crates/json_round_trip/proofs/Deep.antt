-- A tree that is read within n levels has at most n.
use Rattle.std.proofs.Common.{◌≤◌, ◌∷◌, [], ℕ, Bool, true, false, zero, suc, List, fold, map, if◌then◌else◌, sym, subst, arith}
use Rattle.std.proofs.Math.Nat.{max-le}
use Rattle.std.specs.Str.{bytes_eq}
use Rattle.bson_model.specs.Pairs.{keep, with_pair}
use Rattle.bson_model.specs.Tree.{Tree, document, entries, trees}
use Rattle.bson_model.proofs.Face.{fold-keep}
use Rattle.raw_view.specs.Frame.{Frame}
use Rattle.raw_view.specs.Meaning.{RawValue}
use Rattle.raw_view.specs.Meaning as raw
use Rattle.raw_tree.specs.Reading.{ReadsUpTo, Sort, StandForEach, StandsFor, as_array, as_document}
use Rattle.bson_from_json.specs.Depths.{entries_depth, items_depth, tree_depth}

-- each tree of these pairs has at most n levels
abbrev AreDeep : ℕ → List (List ℕ × Tree) → Type 0
AreDeep n [] = Unit {0}
AreDeep n (pair ∷ pairs) = (tree_depth pair.1 ≤ n) × AreDeep n pairs

trees_deep : (n : ℕ) (pairs : List (List ℕ × Tree)) → AreDeep n pairs → items_depth (trees (map (λ p. p.1) pairs)) ≤ n
trees_deep n [] h = omega arith
trees_deep n (pair ∷ pairs) h = max-le h.0 (trees_deep n pairs h.1)

with_deep : (n : ℕ) (key : List ℕ) (t : Tree) (pairs : List (List ℕ × Tree)) → tree_depth t ≤ n → AreDeep n pairs → AreDeep n (with_pair key t pairs)
with_deep n key t [] deep h = (deep, tt)
with_deep n key t (pair ∷ pairs) deep h =
    elim (bytes_eq key pair.0) as (λ (same : Bool). AreDeep n (if same then (pair.0, t) ∷ pairs else pair ∷ with_pair key t pairs)) [
      | true ↦ (deep, h.1)
      | false ↦ (h.0, with_deep n key t pairs deep h.1)
    ]

fold_deep : (n : ℕ) (pairs others : List (List ℕ × Tree)) → AreDeep n others → AreDeep n pairs → AreDeep n (fold (λ qs p. with_pair p.0 p.1 qs) others pairs)
fold_deep n [] others h k = h
fold_deep n (pair ∷ pairs) others h k = fold_deep n pairs (with_pair pair.0 pair.1 others) (with_deep n pair.0 pair.1 others k.0 h) k.1

entries_deep : (n : ℕ) (pairs : List (List ℕ × Tree)) → AreDeep n pairs → entries_depth (entries pairs) ≤ n
entries_deep n [] h = omega arith
entries_deep n (pair ∷ pairs) h = max-le h.0 (entries_deep n pairs h.1)

-- each tree that nested bytes are read as has at most n levels
abbrev NestedDeep : ℕ → Type 0
NestedDeep n = (sort : Sort) (d : List ℕ) (t : Tree) → ReadsUpTo n sort d t → tree_depth t ≤ n

value_deep : (n : ℕ) → NestedDeep n → (v : RawValue) (t : Tree) → StandsFor (ReadsUpTo n) v t → tree_depth t ≤ n
value_deep n nested (raw.single l) t e = subst (λ (x : Tree). tree_depth x ≤ n) (sym e) (omega arith)
value_deep n nested (raw.document d) t h = nested as_document d t h
value_deep n nested (raw.array d) t h = nested as_array d t h
value_deep n nested (raw.scoped code d) t (es, h, e) = subst (λ (x : Tree). tree_depth x ≤ n) (sym e) (nested as_document d (document es) h)

each_deep : (n : ℕ) → NestedDeep n → (frames : List Frame) (pairs : List (List ℕ × Tree)) → StandForEach (ReadsUpTo n) frames pairs → AreDeep n pairs
each_deep n nested [] pairs e = subst (AreDeep n) (sym e) tt
each_deep n nested (f ∷ fs) pairs (v, t, rest, means, stands, e, more) =
    subst (AreDeep n) (sym e) (value_deep n nested v t stands, each_deep n nested fs rest more)

pub read_deep : (n : ℕ) (sort : Sort) (b : List ℕ) (t : Tree) → ReadsUpTo n sort b t → tree_depth t ≤ n
read_deep zero sort b t h = absurd h
read_deep (suc n) as_document b t (pairs, (frames, walk, stand), e) =
    let kept = subst (AreDeep n) (fold-keep pairs) (fold_deep n pairs [] tt (each_deep n (read_deep n) frames pairs stand)) in
    let deep : entries_depth (entries (keep pairs)) ≤ n = entries_deep n (keep pairs) kept in
    subst (λ (x : Tree). tree_depth x ≤ suc n) (sym e) (omega (arith, deep))
read_deep (suc n) as_array b t (pairs, (frames, walk, stand), e) =
    let deep = trees_deep n pairs (each_deep n (read_deep n) frames pairs stand) in
    subst (λ (x : Tree). tree_depth x ≤ suc n) (sym e) (omega (arith, deep))
