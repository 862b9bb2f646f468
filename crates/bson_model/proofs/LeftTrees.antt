-- How much is left to drop.
use Rattle.std.proofs.Common.{◌≡◌, ℕ, ◌+◌, ◌<◌, List, [], ◌∷◌, ◌++◌, length, map, Option, None, Some, Vec, Global, slice_index_or, slice_set, refl, ap, sym, ◌∙◌, arith}
use Rattle.std.specs.Option.{IfSome, option_to_list}
use Rattle.std.proofs.lemmas.List.{append_assoc, map-append, length-map}
use Rattle.bson_model.proofs.Steps.{items_in-trees}
use Rattle.bson_model.proofs.Trees.{tree_of-Array, tree_of-Document, tree_of-JavaScriptCodeWithScope}
use Rattle.bson_model.specs.LeftTrees.{members, size_of, size_of_items, size_of_entries, load_of, load_of_items, load_of_entries, sizes, load, left, IsCutFrom, IsLess}
use Rattle.bson_model.specs.Tree.{Tree, Trees, Entries, leaf, array, document, code_with_scope, no_tree, tree_then, no_entry, entry_then, trees, items_in, entries, pairs_in, tree_of, pairs_of, with_trees}
use Rattle.bson_model.specs.declared.bson.Bson as b
use Rattle.bson_model.specs.declared.bson.Bson.{Bson}
use Rattle.bson_model.specs.declared.bson.Document.{Document}
use Rattle.bson_model.specs.declared.bson.JavaScriptCodeWithScope.{JavaScriptCodeWithScope}

sizes-append : (ts us : List Tree) → sizes (ts ++ us) ≡ sizes ts + sizes us
sizes-append [] us = omega arith
sizes-append (t ∷ ts) us = omega (arith, sizes-append ts us)

size-items : (ts : Trees) → size_of_items ts ≡ sizes (items_in ts)
size-items no_tree = refl
size-items (tree_then t ts) = ap (λ n. size_of t + n) (size-items ts)

size-entries : (es : Entries) → size_of_entries es ≡ sizes (map (λ p. p.1) (pairs_in es))
size-entries no_entry = refl
size-entries (entry_then key t es) = ap (λ n. size_of t + n) (size-entries es)

size-members : (t : Tree) → size_of t ≡ 2 + sizes (members t)
size-members (leaf l) = refl
size-members (array ts) = ap (λ n. 2 + n) (size-items ts)
size-members (document es) = ap (λ n. 2 + n) (size-entries es)
size-members (code_with_scope code es) = ap (λ n. 2 + n) (size-entries es)

load-items : (ts : Trees) → load_of_items ts ≡ load (items_in ts)
load-items no_tree = refl
load-items (tree_then t ts) = ap (λ n. load_of t + n) (size-items ts)

load-entries : (es : Entries) → load_of_entries es ≡ load (map (λ p. p.1) (pairs_in es))
load-entries no_entry = refl
load-entries (entry_then key t es) = ap (λ n. load_of t + n) (size-entries es)

load-members : (t : Tree) → load_of t ≡ 1 + load (members t)
load-members (leaf l) = refl
load-members (array ts) = ap (λ n. 1 + n) (load-items ts)
load-members (document es) = ap (λ n. 1 + n) (load-entries es)
load-members (code_with_scope code es) = ap (λ n. 1 + n) (load-entries es)

-- what a value holds
pub members-Array : (v : Vec Bson Global) → members (tree_of (b.Array v)) ≡ map tree_of v.items
members-Array v = ap members (tree_of-Array v) ∙ items_in-trees (map tree_of v.items)

trees-values : (ps : List (List ℕ × Bson)) → map (λ p. p.1) (pairs_in (entries (with_trees ps))) ≡ map tree_of (map (λ p. p.1) ps)
trees-values [] = refl
trees-values (p ∷ ps) = ap (λ l. tree_of p.1 ∷ l) (trees-values ps)

pub members-Document : (d : Document) (r : Option (Vec Bson Global)) → IfSome r (λ values. values.items ≡ map (λ p. p.1) (pairs_of d))
    → IfSome r (λ values. members (tree_of (b.Document d)) ≡ map tree_of values.items)
members-Document d None h = tt
members-Document d (Some values) h = ap members (tree_of-Document d) ∙ rw h (trees-values (pairs_of d))

pub members-Code : (c : JavaScriptCodeWithScope) (r : Option (Vec Bson Global)) → IfSome r (λ values. values.items ≡ map (λ p. p.1) (pairs_of c.scope))
    → IfSome r (λ values. members (tree_of (b.JavaScriptCodeWithScope c)) ≡ map tree_of values.items)
members-Code c None h = tt
members-Code c (Some values) h = ap members (tree_of-JavaScriptCodeWithScope c) ∙ rw h (trees-values (pairs_of c.scope))

-- without the last, less is left
pub less-last : (ts : List Tree) (t : Tree) → load ts < load (ts ++ t ∷ [])
less-last [] t = omega (arith, load-members t)
less-last (u ∷ us) t = omega (arith, sizes-append us (t ∷ []), size-members t)

-- what the last holds is less than it
pub less-inside : (ts : List Tree) (t : Tree) → ts ≡ members t → load ts < load (t ∷ [])
less-inside ts t e = rw e (omega (arith, load-members t))

-- if others wait in the place of the first, less is left
pub less-outside : (u : Tree) (us : List Tree) (v : Tree) (vs : List Tree) (t : Tree) → members t ≡ v ∷ vs → load (array (trees (u ∷ us)) ∷ vs ++ v ∷ []) < load ((u ∷ us) ++ t ∷ [])
less-outside u us v vs t e =
    let waiting : load_of (array (trees (u ∷ us))) ≡ 1 + load (u ∷ us) = ap (λ n. 1 + n) (load-items (trees (u ∷ us)) ∙ ap load (items_in-trees (u ∷ us))) in
    let opened : size_of t ≡ 2 + sizes (v ∷ vs) = size-members t ∙ ap (λ l. 2 + sizes l) e in
    omega (arith, waiting, opened, sizes-append vs (v ∷ []), sizes-append us (t ∷ []))

-- the front of a list is no more than the list
load-front : (ts us : List Tree) → load ts < 1 + load (ts ++ us)
load-front [] us = omega arith
load-front (t ∷ ts) us = omega (arith, sizes-append ts us)

load-cut : (new : List Bson) (next : Option Bson) (old : List Bson) → IsCutFrom new next old → load (left new next) < 1 + load (map tree_of old)
load-cut new next old (rest, e) = rw (e, map-append tree_of (new ++ option_to_list next) rest) (load-front (left new next) (map tree_of rest))

-- a value is dropped, and the last of the held ones is next
pub less-cut : (new : List Bson) (next : Option Bson) (old : List Bson) → IsCutFrom new next old → (t : Tree) → load (left new next) < load (map tree_of old ++ t ∷ [])
less-cut new next old h t = omega (arith, load-cut new next old h, less-last (map tree_of old) t)

-- if a value holds others and nothing is held, less is left
pub is_less-inside : (new : List Bson) (next : Option Bson) (values : List Bson) → IsCutFrom new next values → IsLess new next [] values
is_less-inside new next values h t m = omega (arith, load-cut new next values h, less-inside (map tree_of values) t (sym m))

-- the same, if the value is the next one
pub less-next : (new : List Bson) (next : Option Bson) (old : List Bson) (value : Bson) → load (left new next) < load (map tree_of old ++ tree_of value ∷ [])
    → load (left new next) < load (left old (Some value))
less-next new next old value h = rw (map-append tree_of old (value ∷ [])) h

-- the held values wait in the place of the first
pub is_less-outside : (outer : Vec Bson Global) (values : List Bson) (first : Bson) → 0 < length outer.items → 0 < length values → first ≡ slice_index_or values 0 first
    → IsLess (slice_set values 0 (b.Array outer)) (Some first) outer.items values
is_less-outside outer [] first held some e t m = absurd (omega arith)
is_less-outside outer (v ∷ vs) first held some e t m =
    rw (e, tree_of-Array outer, map-append tree_of vs (v ∷ [])) (outside (map tree_of outer.items) (omega (arith, length-map outer.items tree_of)))
  where
    outside : (us : List Tree) → 0 < length us → load (array (trees us) ∷ map tree_of vs ++ tree_of v ∷ []) < load (us ++ t ∷ [])
    outside [] h = absurd (omega arith)
    outside (u ∷ us) h = less-outside u us (tree_of v) (map tree_of vs) t m

-- a front without its last element is a front
pub front-popped : (items new old : List Bson) (last : Bson) → items ≡ new ++ last ∷ [] → ((rest : List Bson) × old ≡ items ++ rest) → (rest : List Bson) × old ≡ new ++ rest
front-popped items new old last e (rest, h) = (last ∷ rest, h ∙ ap (λ l. l ++ rest) e ∙ append_assoc new (last ∷ []) rest)
