-- Helpers for dropping values: what a tree holds, and how much is left to drop. No public contract cites this file.
use Rattle.std.specs.Prelude.{◌≡◌, ℕ, ◌+◌, ◌<◌, List, [], ◌∷◌, ◌++◌, Option, map}
use Rattle.std.specs.Option.{option_to_list}
use Rattle.bson_model.specs.Tree.{Tree, Trees, Entries, leaf, array, document, code_with_scope, no_tree, tree_then, no_entry, entry_then, items_in, pairs_in, tree_of}
use Rattle.bson_model.specs.declared.bson.Bson.{Bson}

-- the trees directly inside a tree, in order
abbrev pub members : Tree → List Tree
members (leaf l) = []
members (array ts) = items_in ts
members (document es) = map (λ p. p.1) (pairs_in es)
members (code_with_scope code es) = map (λ p. p.1) (pairs_in es)

-- These three count twice the trees of a tree, of a list and of pairs.
abbrev mutual
  -- twice the number of trees in a tree, itself included
  pub size_of : Tree → ℕ
  size_of (leaf l) = 2
  size_of (array ts) = 2 + size_of_items ts
  size_of (document es) = 2 + size_of_entries es
  size_of (code_with_scope code es) = 2 + size_of_entries es

  -- the same of a list of trees
  pub size_of_items : Trees → ℕ
  size_of_items no_tree = 0
  size_of_items (tree_then t ts) = size_of t + size_of_items ts

  -- the same of pairs
  pub size_of_entries : Entries → ℕ
  size_of_entries no_entry = 0
  size_of_entries (entry_then key t es) = size_of t + size_of_entries es

-- These three count as those above, but the tree, its first member, the first member of that and so on count once.
abbrev mutual
  -- the count of a tree
  pub load_of : Tree → ℕ
  load_of (leaf l) = 1
  load_of (array ts) = 1 + load_of_items ts
  load_of (document es) = 1 + load_of_entries es
  load_of (code_with_scope code es) = 1 + load_of_entries es

  -- the count of a list of trees
  pub load_of_items : Trees → ℕ
  load_of_items no_tree = 0
  load_of_items (tree_then t ts) = load_of t + size_of_items ts

  -- the count of pairs
  pub load_of_entries : Entries → ℕ
  load_of_entries no_entry = 0
  load_of_entries (entry_then key t es) = load_of t + size_of_entries es

-- the counts of a list of trees, each tree twice
abbrev pub sizes : List Tree → ℕ
sizes [] = 0
sizes (t ∷ ts) = size_of t + sizes ts

-- the counts of a list of trees, where the first tree and its first members count once
abbrev pub load : List Tree → ℕ
load [] = 0
load (t ∷ ts) = load_of t + sizes ts

-- the trees that are left to drop: those of the held values, and the next one
abbrev pub left : List Bson → Option Bson → List Tree
left held next = map tree_of (held ++ option_to_list next)

-- the held values and the next one are the front of a list
abbrev pub IsCutFrom : List Bson → Option Bson → List Bson → Type 0
IsCutFrom new next old = (rest : List Bson) × old ≡ (new ++ option_to_list next) ++ rest

-- less is left than there was with `old` held and a tree of `values` next
abbrev pub IsLess : List Bson → Option Bson → List Bson → List Bson → Type 0
IsLess new next old values = (t : Tree) → members t ≡ map tree_of values → load (left new next) < load (map tree_of old ++ t ∷ [])
