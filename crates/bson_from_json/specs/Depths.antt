-- How deep trees are nested.
use Rattle.std.specs.Prelude.{ℕ, max, suc}
use Rattle.bson_model.specs.Tree.{Tree, Trees, Entries, leaf, array, document, code_with_scope, no_tree, tree_then, no_entry, entry_then}

abbrev mutual
  -- the levels of a tree: 0 of a value that holds no others; of a list, a document and a scope one more than the most of what they hold
  pub tree_depth : Tree → ℕ
  tree_depth (leaf l) = 0
  tree_depth (array ts) = suc (items_depth ts)
  tree_depth (document es) = suc (entries_depth es)
  tree_depth (code_with_scope code es) = suc (entries_depth es)

  -- the most of the trees of a list
  pub items_depth : Trees → ℕ
  items_depth no_tree = 0
  items_depth (tree_then t ts) = max (tree_depth t) (items_depth ts)

  -- the most of the trees of a document
  pub entries_depth : Entries → ℕ
  entries_depth no_entry = 0
  entries_depth (entry_then key t es) = max (tree_depth t) (entries_depth es)
