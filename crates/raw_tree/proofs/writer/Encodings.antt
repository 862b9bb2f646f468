-- The lengths of encodings, and how their elements and lengths are put.
use Rattle.std.proofs.Common.{◌≡◌, ℕ, ◌+◌, List, ◌∷◌, ◌++◌, length, decimal, refl, length-append, arith}
use Rattle.raw_tree.proofs.Common.{Tree, Trees, Entries, leaf, array, document, code_with_scope, no_tree, tree_then, no_entry, entry_then, framed, element_of}
use Rattle.raw_tree.proofs.Common.{RawValue, ElementType, kind_of_tree, tree_payload, items_bytes, entries_bytes, encoded_len, items_len, entries_len, IsLeafOf, element_bytes}
use Rattle.raw_view.proofs.Face.{length-framed, length-scoped_payload}

-- the length of an element and of the bytes after it
pub length-element : (kind : ElementType) (key payload rest : List ℕ) → length (element_of kind key payload ++ rest) ≡ (2 + length key + length payload) + length rest
length-element kind key payload rest = omega (arith, length-append (key ++ 0 ∷ payload) rest, length-append key (0 ∷ payload))

-- the payload of a tree is as long as it is counted
mutual
  pub length-tree_payload : (t : Tree) → length (tree_payload t) ≡ encoded_len t
  length-tree_payload (leaf l) = refl
  length-tree_payload (array ts) = let h = length-items_bytes 0 ts in omega (arith, length-append {A = ℕ})
  length-tree_payload (document es) = let h = length-entries_bytes es in omega (arith, length-append {A = ℕ})
  length-tree_payload (code_with_scope code es) = omega (arith, length-scoped_payload code (framed (entries_bytes es)), length-framed (entries_bytes es), length-entries_bytes es)

  pub length-items_bytes : (n : ℕ) (ts : Trees) → length (items_bytes n ts) ≡ items_len n ts
  length-items_bytes n no_tree = refl
  length-items_bytes n (tree_then t ts) = omega (arith, length-element (kind_of_tree t) (decimal n) (tree_payload t) (items_bytes (n + 1) ts), length-tree_payload t, length-items_bytes (n + 1) ts)

  pub length-entries_bytes : (es : Entries) → length (entries_bytes es) ≡ entries_len es
  length-entries_bytes no_entry = refl
  length-entries_bytes (entry_then key t es) = omega (arith, length-element (kind_of_tree t) key (tree_payload t) (entries_bytes es), length-tree_payload t, length-entries_bytes es)

-- the element of a value that shows a tree is that of the tree
pub shown_len : (t : Tree) (v : RawValue) (key : List ℕ) → IsLeafOf t v → length (element_bytes key v) ≡ 2 + length key + encoded_len t
shown_len t v key e = grind (arith, length-append key (0 ∷ tree_payload t), length-tree_payload t)
