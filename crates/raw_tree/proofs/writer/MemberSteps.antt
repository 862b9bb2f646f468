-- The members of trees: those that remain after the first, their bytes, the number of these, and whether a C string in them contains a 0.
use Rattle.std.proofs.Common.{◌≡◌, ◌↔◌, ℕ, ◌+◌, List, [], ◌∷◌, ◌++◌, decimal, map, reverse, None, Some, slice_get, refl, ap, arith}
use Rattle.std.proofs.lemmas.List.{drop_all, drop_more, reverse-append}
use Rattle.std.proofs.lemmas.Option.{get_or_from_slice_get, slice_get_cases, slice_get_within}
use Rattle.raw_tree.proofs.writer.Decimals.{decimal_nul_free}
use Rattle.raw_tree.proofs.Common.{map-append, IsNulFree, nul_free_parts, InTrees, InEntries, Tree, Trees, no_tree, tree_then, no_entry, entry_then, Document, pairs_of}
use Rattle.raw_tree.proofs.Common.{tree_of, Bson, element_of, kind_of_tree, tree_payload, items_bytes, entries_bytes, encoded_len, items_len, entries_len, numbered, members, opening_len}
use Rattle.raw_tree.proofs.Common.{HoldsTrees, tree_of_container, Container}
use Rattle.raw_tree.specs.writer.Members.{pairs_from}

-- steps

pub pair_step : (d : Document) (i : ℕ) (key : List ℕ) (v : Bson) → slice_get (pairs_of d) i ≡ Some (key, v) → pairs_from d i ≡ entry_then key (tree_of v) (pairs_from d (i + 1))
pair_step d i key v e =
    rw (drop_more (pairs_of d) i (key, v) (slice_get_within (pairs_of d) i (key, v) e), get_or_from_slice_get (pairs_of d) i (key, v) (key, v) e) refl

pub last_pair : (d : Document) (i : ℕ) → slice_get (pairs_of d) i ≡ None → pairs_from d i ≡ no_entry
last_pair d i e = grind (arith, drop_all, slice_get_cases)

-- what f says of the waiting levels, the innermost first
abbrev pub stack : {A B : Type 0} → (A → B) → List A → List B
stack f ws = reverse (map f ws)

pub stack-last : {A B : Type 0} (f : A → B) (ws : List A) (w : A) → stack f (ws ++ w ∷ []) ≡ f w ∷ stack f ws
stack-last f ws w = rw (map-append f ws (w ∷ [])) (reverse-append (map f ws) (f w ∷ []))

-- trees

pub items_bytes-numbered : (n : ℕ) (ts : Trees) → items_bytes n ts ≡ entries_bytes (numbered n ts)
items_bytes-numbered n no_tree = refl
items_bytes-numbered n (tree_then t ts) = ap (λ (b : List ℕ). element_of (kind_of_tree t) (decimal n) (tree_payload t) ++ b) (items_bytes-numbered (n + 1) ts)

items_len-numbered : (n : ℕ) (ts : Trees) → items_len n ts ≡ entries_len (numbered n ts)
items_len-numbered n no_tree = refl
items_len-numbered n (tree_then t ts) = omega (arith, items_len-numbered (n + 1) ts)

pub members_len : (t : Tree) → HoldsTrees t → encoded_len t ≡ opening_len t + 1 + entries_len (members t)
members_len t h = grind (arith, items_len-numbered)

items_free : (n : ℕ) (ts : Trees) → InTrees nul_free_parts ts ↔ InEntries nul_free_parts (numbered n ts)
items_free n no_tree = ((λ h. h), (λ h. h))
items_free n (tree_then t ts) = let rest = items_free (n + 1) ts in ((λ h. (decimal_nul_free n, h.0, rest.0 h.1)), (λ h. (h.1, rest.1 h.2)))

pub members_free : (t : Tree) → HoldsTrees t → IsNulFree t ↔ InEntries nul_free_parts (members t)
members_free t h = grind (arith, items_free)

pub container_holds : (c : Container) → HoldsTrees (tree_of_container c)
container_holds c = grind arith
