-- The bytes of trees. BSON 1.1, `document`.
use Rattle.std.specs.Prelude.{◌≡◌, ◌<◌, ◌≤◌, Option, None, Some, ℕ, ◌+◌, ◌-◌, ◌^◌, List, [], ◌++◌, length, min, decimal, Vec, vec_len, vec_capacity}
use Rattle.std.specs.Global.{Global}
use Rattle.bson_model.specs.Proper.{IsNulFree}
use Rattle.bson_model.specs.Tree.{Tree, Trees, Entries, leaf, array, document, code_with_scope, no_tree, tree_then, no_entry, entry_then}
use Rattle.raw_view.specs.Errors.{key_of}
use Rattle.raw_view.specs.Frame.Format.{leaf_payload, scoped_payload, framed, element_of}
use Rattle.raw_view.specs.Frame.Kind.{kind_of_leaf}
use Rattle.raw_view.specs.Frame.Number.{max_length}
use Rattle.raw_view.specs.declared.element_type.ElementType.{ElementType}
use Rattle.raw_view.specs.declared.element_type.ElementType.TheVariants as kind
use Rattle.raw_view.specs.declared.error.Error.{Error}
use Rattle.raw_view.specs.declared.error.ErrorKind.{ErrorKind}
use Rattle.raw_view.specs.declared.error.ErrorKind.TheVariants as what
use Rattle.raw_view.specs.declared.error.Reason.TheVariants as reason

-- the kind of a tree
abbrev pub kind_of_tree : Tree → ElementType
kind_of_tree (leaf l) = kind_of_leaf l
kind_of_tree (array ts) = kind.Array
kind_of_tree (document es) = kind.EmbeddedDocument
kind_of_tree (code_with_scope code es) = kind.JavaScriptCodeWithScope

-- These give the payload of a tree, and the elements in it.
abbrev mutual
  -- the payload of a tree: of a leaf that of its value; of a list, a document and a scope their framed elements, where
  -- the keys of a list are the decimals from 0
  pub tree_payload : Tree → List ℕ
  tree_payload (leaf l) = leaf_payload l
  tree_payload (array ts) = framed (items_bytes 0 ts)
  tree_payload (document es) = framed (entries_bytes es)
  tree_payload (code_with_scope code es) = scoped_payload code (framed (entries_bytes es))

  -- the elements of a list, whose keys are the decimals from n
  pub items_bytes : ℕ → Trees → List ℕ
  items_bytes n no_tree = []
  items_bytes n (tree_then t ts) = element_of (kind_of_tree t) (decimal n) (tree_payload t) ++ items_bytes (n + 1) ts

  -- the elements of a document
  pub entries_bytes : Entries → List ℕ
  entries_bytes no_entry = []
  entries_bytes (entry_then key t es) = element_of (kind_of_tree t) key (tree_payload t) ++ entries_bytes es

-- the bytes of a document or a list, which are its payload; it isn't used for other trees
abbrev pub encoding : Tree → List ℕ
encoding t = tree_payload t

-- These give the lengths of the above as plain sums.
abbrev mutual
  -- the length of the payload of a tree
  pub encoded_len : Tree → ℕ
  encoded_len (leaf l) = length (leaf_payload l)
  encoded_len (array ts) = 5 + items_len 0 ts
  encoded_len (document es) = 5 + entries_len es
  encoded_len (code_with_scope code es) = 4 + (5 + length code) + (5 + entries_len es)

  -- the length of the elements of a list, whose keys are the decimals from n
  pub items_len : ℕ → Trees → ℕ
  items_len n no_tree = 0
  items_len n (tree_then t ts) = (2 + length (decimal n) + encoded_len t) + items_len (n + 1) ts

  -- the length of the elements of a document
  pub entries_len : Entries → ℕ
  entries_len no_entry = 0
  entries_len (entry_then key t es) = (2 + length key + encoded_len t) + entries_len es

-- why a tree isn't written: a 0, then its length, then out of memory
abbrev pub RefusesTree : Tree → ErrorKind → Type 0
RefusesTree t (what.MalformedValue reason.InteriorNul) = ¬ IsNulFree t
RefusesTree t (what.MalformedValue reason.TooLong) = IsNulFree t × (max_length < encoded_len t)
RefusesTree t what.OutOfMemory = IsNulFree t × (encoded_len t ≤ max_length)
RefusesTree t _ = ⊥

-- what a call returns that writes a tree: its encoding, if its C strings contain no 0 and it is not too long
abbrev pub IsEncoded : Tree → List ℕ → Type 0
IsEncoded t bytes = IsNulFree t × (encoded_len t ≤ max_length) × (bytes ≡ encoding t)

-- the error says why there is no encoding, without a key
abbrev pub IsRefused : Tree → Error → Type 0
IsRefused t e = RefusesTree t e.kind × (key_of e ≡ None)

-- what is returned for a tree before it is written: its length, or the greatest number of 64 bits if it is more;
-- nothing if and only if a key, a pattern or options contain a 0
abbrev pub Measures : Tree → Option ℕ → Type 0
Measures t None = ¬ IsNulFree t
Measures t (Some len) = IsNulFree t × (len ≡ min (encoded_len t) (2 ^ 64 - 1))

-- no bytes yet, with room for those of the tree, which may be written
abbrev pub HasRoomFor : Tree → Vec ℕ Global → Type 0
HasRoomFor t out = IsNulFree t × (encoded_len t ≤ max_length) × (out.items ≡ []) × (vec_len out ≡ 0) × (encoded_len t ≤ vec_capacity out)
