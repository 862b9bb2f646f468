-- Trees of values, whatever holds them in memory. `tree_of` is the tree of a value:
--   tree_of (Array values) is array of the trees of the values, in order
--   tree_of (Document d) is document of the pairs of d, in order, each a key and the tree of its value
--   tree_of (JavaScriptCodeWithScope c) is code_with_scope of the bytes of the code and of the pairs of the scope
--   tree_of of any other value is leaf of what it holds: tree_of (Int32 x) is leaf (int32 x)
-- `TreeEquations`, at the end, has the first three as equations. The definition, above them, follows how values are held.
use Rattle.std.specs.Prelude.{◌≡◌, ℕ, List, [], ◌∷◌, map}
use Rattle.std.specs.String.{string_bytes}
use Rattle.std.specs.declared.alloc.Global.{Global}
use Rattle.std.specs.declared.vec.Vec.{Vec}
use Rattle.bson_model.specs.Leaf.{Leaf, double, string, binary, undefined, object_id, boolean, date_time, null, regular_expression, db_pointer, javascript_code, symbol, int32, timestamp, int64, decimal128, max_key, min_key}
use Rattle.bson_model.specs.Scalars.{bytes_of_object_id, millis_of_date_time, bytes_of_decimal128}
use Rattle.bson_model.specs.declared.bson.Document.{Document}
use Rattle.bson_model.specs.declared.bson.JavaScriptCodeWithScope.{JavaScriptCodeWithScope}
use Rattle.bson_model.specs.declared.bson.Bson as b
use Rattle.bson_model.specs.declared.bson.Bson.{Bson, Row_of-Bson, end_of-Bson, more_of-Bson}

mutual
  -- a value that holds no others, a list, pairs of a key and a tree, or code with such pairs
  pub data Tree : Type 0 where
    leaf : Leaf → Tree
    array : Trees → Tree
    document : Entries → Tree
    code_with_scope : List ℕ → Entries → Tree

  -- a list of trees
  pub data Trees : Type 0 where
    no_tree : Trees
    tree_then : Tree → Trees → Trees

  -- a list of pairs of a key and a tree
  pub data Entries : Type 0 where
    no_entry : Entries
    entry_then : List ℕ → Tree → Entries → Entries

-- a list of trees as data
abbrev pub trees : List Tree → Trees
trees [] = no_tree
trees (t ∷ ts) = tree_then t (trees ts)

-- pairs of a key and a tree as data
abbrev pub entries : List (List ℕ × Tree) → Entries
entries [] = no_entry
entries (e ∷ es) = entry_then e.0 e.1 (entries es)

-- the members of a list of trees
abbrev pub items_in : Trees → List Tree
items_in no_tree = []
items_in (tree_then t ts) = t ∷ items_in ts

-- the pairs of a document or a scope
abbrev pub pairs_in : Entries → List (List ℕ × Tree)
pairs_in no_entry = []
pairs_in (entry_then k t es) = (k, t) ∷ pairs_in es

-- the keys beside the trees
abbrev pub entries_beside : List (List ℕ × Unit {0}) → Trees → Entries
entries_beside [] ts = no_entry
entries_beside (k ∷ ks) no_tree = no_entry
entries_beside (k ∷ ks) (tree_then t ts) = entry_then k.0 t (entries_beside ks ts)

unfoldable mutual
  -- the tree of a value
  pub tree_of : Bson → Tree
  tree_of (b.Double x) = leaf (double x.0)
  tree_of (b.String x) = leaf (string (string_bytes x))
  tree_of (b.Document' shape row) = document (entries_beside shape (trees_of row))
  tree_of (b.Array' shape row) = array (trees_of row)
  tree_of (b.Binary x) = leaf (binary x.subtype x.bytes.items)
  tree_of b.Undefined = leaf undefined
  tree_of (b.ObjectId x) = leaf (object_id (bytes_of_object_id x))
  tree_of (b.Boolean x) = leaf (boolean x)
  tree_of (b.DateTime x) = leaf (date_time (millis_of_date_time x))
  tree_of b.Null = leaf null
  tree_of (b.RegularExpression x) = leaf (regular_expression (string_bytes x.pattern) (string_bytes x.options))
  tree_of (b.DbPointer x) = leaf (db_pointer (string_bytes x.namespace) (bytes_of_object_id x.id))
  tree_of (b.JavaScriptCode x) = leaf (javascript_code (string_bytes x))
  tree_of (b.Symbol x) = leaf (symbol (string_bytes x))
  tree_of (b.JavaScriptCodeWithScope' code shape row) = code_with_scope (string_bytes code) (entries_beside shape (trees_of row))
  tree_of (b.Int32 x) = leaf (int32 x)
  tree_of (b.Timestamp x) = leaf (timestamp x.time x.increment)
  tree_of (b.Int64 x) = leaf (int64 x)
  tree_of (b.Decimal128 x) = leaf (decimal128 (bytes_of_decimal128 x))
  tree_of b.MaxKey = leaf max_key
  tree_of b.MinKey = leaf min_key

  -- the trees of the values that a list or a document holds
  pub trees_of : {m : _} → Row_of-Bson m → Trees
  trees_of end_of-Bson = no_tree
  trees_of (more_of-Bson b rest) = tree_then (tree_of b) (trees_of rest)

-- the pairs of a document
abbrev pub pairs_of : Document → List (List ℕ × Bson)
pairs_of d = d.pairs

-- each with the tree of its value
abbrev pub with_trees : List (List ℕ × Bson) → List (List ℕ × Tree)
with_trees ps = map (λ p. (p.0, tree_of p.1)) ps

-- the tree of a document
abbrev pub tree_of_document : Document → Tree
tree_of_document d = document (entries (with_trees (pairs_of d)))

-- the tree of a list
abbrev pub tree_of_list : List Bson → Tree
tree_of_list vs = array (trees (map tree_of vs))

-- What `tree_of` is at the variants that hold other values. Its definition follows how these are held in memory. Each
-- equation is proved (`tree_equations`).
pub record TreeEquations : Type 0 where
  pub of_array : (values : Vec Bson Global) → tree_of (b.Array values) ≡ tree_of_list values.items
  pub of_document : (d : Document) → tree_of (b.Document d) ≡ tree_of_document d
  pub of_code_with_scope : (c : JavaScriptCodeWithScope)
      → tree_of (b.JavaScriptCodeWithScope c) ≡ code_with_scope (string_bytes c.code) (entries (with_trees (pairs_of c.scope)))
