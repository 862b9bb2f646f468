-- The tree of a value, by what the value holds.
use Rattle.std.proofs.Common.{◌≡◌, ℕ, ℤ, Bool, true, false, List, [], ◌∷◌, map, String, Vec, Global, if◌then◌else◌, refl, ap, ◌∙◌}
use Rattle.std.specs.Str.{bytes_eq}
use Rattle.std.specs.String.{string_bytes}
use Rattle.bson_model.specs.Leaf.{double, string, binary, undefined, object_id, boolean, date_time, null, regular_expression, db_pointer, javascript_code, symbol, int32, timestamp, int64, decimal128, max_key, min_key}
use Rattle.bson_model.specs.Pairs.{with_pair}
use Rattle.bson_model.specs.Scalars.{bytes_of_object_id, millis_of_date_time, bytes_of_decimal128}
use Rattle.bson_model.specs.Tree.{leaf, array, document, code_with_scope, tree_then, entry_then, trees, entries, entries_beside, tree_of, trees_of, pairs_of, with_trees, TreeEquations}
use Rattle.bson_model.specs.declared.binaries.Binary.{Binary}
use Rattle.bson_model.specs.declared.bson.Bson as b
use Rattle.bson_model.specs.declared.bson.Bson.{Bson, Row_of-Bson, end_of-Bson, more_of-Bson, items-the_row-Bson, items_hidden-the_row-Bson-0, items_hidden-the_row-Bson-1}
use Rattle.bson_model.specs.declared.bson.Bson.TheBlock.{hidden-the_row-Bson-0, hidden-the_row-Bson-1, shape-the_row-Bson-0}
use Rattle.bson_model.specs.declared.bson.Document.{Document}
use Rattle.bson_model.specs.declared.bson.JavaScriptCodeWithScope.{JavaScriptCodeWithScope}
use Rattle.bson_model.specs.declared.numbers.Decimal128.{Decimal128}
use Rattle.bson_model.specs.declared.numbers.DoubleBits.{DoubleBits}
use Rattle.bson_model.specs.declared.object_id.DbPointer.{DbPointer}
use Rattle.bson_model.specs.declared.object_id.ObjectId.{ObjectId}
use Rattle.bson_model.specs.declared.regexes.Regex.{Regex}
use Rattle.bson_model.specs.declared.times.DateTime.{DateTime}
use Rattle.bson_model.specs.declared.times.Timestamp.{Timestamp}

pub tree_of-Double : (x : DoubleBits) → tree_of (b.Double x) ≡ leaf (double x.0)
unfolding tree_of
tree_of-Double x = refl

pub tree_of-String : (x : String Global) → tree_of (b.String x) ≡ leaf (string (string_bytes x))
unfolding tree_of
tree_of-String x = refl

pub tree_of-Binary : (x : Binary) → tree_of (b.Binary x) ≡ leaf (binary x.subtype x.bytes.items)
unfolding tree_of
tree_of-Binary x = refl

pub tree_of-Undefined : tree_of b.Undefined ≡ leaf undefined
unfolding tree_of
tree_of-Undefined = refl

pub tree_of-ObjectId : (x : ObjectId) → tree_of (b.ObjectId x) ≡ leaf (object_id (bytes_of_object_id x))
unfolding tree_of
tree_of-ObjectId x = refl

pub tree_of-Boolean : (x : Bool) → tree_of (b.Boolean x) ≡ leaf (boolean x)
unfolding tree_of
tree_of-Boolean x = refl

pub tree_of-DateTime : (x : DateTime) → tree_of (b.DateTime x) ≡ leaf (date_time (millis_of_date_time x))
unfolding tree_of
tree_of-DateTime x = refl

pub tree_of-Null : tree_of b.Null ≡ leaf null
unfolding tree_of
tree_of-Null = refl

pub tree_of-RegularExpression : (x : Regex) → tree_of (b.RegularExpression x) ≡ leaf (regular_expression (string_bytes x.pattern) (string_bytes x.options))
unfolding tree_of
tree_of-RegularExpression x = refl

pub tree_of-DbPointer : (x : DbPointer) → tree_of (b.DbPointer x) ≡ leaf (db_pointer (string_bytes x.namespace) (bytes_of_object_id x.id))
unfolding tree_of
tree_of-DbPointer x = refl

pub tree_of-JavaScriptCode : (x : String Global) → tree_of (b.JavaScriptCode x) ≡ leaf (javascript_code (string_bytes x))
unfolding tree_of
tree_of-JavaScriptCode x = refl

pub tree_of-Symbol : (x : String Global) → tree_of (b.Symbol x) ≡ leaf (symbol (string_bytes x))
unfolding tree_of
tree_of-Symbol x = refl

pub tree_of-Int32 : (x : ℤ) → tree_of (b.Int32 x) ≡ leaf (int32 x)
unfolding tree_of
tree_of-Int32 x = refl

pub tree_of-Timestamp : (x : Timestamp) → tree_of (b.Timestamp x) ≡ leaf (timestamp x.time x.increment)
unfolding tree_of
tree_of-Timestamp x = refl

pub tree_of-Int64 : (x : ℤ) → tree_of (b.Int64 x) ≡ leaf (int64 x)
unfolding tree_of
tree_of-Int64 x = refl

pub tree_of-Decimal128 : (x : Decimal128) → tree_of (b.Decimal128 x) ≡ leaf (decimal128 (bytes_of_decimal128 x))
unfolding tree_of
tree_of-Decimal128 x = refl

pub tree_of-MaxKey : tree_of b.MaxKey ≡ leaf max_key
unfolding tree_of
tree_of-MaxKey = refl

pub tree_of-MinKey : tree_of b.MinKey ≡ leaf min_key
unfolding tree_of
tree_of-MinKey = refl

trees_of-row : (m : _) (r : Row_of-Bson m) → trees_of r ≡ trees (map tree_of (items-the_row-Bson m r))
unfolding tree_of trees_of
trees_of-row m end_of-Bson = refl
trees_of-row m (more_of-Bson b rest) = ap (λ ts. tree_then (tree_of b) ts) (trees_of-row _ rest)

entries_beside-values : (ps : List (List ℕ × Bson)) → entries_beside (map (λ p. (p.0, tt)) ps) (trees (map tree_of (map (λ p. p.1) ps))) ≡ entries (with_trees ps)
entries_beside-values [] = refl
entries_beside-values (p ∷ ps) = ap (λ es. entry_then p.0 (tree_of p.1) es) (entries_beside-values ps)

entries_beside-pairs : (ps : List (List ℕ × Bson)) → entries_beside (shape-the_row-Bson-0 ps) (trees_of (hidden-the_row-Bson-0 ps)) ≡ entries (with_trees ps)
unfolding shape-the_row-Bson-0
entries_beside-pairs ps = ap (λ ts. entries_beside (shape-the_row-Bson-0 ps) ts)
    (trees_of-row _ (hidden-the_row-Bson-0 ps) ∙ ap (λ bs. trees (map tree_of bs)) (items_hidden-the_row-Bson-0 ps)) ∙ entries_beside-values ps

pub tree_of-Array : (v : Vec Bson Global) → tree_of (b.Array v) ≡ array (trees (map tree_of v.items))
unfolding tree_of
tree_of-Array v = ap array (trees_of-row _ (hidden-the_row-Bson-1 v) ∙ ap (λ bs. trees (map tree_of bs)) (items_hidden-the_row-Bson-1 v))

pub tree_of-Document : (d : Document) → tree_of (b.Document d) ≡ document (entries (with_trees (pairs_of d)))
unfolding tree_of
tree_of-Document d = ap document (entries_beside-pairs d.pairs)

pub tree_of-JavaScriptCodeWithScope : (c : JavaScriptCodeWithScope) → tree_of (b.JavaScriptCodeWithScope c) ≡ code_with_scope (string_bytes c.code) (entries (with_trees (pairs_of c.scope)))
unfolding tree_of
tree_of-JavaScriptCodeWithScope c = ap (λ es. code_with_scope (string_bytes c.code) es) (entries_beside-pairs c.scope.pairs)

pub tree_equations : TreeEquations
tree_equations = record { of_array = tree_of-Array; of_document = tree_of-Document; of_code_with_scope = tree_of-JavaScriptCodeWithScope }

-- the tree of a value of each variant
pub ruleset tree_laws = (
  tree_of-Double,
  tree_of-String,
  tree_of-Document,
  tree_of-Array,
  tree_of-Binary,
  tree_of-Undefined,
  tree_of-ObjectId,
  tree_of-Boolean,
  tree_of-DateTime,
  tree_of-Null,
  tree_of-RegularExpression,
  tree_of-DbPointer,
  tree_of-JavaScriptCode,
  tree_of-Symbol,
  tree_of-JavaScriptCodeWithScope,
  tree_of-Int32,
  tree_of-Timestamp,
  tree_of-Int64,
  tree_of-Decimal128,
  tree_of-MaxKey,
  tree_of-MinKey,
)

pub with_trees-with_pair : (k : List ℕ) (v : Bson) (ps : List (List ℕ × Bson)) → with_trees (with_pair k v ps) ≡ with_pair k (tree_of v) (with_trees ps)
with_trees-with_pair k v [] = refl
with_trees-with_pair k v (p ∷ ps) =
    elim (bytes_eq k p.0) as (λ b. with_trees (if b then (p.0, v) ∷ ps else p ∷ with_pair k v ps) ≡
    (if b then (p.0, tree_of v) ∷ with_trees ps else (p.0, tree_of p.1) ∷ with_pair k (tree_of v) (with_trees ps))) [
      | true ↦ refl
      | false ↦ ap (λ qs. (p.0, tree_of p.1) ∷ qs) (with_trees-with_pair k v ps)
    ]
