-- The meaning of a JSON value as Extended JSON v2, canonical or relaxed. The bytes of texts are UTF-8.
use Rattle.std.specs.Prelude.{◌≡◌, ◌⊎◌, ◌||◌, ℕ, Bool, false, List, [], ◌∷◌, codes}
use Rattle.std.specs.List.{list_any}
use Rattle.std.specs.Str.{bytes_eq}
use Rattle.json.specs.Json.{Json, Items, no_items, item, Members, no_members, member}
use Rattle.json.specs.Json as json
use Rattle.bson_model.specs.Bytes.{NulFree}
use Rattle.bson_model.specs.Leaf.{Leaf, boolean, null, string}
use Rattle.bson_model.specs.Tree.{Tree, Trees, Entries, leaf, array, document, code_with_scope, no_tree, tree_then, no_entry, entry_then}
use Rattle.values_from_json.specs.Numbers.{IsPlain}
use Rattle.values_from_json.specs.Wrapped.{WritesOne}

-- the keys of type wrappers
abbrev pub wrapper_keys : List (List ℕ)
wrapper_keys =
    codes "$oid" ∷ codes "$numberInt" ∷ codes "$numberLong" ∷ codes "$numberDouble" ∷ codes "$numberDecimal" ∷ codes "$binary"
    ∷ codes "$uuid" ∷ codes "$date" ∷ codes "$regularExpression" ∷ codes "$timestamp" ∷ codes "$code" ∷ codes "$scope"
    ∷ codes "$dbPointer" ∷ codes "$symbol" ∷ codes "$undefined" ∷ codes "$minKey" ∷ codes "$maxKey" ∷ []

-- whether this is the key of a wrapper
abbrev pub is_wrapper_key : List ℕ → Bool
is_wrapper_key key = list_any (λ name. bytes_eq name key) wrapper_keys

-- whether an object has a wrapper's key
abbrev pub has_wrapper_key : Members → Bool
has_wrapper_key no_members = false
has_wrapper_key (member key j ms) = is_wrapper_key key || has_wrapper_key ms

-- an object that writes a value, where the value holds no others
abbrev pub WrapsOne : Members → Tree → Type 0
WrapsOne ms t = (l : Leaf) × WritesOne ms l × (t ≡ leaf l)

-- These say what a value, the items of an array and the members of an object mean.
abbrev mutual
  -- The value means this tree. An object without a wrapper's key is a document: so are {"$ref": .., "$id": ..} (a DBRef), {"$regex": ..,
  -- "$options": ..} and {"$type": ..} without "$binary". Any other object has to be a wrapper, with its keys in any order and no others.
  pub Means : Json → Tree → Type 0
  Means json.null t = t ≡ leaf null
  Means (json.boolean b) t = t ≡ leaf (boolean b)
  Means (json.number s) t = (l : Leaf) × IsPlain s l × (t ≡ leaf l)
  Means (json.string s) t = t ≡ leaf (string s)
  Means (json.array js) t = (ts : Trees) × AreItems js ts × (t ≡ array ts)
  Means (json.object ms) t = ((es : Entries) × (has_wrapper_key ms ≡ false) × AreMembers ms es × (t ≡ document es)) ⊎ WrapsOne ms t ⊎ WrapsScope ms t

  -- Array: <array>
  pub AreItems : Items → Trees → Type 0
  AreItems no_items ts = ts ≡ no_tree
  AreItems (item j js) ts = (t : Tree) × (rest : Trees) × Means j t × AreItems js rest × (ts ≡ tree_then t rest)

  -- Document: <document object (with Extended JSON extensions)>: its members in order, even with repeated keys. No key contains U+0000, which
  -- would end it.
  pub AreMembers : Members → Entries → Type 0
  AreMembers no_members es = es ≡ no_entry
  AreMembers (member key j ms) es = (t : Tree) × (rest : Entries) × NulFree key × Means j t × AreMembers ms rest × (es ≡ entry_then key t rest)

  -- the whole text, or a scope: a document, whatever its keys are
  pub IsWhole : Json → Entries → Type 0
  IsWhole (json.object ms) es = AreMembers ms es
  IsWhole _ es = ⊥

  -- Code with scope: {"$code": <string>, "$scope": <document object>}, in either order
  pub WrapsScope : Members → Tree → Type 0
  WrapsScope (member key j (member key' j' no_members)) t =
      ((code : List ℕ) × (es : Entries) × (key ≡ codes "$code") × (key' ≡ codes "$scope") × (j ≡ json.string code) × IsWhole j' es × (t ≡ code_with_scope code es))
      ⊎ ((code : List ℕ) × (es : Entries) × (key ≡ codes "$scope") × (key' ≡ codes "$code") × IsWhole j es × (j' ≡ json.string code) × (t ≡ code_with_scope code es))
  WrapsScope _ t = ⊥
