-- What is printed of a value that holds no others, as a JSON value. No public contract cites this file.
use Rattle.std.specs.Prelude.{◌≡◌, List, ℕ}
use Rattle.json.specs.Json.{Json}
use Rattle.json.specs.Print.{print}
use Rattle.json.specs.Tree.{json_tokens, HasNumbers}
use Rattle.bson_model.specs.Leaf.{Leaf}
use Rattle.bson_model.specs.Proper.{IsLeafInRange, IsLeafNulFree, DoLeafOptionsAscend, IsLeafSubtypeProper}
use Rattle.bson_model.specs.Tree.{Tree, leaf}
use Rattle.bson_to_json.specs.Leaves.{IsLeafJson}
use Rattle.bson_to_json.specs.declared.style.Format.TheVariants.{Canonical}
use Rattle.bson_from_json.specs.Meaning.{Means}
use Rattle.json_round_trip.specs.Returning.{LeafComesBack}

-- the text is that of this JSON value, without spaces, and the value means the leaf and no other tree
pub record IsPrintedAs (l : Leaf) (text : List ℕ) (j : Json) : Type 0 where
  pub text_is : text ≡ print (json_tokens j)
  pub numbers : HasNumbers j
  pub says : Means j (leaf l)
  pub only : (t : Tree) → Means j t → t ≡ leaf l

-- the leaf is one of a proper tree, and comes back
pub record IsReturningLeaf (l : Leaf) : Type 0 where
  pub in_range : IsLeafInRange l
  pub nul_free : IsLeafNulFree l
  pub options_ascend : DoLeafOptionsAscend l
  pub subtype_proper : IsLeafSubtypeProper l
  pub comes_back : LeafComesBack l

-- if the leaf comes back, every text of it in the canonical format is that of a JSON value
abbrev pub LeafIsPrinted : Leaf → Type 0
LeafIsPrinted l = IsReturningLeaf l → (text : List ℕ) → IsLeafJson Canonical l text → (j : Json) × IsPrintedAs l text j
