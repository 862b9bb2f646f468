-- What holds of every part of a tree, and the trees that are the same after they are written and read.
use Rattle.std.specs.Prelude.{ℕ, ◌<◌, ◌^◌, List, [], ◌∷◌, FitsSigned}
use Rattle.std.specs.Int.{w32, w64}
use Rattle.std.specs.List.{IsDistinct}
use Rattle.std.specs.Str.{IsUtf8, bytes_eq}
use Rattle.bson_model.specs.Bytes.{AreBytes, AreBytesOf, NulFree}
use Rattle.bson_model.specs.Leaf.{Leaf, double, string, binary, undefined, object_id, boolean, date_time, null, regular_expression, db_pointer, javascript_code, symbol, int32, timestamp, int64, decimal128, max_key, min_key}
use Rattle.bson_model.specs.Options.{OptionsAscend}
use Rattle.bson_model.specs.Subtype.{subtype_byte, IsProperSubtype}
use Rattle.bson_model.specs.Tree.{Tree, Trees, Entries, leaf, array, document, code_with_scope, no_tree, tree_then, no_entry, entry_then}

-- the keys, in order
abbrev pub keys_in : Entries → List (List ℕ)
keys_in no_entry = []
keys_in (entry_then key t es) = key ∷ keys_in es

-- what holds of the parts of a tree
pub record OfParts : Type 1 where
  -- of each leaf
  pub of_leaf : Leaf → Type 0
  -- of the text of each code with scope
  pub of_code : List ℕ → Type 0
  -- of each key
  pub of_key : List ℕ → Type 0
  -- of the keys of each document and each scope, in order
  pub of_keys : List (List ℕ) → Type 0

-- `holds` is met by each part: of a tree, of each tree of a list, and of each key and tree of a list of pairs
module _ (holds : OfParts) where
  abbrev mutual
    -- of each part of a tree
    pub Everywhere : Tree → Type 0
    Everywhere (leaf l) = holds.of_leaf l
    Everywhere (array ts) = InTrees ts
    Everywhere (document es) = holds.of_keys (keys_in es) × InEntries es
    Everywhere (code_with_scope code es) = holds.of_code code × holds.of_keys (keys_in es) × InEntries es

    -- of each part of each tree of a list
    pub InTrees : Trees → Type 0
    InTrees no_tree = Unit {0}
    InTrees (tree_then t ts) = Everywhere t × InTrees ts

    -- of each key, and of each part of each tree, of a list of pairs
    pub InEntries : Entries → Type 0
    InEntries no_entry = Unit {0}
    InEntries (entry_then key t es) = holds.of_key key × Everywhere t × InEntries es

-- no condition: it holds of every text and every list of keys
abbrev pub Whatever : {X : Type 0} → X → Type 0
Whatever x = Unit {0}

-- the numbers are in the ranges of their types, bytes are bytes, and texts are UTF-8
abbrev pub IsLeafInRange : Leaf → Type 0
IsLeafInRange (double bits) = bits < 2 ^ 64
IsLeafInRange (string text) = IsUtf8 text
IsLeafInRange (binary subtype bytes) = (subtype_byte subtype < 256) × AreBytes bytes
IsLeafInRange undefined = Unit {0}
IsLeafInRange (object_id bytes) = AreBytesOf 12 bytes
IsLeafInRange (boolean b) = Unit {0}
IsLeafInRange (date_time millis) = FitsSigned w64 millis
IsLeafInRange null = Unit {0}
IsLeafInRange (regular_expression pattern options) = IsUtf8 pattern × IsUtf8 options
IsLeafInRange (db_pointer namespace id) = IsUtf8 namespace × AreBytesOf 12 id
IsLeafInRange (javascript_code code) = IsUtf8 code
IsLeafInRange (symbol text) = IsUtf8 text
IsLeafInRange (int32 z) = FitsSigned w32 z
IsLeafInRange (timestamp time increment) = (time < 2 ^ 32) × (increment < 2 ^ 32)
IsLeafInRange (int64 z) = FitsSigned w64 z
IsLeafInRange (decimal128 bytes) = AreBytesOf 16 bytes
IsLeafInRange max_key = Unit {0}
IsLeafInRange min_key = Unit {0}

-- the conditions of a well-formed tree
abbrev pub well_formed_parts : OfParts
well_formed_parts = record { of_leaf = IsLeafInRange; of_code = IsUtf8; of_key = IsUtf8; of_keys = IsDistinct bytes_eq }

-- Each leaf is in range, each code and key is UTF-8, and no key occurs twice in a document or a scope. The tree of
-- every value, document and list is so.
abbrev pub IsWellFormed : Tree → Type 0
IsWellFormed = Everywhere well_formed_parts

-- the pattern and the options of a regular expression contain no 0
abbrev pub IsLeafNulFree : Leaf → Type 0
IsLeafNulFree (regular_expression pattern options) = NulFree pattern × NulFree options
IsLeafNulFree _ = Unit {0}

-- the conditions of a tree without a 0 in its C strings
abbrev pub nul_free_parts : OfParts
nul_free_parts = record { of_leaf = IsLeafNulFree; of_code = Whatever; of_key = NulFree; of_keys = Whatever }

-- no key, pattern or options holds a 0
abbrev pub IsNulFree : Tree → Type 0
IsNulFree = Everywhere nul_free_parts

-- the options of a regular expression ascend, perhaps with repeats
abbrev pub DoLeafOptionsAscend : Leaf → Type 0
DoLeafOptionsAscend (regular_expression pattern options) = OptionsAscend options
DoLeafOptionsAscend _ = Unit {0}

-- the conditions of a tree whose options ascend
abbrev pub ascending_parts : OfParts
ascending_parts = record { of_leaf = DoLeafOptionsAscend; of_code = Whatever; of_key = Whatever; of_keys = Whatever }

-- no options descend
abbrev pub DoOptionsAscend : Tree → Type 0
DoOptionsAscend = Everywhere ascending_parts

-- the subtype of a binary value is the one that its byte gives
abbrev pub IsLeafSubtypeProper : Leaf → Type 0
IsLeafSubtypeProper (binary subtype bytes) = IsProperSubtype subtype
IsLeafSubtypeProper _ = Unit {0}

-- the conditions of a tree whose subtypes are proper
abbrev pub proper_subtype_parts : OfParts
proper_subtype_parts = record { of_leaf = IsLeafSubtypeProper; of_code = Whatever; of_key = Whatever; of_keys = Whatever }

-- each subtype is the one that its byte gives
abbrev pub AreSubtypesProper : Tree → Type 0
AreSubtypesProper = Everywhere proper_subtype_parts

-- a tree that is the same after it is written and read
pub record IsProper (t : Tree) : Type 0 where
  pub well_formed : IsWellFormed t
  pub nul_free : IsNulFree t
  pub options_ascend : DoOptionsAscend t
  pub subtypes_proper : AreSubtypesProper t
