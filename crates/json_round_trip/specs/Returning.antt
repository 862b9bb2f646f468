-- The trees that come back, by kind, after they are printed as Extended JSON in the canonical format and read again.
use Rattle.std.specs.Prelude.{◌≡◌, ◌⊎◌, ℕ, ◌+◌, ◌*◌, ◌^◌, ◌<◌, ◌≤◌, Bool, false, List, from_bits}
use Rattle.std.specs.List.{list_any}
use Rattle.std.specs.Float.{binary64}
use Rattle.std.specs.Float.Ieee.{Float, nan, inf, fin}
use Rattle.std.specs.Int.{w128, to_le_bytes}
use Rattle.bson_model.specs.Leaf.{Leaf, double, decimal128}
use Rattle.bson_model.specs.Proper.{keys_in}
use Rattle.bson_model.specs.Tree.{Tree, Trees, Entries, leaf, array, document, code_with_scope, no_tree, tree_then, no_entry, entry_then}
use Rattle.bson_from_json.specs.DecimalTexts.{sign_bit}
use Rattle.bson_from_json.specs.Meaning.{is_wrapper_key}
use Rattle.bson_from_json.specs.Numbers.{nan_bits}

-- a double with these bits; of those that are no numbers only the default one
abbrev pub DoubleComesBack : ℕ → Float → Type 0
DoubleComesBack bits nan = bits ≡ nan_bits
DoubleComesBack bits (inf negative) = Unit {0}
DoubleComesBack bits (fin negative m e) = Unit {0}

-- The 128 bits of a decimal in its canonical form (IEEE 754-2008, 3.5.2, binary integer decimal). It is a sign, an exponent, which is
-- stored plus 6176, and a coefficient of at most 34 digits; or an infinity with no further bit; or, of those that are no numbers, the one
-- with no other bit.
abbrev pub DecimalBitsComeBack : ℕ → Type 0
DecimalBitsComeBack bits =
    ((negative : Bool) × (bits ≡ sign_bit negative + 0x7800 * 2 ^ 112))
    ⊎ (bits ≡ 0x7C00 * 2 ^ 112)
    ⊎ ((negative : Bool) × (coefficient exponent : ℕ) × (coefficient < 10 ^ 34) × (exponent ≤ 12287) × (bits ≡ sign_bit negative + exponent * 2 ^ 113 + coefficient))

-- the sixteen bytes of a canonical decimal, least significant byte first
abbrev pub DecimalComesBack : List ℕ → Type 0
DecimalComesBack bytes = (bits : ℕ) × DecimalBitsComeBack bits × (bytes ≡ to_le_bytes w128 bits)

-- a value that holds no others
abbrev pub LeafComesBack : Leaf → Type 0
LeafComesBack (double bits) = DoubleComesBack bits (from_bits binary64 bits)
LeafComesBack (decimal128 bytes) = DecimalComesBack bytes
LeafComesBack _ = Unit {0}

-- no key is that of a type wrapper
abbrev pub HasNoWrapperKey : List (List ℕ) → Type 0
HasNoWrapperKey keys = list_any is_wrapper_key keys ≡ false

-- These say of a tree, of the items of an array and of the members of a document that they come back.
abbrev mutual
  -- A value. A document with the key of a wrapper would be read as a wrapper; a scope wouldn't.
  pub ComesBack : Tree → Type 0
  ComesBack (leaf l) = LeafComesBack l
  ComesBack (array ts) = ItemsComeBack ts
  ComesBack (document es) = HasNoWrapperKey (keys_in es) × MembersComeBack es
  ComesBack (code_with_scope code es) = MembersComeBack es

  -- the items of an array
  pub ItemsComeBack : Trees → Type 0
  ItemsComeBack no_tree = Unit {0}
  ItemsComeBack (tree_then t ts) = ComesBack t × ItemsComeBack ts

  -- the values of a document or a scope
  pub MembersComeBack : Entries → Type 0
  MembersComeBack no_entry = Unit {0}
  MembersComeBack (entry_then key t es) = ComesBack t × MembersComeBack es

-- a whole document, which may have any keys
abbrev pub DocumentComesBack : Tree → Type 0
DocumentComesBack (document es) = MembersComeBack es
DocumentComesBack _ = ⊥
