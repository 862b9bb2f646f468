-- The values of BSON that hold no other values (BSON 1.1, element), whatever holds them in memory.
use Rattle.std.specs.Prelude.{ℕ, ℤ, Bool, List}
use Rattle.bson_model.specs.declared.binaries.BinarySubtype.{BinarySubtype}

-- one constructor for each kind; a double is its 64 bits, a text its UTF-8 bytes
pub data Leaf : Type 0 where
  -- the bits of the number
  double : ℕ → Leaf
  string : List ℕ → Leaf
  binary : BinarySubtype → List ℕ → Leaf
  undefined : Leaf
  -- twelve bytes
  object_id : List ℕ → Leaf
  boolean : Bool → Leaf
  -- milliseconds
  date_time : ℤ → Leaf
  null : Leaf
  -- the pattern, the options
  regular_expression : List ℕ → List ℕ → Leaf
  -- the namespace, the twelve bytes
  db_pointer : List ℕ → List ℕ → Leaf
  javascript_code : List ℕ → Leaf
  symbol : List ℕ → Leaf
  int32 : ℤ → Leaf
  -- the time, the increment
  timestamp : ℕ → ℕ → Leaf
  int64 : ℤ → Leaf
  -- sixteen bytes
  decimal128 : List ℕ → Leaf
  max_key : Leaf
  min_key : Leaf
