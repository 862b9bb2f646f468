-- Numbers as bytes: least significant byte first, in two's complement. BSON 1.1, basic types.
use Rattle.std.specs.Prelude.{◌≡◌, ◌<◌, ◌^◌, ℕ, List, ℤ, FitsSigned}
use Rattle.std.specs.Int.{w32, w64, to_le_bytes, cast_unsigned}

-- the greatest number of 32 bits with a sign, which is the greatest length that four bytes can say
abbrev pub max_length : ℕ
max_length = 2147483647

-- the four bytes of a number of 32 bits with a sign
abbrev pub le32 : ℤ → List ℕ
le32 z = to_le_bytes w32 (cast_unsigned w32 z)

-- the number fits in 32 bits with a sign, and these are its four bytes
pub record IsLe32 (bytes : List ℕ) (z : ℤ) : Type 0 where
  pub fits : FitsSigned w32 z
  pub bytes_are : bytes ≡ le32 z

-- the eight bytes of a number of 64 bits with a sign
abbrev pub le64 : ℤ → List ℕ
le64 z = to_le_bytes w64 (cast_unsigned w64 z)

-- the number fits in 64 bits with a sign, and these are its eight bytes
pub record IsLe64 (bytes : List ℕ) (z : ℤ) : Type 0 where
  pub fits : FitsSigned w64 z
  pub bytes_are : bytes ≡ le64 z

-- the four bytes of a number of 32 bits without a sign
abbrev pub le_u32 : ℕ → List ℕ
le_u32 n = to_le_bytes w32 n

-- the number fits in 32 bits without a sign, and these are its four bytes
pub record IsUnsigned32 (bytes : List ℕ) (n : ℕ) : Type 0 where
  pub fits : n < 2 ^ 32
  pub bytes_are : bytes ≡ le_u32 n

-- the eight bytes of a number of 64 bits without a sign
abbrev pub le_u64 : ℕ → List ℕ
le_u64 n = to_le_bytes w64 n

-- the number fits in 64 bits without a sign, and these are its eight bytes
pub record IsUnsigned64 (bytes : List ℕ) (n : ℕ) : Type 0 where
  pub fits : n < 2 ^ 64
  pub bytes_are : bytes ≡ le_u64 n
