-- Where things are in the caller's bytes.
use Rattle.std.specs.Prelude.{◌≡◌, ℕ, List, ◌++◌, length}

-- b has these `len` bytes at this offset
pub record StandsAt (b : List ℕ) (offset len : ℕ) (bytes : List ℕ) : Type 0 where
  pub before : List ℕ
  pub behind : List ℕ
  pub whole : b ≡ before ++ (bytes ++ behind)
  pub offset_is : offset ≡ length before
  pub len_is : len ≡ length bytes
