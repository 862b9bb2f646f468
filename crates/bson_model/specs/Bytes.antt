-- Lists of bytes.
use Rattle.std.specs.Prelude.{◌≡◌, ◌≢◌, ℕ, ◌<◌, List, length, slice_index, All}

-- each is a number from 0 to 255
abbrev pub AreBytes : List ℕ → Type 0
AreBytes bytes = (i : ℕ) → slice_index bytes i < 256

-- `n` bytes
abbrev pub AreBytesOf : ℕ → List ℕ → Type 0
AreBytesOf n bytes = (length bytes ≡ n) × AreBytes bytes

-- no 0 is among the bytes
abbrev pub NulFree : List ℕ → Type 0
NulFree bytes = All (λ b. b ≢ 0) bytes
