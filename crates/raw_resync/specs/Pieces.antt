-- How bytes are cut into documents, by the lengths at their fronts.
use Rattle.std.specs.Prelude.{◌≡◌, ◌≤◌, ℕ, List, take, length}
use Rattle.std.specs.Int.{w32, from_le_bytes}

-- the length that the first four bytes say, least significant byte first
abbrev pub said_len : List ℕ → ℕ
said_len s = from_le_bytes w32 (take 4 s)

-- a document may have this length: enough for a length and a final 0, and at most the limit
abbrev pub IsSoundLength : (most : ℕ) → ℕ → Type 0
IsSoundLength most len = (5 ≤ len) × (len ≤ most)

-- these bytes have the length that they say, and a document may have it
pub record IsPiece (most : ℕ) (b : List ℕ) : Type 0 where
  pub said : said_len b ≡ length b
  pub sound : IsSoundLength most (length b)
