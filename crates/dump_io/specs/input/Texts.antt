-- What the text of a document is, in outline: levels, which are objects and arrays, and strings. from_json checks what else JSON asks of it, as
-- that brackets match.
use Rattle.std.specs.Prelude.{◌≡◌, ◌≢◌, ◌⊎◌, ◌-◌, ◌^◌, ◌≤◌, ◌==◌, ◌||◌, ℕ, List, [], ◌∷◌, ◌++◌, Bool, true, false, length}

-- the white space of JSON: a space, a tab, a line feed, a carriage return
abbrev pub is_space : ℕ → Bool
is_space b = (b == 32) || (b == 10) || (b == 13) || (b == 9)

-- a brace or a bracket that opens
abbrev pub begins_level : ℕ → Bool
begins_level b = (b == 123) || (b == 91)

-- one that closes
abbrev pub ends_level : ℕ → Bool
ends_level b = (b == 125) || (b == 93)

-- a colon or a comma
abbrev pub is_separator : ℕ → Bool
is_separator b = (b == 58) || (b == 44)

-- none of these, and no quote
pub record IsOther (b : ℕ) : Type 0 where
  pub no_space : is_space b ≡ false
  pub no_quote : b ≢ 34
  pub no_begin : begins_level b ≡ false
  pub no_end : ends_level b ≡ false
  pub no_separator : is_separator b ≡ false

-- What is between the quotes of a string: any bytes but a quote and a line feed. After a backslash comes one byte more, which may be a quote.
pub data IsInQuotes : List ℕ → Type 0 where
  no_byte : IsInQuotes []
  plain : (b : ℕ) (rest : List ℕ) → b ≢ 34 → b ≢ 92 → b ≢ 10 → IsInQuotes rest → IsInQuotes (b ∷ rest)
  escaped : (b : ℕ) (rest : List ℕ) → b ≢ 10 → IsInQuotes rest → IsInQuotes (92 ∷ (b ∷ rest))

-- What is between the brackets of a level: white space, strings, levels, colons and commas, and other bytes. A level may only be first in an array,
-- or after a colon or a comma, with white space before it. `may_begin` says whether one may be first here.
pub data IsInLevel : (may_begin : Bool) → List ℕ → Type 0 where
  nothing : (may_begin : Bool) → IsInLevel may_begin []
  space : (may_begin : Bool) (b : ℕ) (rest : List ℕ) → is_space b ≡ true → IsInLevel may_begin rest → IsInLevel may_begin (b ∷ rest)
  string : (may_begin : Bool) (inside rest : List ℕ) → IsInQuotes inside → IsInLevel false rest → IsInLevel may_begin (34 ∷ (inside ++ 34 ∷ rest))
  level : (opener : ℕ) (inside : List ℕ) (closer : ℕ) (rest : List ℕ) → begins_level opener ≡ true → IsInLevel (opener == 91) inside → ends_level closer ≡ true
      → IsInLevel false rest → IsInLevel true (opener ∷ (inside ++ closer ∷ rest))
  separator : (may_begin : Bool) (b : ℕ) (rest : List ℕ) → is_separator b ≡ true → IsInLevel true rest → IsInLevel may_begin (b ∷ rest)
  other : (may_begin : Bool) (b : ℕ) (rest : List ℕ) → IsOther b → IsInLevel false rest → IsInLevel may_begin (b ∷ rest)

-- the text of a document: a brace, what is in its level, and what closes it
pub record IsOneText (t : List ℕ) : Type 0 where
  pub inside : List ℕ
  pub closer : ℕ
  pub spelled : t ≡ 123 ∷ (inside ++ closer ∷ [])
  pub is_inside : IsInLevel false inside
  pub closes : ends_level closer ≡ true

-- with some bytes more it is one
pub record MayGoOn (t : List ℕ) : Type 0 where
  pub more : List ℕ
  pub some : more ≢ []
  pub whole : IsOneText (t ++ more)

-- What is read of s for the text of a document: up to the first byte after which it can't go on. If there is none, it is all of s, or
-- 128 MiB.
pub record IsTextOf (s text : List ℕ) : Type 0 where
  pub rest : List ℕ
  pub front : s ≡ text ++ rest
  pub most : length text ≤ 2 ^ 27
  pub last : (before : List ℕ) (b : ℕ) → text ≡ before ++ b ∷ [] → MayGoOn before
  pub all : MayGoOn text → (rest ≡ []) ⊎ (length text ≡ 2 ^ 27)

-- How many bytes an unfinished text has: all, or all but the last, after which it can't go on.
abbrev pub HasBegun : (text : List ℕ) → ℕ → Type 0
HasBegun text n = (MayGoOn text → n ≡ length text) × (¬ MayGoOn text → n ≡ length text - 1)
