-- Places in a UTF-8 text: lines, and characters in a line.
use Rattle.std.specs.Prelude.{◌≡◌, ◌⊎◌, ◌+◌, ◌==◌, ℕ, Bool, nat_lt, not, ◌||◌, List, [], ◌∷◌, ◌++◌, take, length, ◌≤◌}
use Rattle.std.specs.List.{count_by}
use Rattle.values_from_json.specs.declared.error.JsonError.{JsonError}

-- whether a byte ends a line
abbrev pub is_line_feed : ℕ → Bool
is_line_feed b = b == 10

-- whether a character begins with a byte
abbrev pub begins_character : ℕ → Bool
begins_character b = nat_lt b 128 || not (nat_lt b 192)

-- the number of line feeds
abbrev pub line_feeds : List ℕ → ℕ
line_feeds b = count_by is_line_feed b

-- the number of characters that begin
abbrev pub characters : List ℕ → ℕ
characters b = count_by begins_character b

-- these bytes are empty or end with a line feed
abbrev pub EndsLine : List ℕ → Type 0
EndsLine b = (b ≡ []) ⊎ ((front : List ℕ) × (b ≡ front ++ 10 ∷ []))

-- after some whole lines, the bytes b end with this line, which is the last
abbrev pub IsLastLine : List ℕ → List ℕ → Type 0
IsLastLine b line = (front : List ℕ) × (b ≡ front ++ line) × EndsLine front × (line_feeds line ≡ 0)

-- the place of an error in a text: its offset, the number of its line, and that of its character in the line
abbrev pub IsPlaceIn : List ℕ → JsonError → Type 0
IsPlaceIn text error =
    (error.offset ≤ length text) × (error.line ≡ line_feeds (take error.offset text) + 1) × ((line : List ℕ) × IsLastLine (take error.offset text) line × (error.column ≡ characters line + 1))
