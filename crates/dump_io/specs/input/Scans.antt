-- How far the text of a document has come, byte by byte. No public contract cites this file.
use Rattle.std.specs.Prelude.{◌≡◌, ◌+◌, ◌-◌, ◌^◌, ◌≤◌, ◌<◌, ◌==◌, ◌&&◌, ℕ, List, ◌∷◌, Bool, true, false, if◌then◌else◌, fold, length, nat_lt, take}
use Rattle.dump_io.specs.input.Texts.{begins_level, ends_level, is_separator, is_space}
use Rattle.dump_io.specs.declared.input.scan.Scan.{Scan}
use Rattle.dump_io.specs.declared.input.scan.Scan.TheVariants as scan
use Rattle.dump_io.specs.declared.input.scan.Scanned.{Scanned}

-- A level begins: at the front, or after a colon, a comma or the bracket of an array. Each takes a byte of the 128 MiB that a text may have.
abbrev pub opened : ℕ → Bool → Bool → Scan
opened depth may_begin is_array = if may_begin && nat_lt depth (2 ^ 27) then scan.Levels (depth + 1) is_array else scan.Torn

-- a level ends; with the first one, the text
abbrev pub closed : ℕ → Scan
closed depth = if nat_lt 1 depth then scan.Levels (depth - 1) false else scan.Whole

-- one byte more outside of strings
abbrev pub in_levels : ℕ → Bool → ℕ → Scan
in_levels depth may_begin b =
    if is_space b then scan.Levels depth may_begin
    else if b == 34 then scan.Text depth
    else if begins_level b then opened depth may_begin (b == 91)
    else if ends_level b then closed depth
    else scan.Levels depth (is_separator b)

-- one byte more in a string, which has no line feed
abbrev pub in_text : ℕ → ℕ → Scan
in_text depth b =
    if b == 34 then scan.Levels depth false
    else if b == 92 then scan.Escape depth
    else if b == 10 then scan.Torn
    else scan.Text depth

-- one byte more
abbrev pub step : Scan → ℕ → Scan
step (scan.Levels depth may_begin) b = in_levels depth may_begin b
step (scan.Text depth) b = in_text depth b
step (scan.Escape depth) b = if b == 10 then scan.Torn else scan.Text depth
step scan.Whole b = scan.Torn
step scan.Torn b = scan.Torn

-- before the first byte of a text
abbrev pub start : Scan
start = scan.Levels 0 true

-- how far these bytes come
abbrev pub scanned : List ℕ → Scan
scanned t = fold step start t

-- the text begins with a brace
abbrev pub HasBrace : List ℕ → Type 0
HasBrace t = (rest : List ℕ) × (t ≡ 123 ∷ rest)

-- the text may go on
abbrev pub IsOpen : Scan → Type 0
IsOpen (scan.Levels depth may_begin) = Unit {0}
IsOpen (scan.Text depth) = Unit {0}
IsOpen (scan.Escape depth) = Unit {0}
IsOpen scan.Whole = ⊥
IsOpen scan.Torn = ⊥

-- how many bytes are begun of a text, where it isn't whole: all, or all but the last, after which it can't go on
abbrev pub ScansBegun : (text : List ℕ) → ℕ → Type 0
ScansBegun text n = (IsOpen (scanned text) → n ≡ length text) × (¬ IsOpen (scanned text) → n ≡ length text - 1)

-- how far the text ahead comes: before the last of these bytes it could go on
pub record ScansAhead (ahead : List ℕ) (found : Scanned) : Type 0 where
  pub within : found.len ≤ length ahead
  pub most : found.len ≤ 2 ^ 27
  pub scan : found.scan ≡ scanned (take found.len ahead)
  pub last : ¬ IsOpen found.scan → (0 < found.len) × IsOpen (scanned (take (found.len - 1) ahead))
