-- Places in an input of text: a line feed ends a line, and columns count characters.
use Rattle.std.specs.Prelude.{◌≡◌, ◌⊎◌, ◌+◌, ◌^◌, ◌≤◌, ◌==◌, ◌&&◌, ◌||◌, ℕ, List, [], ◌∷◌, ◌++◌, Bool, true, false, if◌then◌else◌, count_by, nat_lt, not}
use Rattle.std.specs.List.{list_any}
use Rattle.dump_io.specs.declared.input.position.Position.{Position}
use Rattle.dump_io.specs.declared.input.turn.Turn.{Turn}
use Rattle.dump_io.specs.declared.input.turn.Turn.TheVariants as turn

abbrev pub ends_line : ℕ → Bool
ends_line b = b == 10

-- whether a character begins with a byte
abbrev pub begins_character : ℕ → Bool
begins_character b = nat_lt b 128 || not (nat_lt b 192)

-- the bytes after the last line feed; all, if there is none
abbrev pub last_line : List ℕ → List ℕ
last_line [] = []
last_line (b ∷ bs) = if list_any ends_line (b ∷ bs) then last_line bs else b ∷ bs

-- The place after these bytes, of which the first is at p. A line begins with column 1.
unfoldable pub position_over : Position → List ℕ → Position
position_over p bytes = record {
  line = p.line + count_by ends_line bytes;
  column = (if list_any ends_line bytes then 1 else p.column) + count_by begins_character (last_line bytes);
}

-- its line or its column could be over 64 bits after this number of bytes
abbrev pub IsFar : Position → ℕ → Type 0
IsFar p count = (2 ^ 64 ≤ p.line + count) ⊎ (2 ^ 64 ≤ p.column + count)

-- the place of the first byte of an input
abbrev pub first_position : Position
first_position = record { line = 1; column = 1 }

-- a byte is the brace with which a line begins
abbrev pub begins_line : Position → ℕ → Bool
begins_line p b = (p.column == 1) && (b == 123)

-- none of these bytes, of which the first is at this place, is the brace with which a line begins
abbrev pub HasNoLine : Position → List ℕ → Type 0
HasNoLine p bytes = (before : List ℕ) (b : ℕ) (rest : List ℕ) → bytes ≡ before ++ b ∷ rest → begins_line (position_over p before) b ≡ false

-- What is after bytes that are passed over, where this comes after them: the end of the input, or a line that begins with a brace.
abbrev pub EndsGap : Position → (after_gap : Turn) → List ℕ → Turn → Type 0
EndsGap p after_gap [] t = t ≡ turn.Last
EndsGap p after_gap (b ∷ bs) t = (begins_line p b ≡ true) × (t ≡ after_gap)
