-- Runs of bytes with what they are in words, and the lines that show them.
use Rattle.std.specs.Prelude.{◌≡◌, ◌+◌, ◌-◌, ◌*◌, ◌/◌, ◌%◌, ◌==◌, if◌then◌else◌, ℕ, suc, zero, List, [], ◌∷◌, ◌++◌, Bool, true, false, Option, None, Some, codes, cond, decimal, drop, flat_map, length, nat_lt, replicate, take}
use Rattle.std.specs.Char.{digit_char}
use Rattle.std.specs.Int.{w32, w64, to_be_bytes}
use Rattle.dump_commands.specs.declared.elements.page.Run as code
use Rattle.dump_commands.specs.declared.elements.page.Page.{Page}

-- A run: bytes that are one thing, in a level with this number of others around it; whether reading fails at it; and what it is.
pub record Run : Type 0 where
  pub bytes : List ℕ
  pub depth : ℕ
  pub is_fault : Bool
  pub text : List ℕ

-- bytes that are this
abbrev pub run_of : ℕ → List ℕ → List ℕ → Run
run_of depth bytes text = record { bytes = bytes; depth = depth; is_fault = false; text = text }

-- bytes at which reading fails
abbrev pub fault_run : ℕ → List ℕ → List ℕ → Run
fault_run depth bytes text = record { bytes = bytes; depth = depth; is_fault = true; text = text }

-- A document of this number of bytes, which begins at the offset `base` of its input; and of which this number of first bytes is enough,
-- if not all are shown.
pub record Sheet : Type 0 where
  pub most : Option ℕ
  pub base : ℕ
  pub size : ℕ

-- a byte: two digits
abbrev pub byte_digits : ℕ → List ℕ
byte_digits x = digit_char (x / 16) ∷ digit_char (x % 16) ∷ []

-- an offset: eight digits, or sixteen if it needs more
abbrev pub offset_text : ℕ → List ℕ
offset_text n = flat_map byte_digits (cond (nat_lt n 0x1_0000_0000) (to_be_bytes w32 n) (to_be_bytes w64 n))

-- what is before the digits of a run's first byte: `>` where reading fails, else a space
abbrev pub mark_of : Bool → ℕ
mark_of true = 62
mark_of false = 32

-- bytes with a space before each
abbrev pub spaced : List ℕ → List ℕ
spaced bytes = flat_map (λ x. 32 ∷ byte_digits x) bytes

-- the bytes of a line, with a mark before the first; where there are none, the mark alone
abbrev pub row_text : ℕ → List ℕ → List ℕ
row_text mark [] = mark ∷ []
row_text mark (x ∷ xs) = mark ∷ (byte_digits x ++ spaced xs)

-- what is before the words of a line: two spaces for each level around; of over 20 levels the spaces of 20, and how many there are
abbrev pub indent : ℕ → List ℕ
indent depth = cond (nat_lt 20 depth) (replicate 40 32 ++ codes "level " ++ decimal depth ++ codes ": ") (replicate (2 * depth) 32)

-- the words of a run before which this number of the document's bytes is: where reading fails, that number, too
abbrev pub words_of : ℕ → Run → List ℕ
words_of at run = run.text ++ (if run.is_fault then codes ", byte " ++ decimal at else [])

-- the bytes of a line and, if there are words, these from the same column on
abbrev pub with_words : List ℕ → ℕ → List ℕ → List ℕ
with_words row depth words = row ++ cond (nat_lt 0 (length words)) (replicate (50 - length row) 32 ++ indent depth ++ words) []

-- a line that begins with an offset
abbrev pub line_at : ℕ → List ℕ → List ℕ
line_at offset text = codes "  " ++ offset_text offset ++ codes " " ++ text ++ codes "\n"

-- the first line of a run: its first 16 bytes, and its words
abbrev pub first_line : ℕ → ℕ → Run → List ℕ
first_line offset at run = line_at offset (with_words (row_text (mark_of run.is_fault) (take 16 run.bytes)) run.depth (words_of at run))

-- at most this number of lines, of 16 bytes each
abbrev pub next_lines : ℕ → ℕ → List ℕ → List ℕ
next_lines zero offset bytes = []
next_lines (suc n) offset bytes =
    cond (nat_lt 0 (length bytes)) (line_at offset (row_text 32 (take 16 bytes)) ++ next_lines n (offset + 16) (drop 16 bytes)) []

abbrev pub more_words : ℕ → List ℕ
more_words n = if n == 1 then codes " more byte" else codes " more bytes"

-- a number of bytes that aren't shown
abbrev pub more_text : ℕ → List ℕ
more_text n = codes " ... " ++ decimal n ++ more_words n

-- the line that stands for bytes that aren't shown
abbrev pub more_line : ℕ → List ℕ → List ℕ
more_line offset bytes = cond (nat_lt 0 (length bytes)) (line_at offset (more_text (length bytes))) []

-- the lines of a run after the first, of at most 256 bytes with that, and how many more it has; or of all its bytes
abbrev pub other_lines : Option ℕ → ℕ → List ℕ → List ℕ
other_lines None offset bytes = next_lines (length bytes) (offset + 16) (drop 16 bytes)
other_lines (Some most) offset bytes = next_lines 15 (offset + 16) (drop 16 bytes) ++ more_line (offset + 256) (drop 256 bytes)

-- a run without bytes has no line, unless reading fails there
abbrev pub has_lines : Run → Bool
has_lines run = if run.is_fault then true else nat_lt 0 (length run.bytes)

-- the lines of a run before which this number of the document's bytes is
abbrev pub run_lines : Sheet → ℕ → Run → List ℕ
run_lines sheet at run = cond (has_lines run) (first_line (sheet.base + at) at run ++ other_lines sheet.most (sheet.base + at) run.bytes) []

-- fewer bytes than are enough
abbrev pub is_within : Option ℕ → ℕ → Bool
is_within None at = true
is_within (Some most) at = nat_lt at most

-- a run is shown before which fewer bytes are than are enough; and one without bytes where the document ends
abbrev pub is_shown : Sheet → ℕ → Bool
is_shown sheet at = if at == sheet.size then true else is_within sheet.most at

-- the lines of the first of these runs, which follow one another after `at` bytes of the document, up to one that isn't shown
abbrev pub shown_lines : Sheet → (at : ℕ) → List Run → List ℕ
shown_lines sheet at [] = []
shown_lines sheet at (r ∷ rs) = cond (is_shown sheet at) (run_lines sheet at r ++ shown_lines sheet (at + length r.bytes) rs) []

-- how many of the document's bytes are before the first run that isn't shown, or before what follows these runs
abbrev pub shown_end : Sheet → (at : ℕ) → List Run → ℕ
shown_end sheet at [] = at
shown_end sheet at (r ∷ rs) = cond (is_shown sheet at) (shown_end sheet (at + length r.bytes) rs) at

-- the line that says how many of a document's bytes aren't shown
abbrev pub rest_line : ℕ → ℕ → List ℕ
rest_line offset n = cond (nat_lt 0 n) (line_at offset (more_text n ++ codes ", not looked at here; --whole shows them")) []

-- the lines of a document whose first runs these are, or all
abbrev pub document_lines : Sheet → List Run → List ℕ
document_lines sheet runs = shown_lines sheet 0 runs ++ rest_line (sheet.base + shown_end sheet 0 runs) (sheet.size - shown_end sheet 0 runs)

-- What the code tells of lines. No public contract cites what follows.

-- a run of the code, of which this is said
abbrev pub told_run : code.Run → List ℕ → Run
told_run run text = record { bytes = run.bytes.now; depth = run.depth; is_fault = run.is_fault; text = text }

-- what a page is of
abbrev pub sheet_of : Page → Sheet
sheet_of page = record { most = page.most; base = page.base; size = page.size }

-- the lines of these runs are put after those that are there
pub record Writes (old new : Page) (runs : List Run) : Type 0 where
  pub text : new.text.items ≡ old.text.items ++ shown_lines (sheet_of old) old.at runs
  pub at : new.at ≡ shown_end (sheet_of old) old.at runs
  pub same : sheet_of new ≡ sheet_of old
