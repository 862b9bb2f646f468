-- What reading an input of texts gives, where some of it is read ahead. No public contract cites this file.
use Rattle.std.specs.Prelude.{◌≡◌, ◌⊎◌, ◌+◌, ◌^◌, ◌≤◌, ◌<◌, ℕ, List, [], ◌∷◌, ◌++◌, Bool, true, false, Option, None, Some, IfSome, drop, length, take}
use Rattle.std.specs.Io.KnownBytes.{Consumes, IsAtEnd}
use Rattle.dump_io.specs.input.Reading.{IsWindow, ReadsAhead, ahead_of, offset_of}
use Rattle.bson_from_json.specs.JsonReason.TheVariants as json
use Rattle.dump_io.specs.input.Between.{CantBe, IsBetween, TurnsTo, may_begin, may_end}
use Rattle.dump_io.specs.input.Places.{HasNoLine, begins_line, position_over}
use Rattle.dump_io.specs.input.Scans.{HasBrace, IsOpen, ScansAhead}
use Rattle.dump_runs.specs.texts.Faults.{reason_between}
use Rattle.dump_runs.specs.declared.texts.cursor.Cursor.{Cursor}
use Rattle.dump_runs.specs.declared.texts.cursor.NextText.{NextText}
use Rattle.dump_runs.specs.declared.texts.cursor.NextText.TheVariants as next
use Rattle.dump_io.specs.declared.input.scan.Scanned.{Scanned}
use Rattle.dump_runs.specs.declared.texts.fault.TextReason.{TextReason}
use Rattle.dump_runs.specs.declared.texts.fault.TextReason.TheVariants as reason
use Rattle.dump_io.specs.declared.input.turn.Turn.{Turn}
use Rattle.dump_io.specs.declared.input.turn.Turn.TheVariants as turn

-- bytes were read, and none passed
pub record LooksOn (old new : Option (List ℕ)) (cursor_old cursor_new : Cursor) : Type 0 where
  pub window : IsWindow cursor_new.window
  pub place : cursor_new.place ≡ cursor_old.place
  pub turn : cursor_new.turn ≡ cursor_old.turn
  pub offset : offset_of cursor_new.window ≡ offset_of cursor_old.window
  pub looks : ReadsAhead old new (ahead_of cursor_old.window) (ahead_of cursor_new.window)

-- so it is, and as many bytes are ahead as are wanted; or fewer, and the input is at its end
pub record LooksFar (old new : Option (List ℕ)) (cursor_old cursor_new : Cursor) (want : ℕ) (is_there : Bool) : Type 0 where
  pub on : LooksOn old new cursor_old cursor_new
  pub there : is_there ≡ true → want ≤ length (ahead_of cursor_new.window)
  pub ends : is_there ≡ false → (length (ahead_of cursor_new.window) < want) × IsAtEnd new

-- the byte that is ahead; none at the end of the input
abbrev pub IsAhead : Option (List ℕ) → Cursor → Option ℕ → Type 0
IsAhead new cursor None = (ahead_of cursor.window ≡ []) × IsAtEnd new
IsAhead new cursor (Some b) = (rest : List ℕ) × (ahead_of cursor.window ≡ b ∷ rest)

-- these bytes were passed, and others read
pub record Advances (old new : Option (List ℕ)) (cursor_old cursor_new : Cursor) (bytes : List ℕ) : Type 0 where
  pub window : IsWindow cursor_new.window
  pub place : cursor_new.place ≡ position_over cursor_old.place bytes
  pub offset : offset_of cursor_new.window ≡ offset_of cursor_old.window + length bytes
  pub is_read : (before : Option (List ℕ)) → Consumes before old (ahead_of cursor_old.window) → Consumes before new (bytes ++ ahead_of cursor_new.window)

-- some bytes were passed, and others read
abbrev pub GoesOnTo : (old new : Option (List ℕ)) → (cursor_old cursor_new : Cursor) → Type 0
GoesOnTo old new cursor_old cursor_new = (bytes : List ℕ) × Advances old new cursor_old cursor_new bytes

-- this number of the bytes ahead were passed
abbrev pub PassesAhead : (cursor_old cursor_new : Cursor) → ℕ → Type 0
PassesAhead cursor_old cursor_new count =
    IsWindow cursor_new.window × (ahead_of cursor_new.window ≡ drop count (ahead_of cursor_old.window))
    × (cursor_new.place ≡ position_over cursor_old.place (take count (ahead_of cursor_old.window))) × (offset_of cursor_new.window ≡ offset_of cursor_old.window + count)
    × (cursor_new.turn ≡ cursor_old.turn)

-- what may be between documents was passed, up to a byte that can't be there
pub record PassesBetween (old new : Option (List ℕ)) (cursor_old cursor_new : Cursor) (behind : Option ℕ) : Type 0 where
  pub front : List ℕ
  pub advances : Advances old new cursor_old cursor_new front
  pub turns : IsBetween cursor_old.turn front cursor_new.turn
  pub is : IsAhead new cursor_new behind
  pub stops : IfSome behind (λ b. TurnsTo cursor_new.turn b None)

-- bytes were passed in which no line begins with a brace, up to such a line, or to the end of the input
pub record PassesGap (old new : Option (List ℕ)) (cursor_old cursor_new : Cursor) : Type 0 where
  pub gap : List ℕ
  pub advances : Advances old new cursor_old cursor_new gap
  pub none : HasNoLine cursor_old.place gap
  pub ends :
      ((cursor_new.turn ≡ cursor_old.turn) × ((b : ℕ) × IsAhead new cursor_new (Some b) × (begins_line cursor_new.place b ≡ true)))
      ⊎ ((cursor_new.turn ≡ turn.Last) × IsAhead new cursor_new None)

-- and where it could go on, the input is at its end, or the text has 128 MiB
abbrev pub IsScanned : Option (List ℕ) → List ℕ → Scanned → Type 0
IsScanned new ahead found = ScansAhead ahead found × (IsOpen found.scan → ((found.len ≡ length ahead) × IsAtEnd new) ⊎ (found.len ≡ 2 ^ 27))

-- no document is there: another byte is, or the end of the input
abbrev pub IsWrong : Option (List ℕ) → List ℕ → Turn → TextReason → Type 0
IsWrong new ahead t why =
    ((b : ℕ) × (rest : List ℕ) × (ahead ≡ b ∷ rest) × CantBe t b × (why ≡ reason.Json (reason_between t)))
    ⊎ ((ahead ≡ []) × IsAtEnd new × (may_end t ≡ false) × (why ≡ reason.Json json.EndOfText))

-- what is next in the bytes ahead
abbrev pub IsNextText : Option (List ℕ) → List ℕ → Turn → NextText → Type 0
IsNextText new ahead t (next.Text found) = (may_begin t ≡ true) × HasBrace ahead × IsScanned new ahead found
IsNextText new ahead t (next.Wrong why) = IsWrong new ahead t why
IsNextText new ahead t next.End = (may_end t ≡ true) × (ahead ≡ []) × IsAtEnd new

-- what may be between documents was passed, and it is known what is next
pub record FindsText (old new : Option (List ℕ)) (cursor_old cursor_new : Cursor) (told : NextText) : Type 0 where
  pub front : List ℕ
  pub advances : Advances old new cursor_old cursor_new front
  pub turns : IsBetween cursor_old.turn front cursor_new.turn
  pub is : IsNextText new (ahead_of cursor_new.window) cursor_new.turn told
