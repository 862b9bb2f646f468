-- What the code tells of one part of an input of texts. No public contract cites this file.
use Rattle.std.specs.Prelude.{◌≡◌, ◌⊎◌, ◌+◌, ◌≤◌, ℕ, List, [], ◌++◌, true, Option, IfSome, Result, Ok, Err, length, take}
use Rattle.raw_tree.specs.declared.reader.limits.Limits.{Limits}
use Rattle.dump_io.specs.input.Reading.{IsWindow, ahead_of, offset_of}
use Rattle.dump_io.specs.input.Between.{may_begin, turn_after_gap}
use Rattle.dump_io.specs.input.Places.{position_over}
use Rattle.dump_io.specs.input.Scans.{HasBrace, ScansAhead}
use Rattle.dump_io.specs.input.Texts.{HasBegun, IsOneText, MayGoOn}
use Rattle.dump_io.specs.lines.Failing.{IsReading}
use Rattle.dump_io.specs.lines.Fronts.{HasFront}
use Rattle.dump_io.specs.declared.input.turn.Turn.{Turn}
use Rattle.dump_io.specs.declared.lines.failure.Failure.{Failure}
use Rattle.dump_io.specs.declared.lines.style.Style.{Style}
use Rattle.dump_commands.specs.declared.counts.Counts.{Counts}
use Rattle.dump_runs.specs.Limits.{style_at}
use Rattle.dump_runs.specs.Plays.{Event, Held, Played}
use Rattle.dump_runs.specs.texts.Faults.{fault_line}
use Rattle.dump_runs.specs.texts.Reading.{PassesGap}
use Rattle.dump_runs.specs.texts.Run.{AreTexts, EndsTexts, Gives, IsDocument, IsFaultOf, IsFrontOf, IsRefused, IsUnendedFault, Said, StopsTexts, TellsTextFault, TextPart, TextPoint, events_of, events_of_texts, first_point, refused, said, style_of}
use Rattle.dump_runs.specs.declared.ends.Ended.{Ended}
use Rattle.dump_runs.specs.declared.ends.Ended.TheVariants as how
use Rattle.dump_runs.specs.declared.reading.TextJob.{TextJob}
use Rattle.dump_runs.specs.declared.texts.cursor.Cursor.{Cursor}
use Rattle.dump_runs.specs.declared.texts.cursor.NextText.{NextText}
use Rattle.dump_runs.specs.declared.texts.cursor.NextText.TheVariants as next
use Rattle.dump_runs.specs.declared.texts.fault.TextReason.{TextReason}
use Rattle.dump_runs.specs.declared.texts.piece.Fault.{Fault}
use Rattle.dump_runs.specs.declared.texts.piece.Made.{Made}
use Rattle.dump_runs.specs.declared.texts.piece.Made.TheVariants as made
use Rattle.dump_runs.specs.declared.texts.piece.Went.{Went}
use Rattle.dump_runs.specs.declared.texts.piece.Went.TheVariants as went

-- where the next part begins, where the input is read as far as this, and this was counted
abbrev pub point_of : TextJob → List ℕ → Cursor → Counts → TextPoint
point_of job name x n = record { name = name; limits = job.limits; offset = offset_of x.window; place = x.place; turn = x.turn; counts = n }

-- the line of a fault in the bytes ahead, after these counts
abbrev pub line_of : TextJob → List ℕ → Cursor → Counts → Fault → List ℕ
line_of job name x n fault = fault_line (style_at job.style job.limit n) name (position_over x.place (take fault.at (ahead_of x.window))) fault.reason

-- no whole text is at the front of these bytes: `begun` of them are passed as an unfinished text, and after `at` of them is this fault
abbrev pub TellsNoText : Limits → (ahead : List ℕ) → NextText → (begun at : ℕ) → TextReason → Type 0
TellsNoText limits ahead (next.Text found) begun at why =
    (¬ IsOneText (take found.len ahead)) × HasBegun (take found.len ahead) begun × IsUnendedFault limits (take found.len ahead) begun at why
TellsNoText limits ahead (next.Wrong reason) begun at why = (begun ≡ 0) × (at ≡ 0) × (why ≡ reason)
TellsNoText limits ahead next.End begun at why = ⊥

-- what is begun of a text that doesn't come to its end is passed; nothing, where none is there
pub record IsBegun (style : Style) (here : TextPoint) (ahead : List ℕ) (told : NextText) (text line : List ℕ) (behind : Turn) : Type 0 where
  pub unended : MayGoOn text
  pub fault : TellsTextFault style here text line
  pub why : TellsNoText here.limits ahead told (length text) fault.at fault.reason
  pub next : behind ≡ turn_after_gap here.turn

-- what came of the bytes ahead, of which this was told: a document, a text with a fault, or what is no text
abbrev pub Becomes : Style → TextPoint → (ahead : List ℕ) → NextText → Went → (text : List ℕ) → Said → (behind : Turn) → Type 0
Becomes style here ahead told went.Document text (said bytes) behind = IsDocument here text bytes behind
Becomes style here ahead told went.Refused text (refused line) behind = IsRefused style here text line behind
Becomes style here ahead told went.Astray text (refused line) behind = IsBegun style here ahead told text line behind
Becomes style here ahead told what text says behind = ⊥

-- the part that the bytes ahead begin with, of which this was told, after these counts; and what may come after it
pub record PartAhead (job : TextJob) (name : List ℕ) (told : NextText) (x : Cursor) (n : Counts) (what : Went) (behind : Turn) : Type 0 where
  pub text : List ℕ
  pub says : Said
  pub front : HasFront (ahead_of x.window) text
  pub is : Becomes (style_of job (point_of job name x n)) (point_of job name x n) (ahead_of x.window) told what text says behind

-- it is passed
pub record PassesText (job : TextJob) (name : List ℕ) (told : NextText) (x y : Cursor) (old new : Held) (what : Went) : Type 0 where
  pub window : IsWindow y.window
  pub part : PartAhead job name told x old.counts what y.turn
  pub ahead : ahead_of x.window ≡ part.text ++ ahead_of y.window
  pub place : y.place ≡ position_over x.place part.text
  pub offset : offset_of y.window ≡ offset_of x.window + length part.text
  pub played : Played (events_of part.says) old new

-- nothing is played, or a front of what a text gives
abbrev pub HaltsSaid : Said → (old new : Held) → Type 0
HaltsSaid says old new = (es : List Event) × Played es old new × ((es ≡ []) ⊎ IsFrontOf says es)

-- nothing is played of these bytes, or a front of what a part gives that they begin with
abbrev pub HaltsText : TextJob → List ℕ → NextText → Cursor → (old new : Held) → Type 0
HaltsText job name told x old new =
    Played [] old new ⊎ ((what : Went) × (behind : Turn) × (part : PartAhead job name told x old.counts what behind) × HaltsSaid part.says old new)

-- What comes of the part that is ahead, of which this was told: it is passed; or it isn't counted, and nothing is written, or a front of what
-- it gives.
abbrev pub PassesPart : TextJob → List ℕ → NextText → (x y : Cursor) → (old new : Held) → Result Went Failure → Type 0
PassesPart job name told x y old new (Ok what) = PassesText job name told x y old new what
PassesPart job name told x y old new (Err failure) = HaltsText job name told x old new × (¬ IsReading failure)

-- what is next in the bytes ahead, and isn't the end of the input
abbrev pub HasNext : List ℕ → Turn → NextText → Type 0
HasNext ahead t (next.Text found) = (may_begin t ≡ true) × HasBrace ahead × ScansAhead ahead found
HasNext ahead t (next.Wrong reason) = Unit {0}
HasNext ahead t next.End = ⊥

-- what a text makes within limits
abbrev pub IsMadeOf : Limits → List ℕ → Made → Type 0
IsMadeOf limits text (made.Document bytes) = Gives limits text bytes
IsMadeOf limits text (made.Fault at reason) = (at ≤ length text) × IsFaultOf limits text at reason

-- bytes are passed after what was no whole text, and none after another part
abbrev pub PassesBehind : Went → (old new : Option (List ℕ)) → (x y : Cursor) → Type 0
PassesBehind went.Astray old new x y = PassesGap old new x y
PassesBehind _ old new x y = (new ≡ old) × (y ≡ x)

-- reading failed after this number of bytes
abbrev pub FailsAt : ℕ → Ended → Type 0
FailsAt at (how.Failed failure) = failure.at ≡ at
FailsAt at _ = ⊥

-- an input is cut into parts, and what they give was played, and nothing else; it isn't counted yet that reading failed
pub record PassesTexts (job : TextJob) (name : List ℕ) (input left : Option (List ℕ)) (old new : Held) (ended : Ended) : Type 0 where
  pub ps : List TextPart
  pub parts : AreTexts job input (first_point job name old.counts) ps
  pub ends : IfSome input (EndsTexts ended ps left)
  pub stops : StopsTexts ended job.keep_going ps
  pub played : Played (events_of_texts ps) old new
