-- What a run over an input of texts reads, writes and counts.
use Rattle.std.specs.Prelude.{◌≡◌, ◌≢◌, ◌⊎◌, ◌+◌, ◌^◌, ◌≤◌, ◌<◌, ℕ, List, [], ◌∷◌, ◌++◌, Bool, true, false, Option, Some, IfSome, drop, flat_map, fold, length, min, take}
use Rattle.std.specs.Io.KnownBytes.{Consumes, IsAtEnd}
use Rattle.std.specs.Str.{IsUtf8, IsValidUpTo}
use Rattle.bson_model.specs.Tree.{Tree}
use Rattle.raw_tree.specs.WithinLimits.{ReadsWithin}
use Rattle.raw_tree.specs.declared.reader.limits.Limits.{Limits}
use Rattle.bson_from_json.specs.Texts.{IsCause, IsWritten, SaysNone}
use Rattle.bson_from_json.specs.JsonReason.TheVariants as json
use Rattle.dump_io.specs.input.Between.{CantBe, IsBetween, may_begin, may_end, turn_after_document, turn_after_gap}
use Rattle.dump_io.specs.input.Places.{EndsGap, HasNoLine, first_position, position_over}
use Rattle.dump_io.specs.input.Texts.{HasBegun, IsOneText, IsTextOf, MayGoOn}
use Rattle.dump_io.specs.lines.Fronts.{HasFront}
use Rattle.dump_io.specs.declared.input.position.Position.{Position}
use Rattle.dump_io.specs.declared.input.turn.Turn.{Turn}
use Rattle.dump_io.specs.declared.input.turn.Turn.TheVariants as turns
use Rattle.dump_io.specs.declared.lines.style.Style.{Style}
use Rattle.dump_commands.specs.Counting.{count_fault, count_left, count_said}
use Rattle.dump_commands.specs.declared.counts.Counts.{Counts}
use Rattle.dump_runs.specs.Limits.{style_at}
use Rattle.dump_runs.specs.Plays.{Event, Held, Played, count_event, counted, given, reported}
use Rattle.dump_runs.specs.texts.Faults.{fault_line, reason_between}
use Rattle.dump_runs.specs.declared.ends.Ended.{Ended}
use Rattle.dump_runs.specs.declared.ends.Ended.TheVariants as how
use Rattle.dump_runs.specs.declared.reading.TextJob.{TextJob}
use Rattle.dump_runs.specs.declared.texts.fault.TextReason.{TextReason}
use Rattle.dump_runs.specs.declared.texts.fault.TextReason.TheVariants as reason

-- what a text says: the bytes of a document; or none, and this is the line of its fault
pub data Said : Type 0 where
  said : List ℕ → Said
  refused : List ℕ → Said

-- A part of an input: what is between documents; the text of one, or what is passed in its place; what that says; and what may come after it.
pub record TextPart : Type 0 where
  pub front : List ℕ
  pub text : List ℕ
  pub says : Said
  pub behind : Turn

abbrev pub bytes_of : TextPart → List ℕ
bytes_of p = p.front ++ p.text

abbrev pub bytes_of_texts : List TextPart → List ℕ
bytes_of_texts ps = flat_map bytes_of ps

-- what a text gives: its document is written, or the line of its fault, and it is counted
abbrev pub events_of : Said → List Event
events_of (said bytes) = given bytes ∷ counted (λ n. count_said n (length bytes)) ∷ []
events_of (refused line) = reported line ∷ counted count_fault ∷ []

-- a front of that, before it is counted
abbrev pub IsFrontOf : Said → List Event → Type 0
IsFrontOf (said bytes) es = (front : List ℕ) × HasFront bytes front × (es ≡ given front ∷ [])
IsFrontOf (refused line) es = (front : List ℕ) × HasFront line front × (es ≡ reported front ∷ [])

-- what parts give, in their order
abbrev pub events_of_texts : List TextPart → List Event
events_of_texts ps = flat_map (λ p. events_of p.says) ps

-- where a part of an input begins: the input's name, what a document may cost, the offset, the line and the column, what may come there, and what was
-- counted before it
pub record TextPoint : Type 0 where
  pub name : List ℕ
  pub limits : Limits
  pub offset : ℕ
  pub place : Position
  pub turn : Turn
  pub counts : Counts

-- the first part of an input begins here
abbrev pub first_point : TextJob → List ℕ → Counts → TextPoint
first_point job name n = record { name = name; limits = job.limits; offset = 0; place = first_position; turn = turns.First; counts = n }

-- these bytes are passed, and this may come then
abbrev pub passed_to : TextPoint → List ℕ → Turn → TextPoint
passed_to here bytes t = record here { offset = here.offset + length bytes; place = position_over here.place bytes; turn = t }

-- where the next part begins after one that begins here
abbrev pub after : TextPoint → TextPart → TextPoint
after here p = record {
  name = here.name;
  limits = here.limits;
  offset = here.offset + length (bytes_of p);
  place = position_over here.place (bytes_of p);
  turn = p.behind;
  counts = fold count_event here.counts (events_of p.says);
}

-- where the next part begins after these
abbrev pub after_all : TextPoint → List TextPart → TextPoint
after_all here ps = fold after here ps

-- how a fault is told that is found here
abbrev pub style_of : TextJob → TextPoint → Style
style_of job here = style_at job.style job.limit here.counts

-- the text says this document, which is read within these limits
abbrev pub Gives : Limits → List ℕ → List ℕ → Type 0
Gives limits text bytes = IsWritten text bytes × ((t : Tree) × ReadsWithin limits bytes t)

-- the text of a document, where one may come
pub record IsWholeText (t : Turn) (text : List ℕ) : Type 0 where
  pub may_be : may_begin t ≡ true
  pub whole : IsOneText text
  pub most : length text ≤ 2 ^ 27

-- the whole text says this document
pub record IsDocument (here : TextPoint) (text bytes : List ℕ) (behind : Turn) : Type 0 where
  pub is_text : IsWholeText here.turn text
  pub is_written : Gives here.limits text bytes
  pub next : behind ≡ turn_after_document here.turn

-- this is the line of a fault in a text that begins here, and this number of its bytes are before the fault
pub record TellsTextFault (style : Style) (here : TextPoint) (text line : List ℕ) : Type 0 where
  pub at : ℕ
  pub within : at ≤ length text
  pub reason : TextReason
  pub told : line ≡ fault_line style here.name (position_over here.place (take at text)) reason

-- Why a text isn't read that has a fault after its first bytes, which are this many: from there on it isn't UTF-8; or it is UTF-8, and says no document, or none
-- within the limit that the reason names. Which of these reasons it is, and where, is what from_json says of it.
abbrev pub IsFaultOf : Limits → List ℕ → ℕ → TextReason → Type 0
IsFaultOf limits text at reason.NotUtf8 = IsValidUpTo text at
IsFaultOf limits text at (reason.Json why) = IsUtf8 text × (why ≢ json.OutOfMemory) × IsCause limits text why

-- the whole text has a fault
pub record IsRefused (style : Style) (here : TextPoint) (text line : List ℕ) (behind : Turn) : Type 0 where
  pub is_text : IsWholeText here.turn text
  pub fault : TellsTextFault style here text line
  pub why : IsFaultOf here.limits text fault.at fault.reason
  pub next : behind ≡ turn_after_document here.turn

-- What is wrong with a text that doesn't come to its end, of which `text` was read, and `begun` bytes are passed: 128 MiB were read, which is
-- too many; or what was read has a fault. A fault after the bytes that are passed is told at their end.
abbrev pub IsUnendedFault : Limits → (text : List ℕ) → (begun at : ℕ) → TextReason → Type 0
IsUnendedFault limits text begun at why =
    ((length text ≡ 2 ^ 27) × (at ≡ 0) × (why ≡ reason.Json json.TooManyBytes))
    ⊎ ((length text < 2 ^ 27) × ((place : ℕ) × IsFaultOf limits text place why × (at ≡ min place begun)))

-- The text of a document at the front of s doesn't come to its end, and says no document. Its first `begun` bytes are passed as an unfinished
-- text (`HasBegun`), and after `at` of them it has this fault.
abbrev pub IsUnended : Limits → (s : List ℕ) → (begun at : ℕ) → TextReason → Type 0
IsUnended limits s begun at why =
    (text : List ℕ) × IsTextOf s text × (¬ IsOneText text) × SaysNone text × HasBegun text begun × IsUnendedFault limits text begun at why

-- Why no whole text begins here, at the front of s: the input ends where it may not; a byte can't be there; or a text doesn't come to its
-- end. `begun` of its bytes are passed as an unfinished text, and the fault comes after `at` of them.
abbrev pub HasNoText : TextPoint → (s : List ℕ) → (begun at : ℕ) → TextReason → Type 0
HasNoText here [] begun at why = (may_end here.turn ≡ false) × (begun ≡ 0) × (at ≡ 0) × (why ≡ reason.Json json.EndOfText)
HasNoText here (b ∷ bs) begun at why =
    (CantBe here.turn b × (begun ≡ 0) × (at ≡ 0) × (why ≡ reason.Json (reason_between here.turn)))
    ⊎ ((b ≡ 123) × (may_begin here.turn ≡ true) × IsUnended here.limits (b ∷ bs) begun at why)

-- No text of a document is here in an input, of which these bytes are known, or one that doesn't come to its end. What there is of it is
-- passed, and the bytes after it up to the next line that begins with a brace, or to the end of the input.
pub record MeetsNoText (style : Style) (input : Option (List ℕ)) (here : TextPoint) (text line : List ℕ) (behind : Turn) : Type 0 where
  pub begun : List ℕ
  pub gap : List ℕ
  pub parts : text ≡ begun ++ gap
  pub unended : MayGoOn begun
  pub no_line : HasNoLine (position_over here.place begun) gap
  pub fault : TellsTextFault style here begun line
  pub why : IfSome input (λ s. HasNoText here (drop here.offset s) (length begun) fault.at fault.reason)
  pub next : (behind ≡ turn_after_gap here.turn) ⊎ (behind ≡ turns.Last)
  pub ends : IfSome input (λ s. EndsGap (position_over here.place text) (turn_after_gap here.turn) (drop (here.offset + length text) s) behind)

-- what a text says that begins here, or what is passed in its place, and what may come after it
abbrev pub IsSaid : Style → (input : Option (List ℕ)) → TextPoint → (text : List ℕ) → Said → (behind : Turn) → Type 0
IsSaid style input here text (said bytes) behind = IsDocument here text bytes behind
IsSaid style input here text (refused line) behind = IsRefused style here text line behind ⊎ MeetsNoText style input here text line behind

-- what is so of a part that begins here
pub record IsTextPart (job : TextJob) (input : Option (List ℕ)) (here : TextPoint) (p : TextPart) : Type 0 where
  pub between : Turn
  pub fronts : IsBetween here.turn p.front between
  pub is : IsSaid (style_of job here) input (passed_to here p.front between) p.text p.says p.behind

-- a run goes on after this: it is a document, or that is asked for
abbrev pub GoesOn : (keep_going : Bool) → Said → Type 0
GoesOn keep_going (said bytes) = Unit {0}
GoesOn keep_going (refused line) = keep_going ≡ true

-- parts one after the other, the first of which begins here; a run goes on after all but the last
abbrev pub AreTexts : TextJob → (input : Option (List ℕ)) → TextPoint → List TextPart → Type 0
AreTexts job input here [] = Unit {0}
AreTexts job input here (p ∷ ps) = IsTextPart job input here p × ((ps ≡ []) ⊎ GoesOn job.keep_going p.says) × AreTexts job input (after here p) ps

-- what may come after these parts, where this may come before them
abbrev pub turn_after : Turn → List TextPart → Turn
turn_after t [] = t
turn_after t (p ∷ ps) = turn_after p.behind ps

-- How a run over these parts ends, where the input is known to be s, and the reader has this left: after them is only what may be between
-- documents, and the input may end there, and is read; a fault is the last part; or reading failed, after this number of bytes.
abbrev pub EndsTexts : Ended → List TextPart → (left : Option (List ℕ)) → List ℕ → Type 0
EndsTexts how.Whole ps left s =
    (behind : List ℕ) × (last : Turn) × (s ≡ bytes_of_texts ps ++ behind) × IsBetween (turn_after turns.First ps) behind last × (may_end last ≡ true) × IsAtEnd left
EndsTexts how.Cut ps left s = HasFront s (bytes_of_texts ps)
EndsTexts (how.Failed failure) ps left s = HasFront s (bytes_of_texts ps) × ((read : List ℕ) × Consumes (Some s) left read × (failure.at ≡ length read))

abbrev pub IsFault : Said → Type 0
IsFault (said bytes) = ⊥
IsFault (refused line) = Unit {0}

-- a run is cut off where the last part has a fault, and it isn't asked to go on; else it would go on after the last part
abbrev pub StopsTexts : Ended → (keep_going : Bool) → List TextPart → Type 0
StopsTexts how.Cut keep_going ps = (keep_going ≡ false) × ((before : List TextPart) × (p : TextPart) × (ps ≡ before ++ p ∷ []) × IsFault p.says)
StopsTexts _ keep_going ps = (before : List TextPart) (p : TextPart) → ps ≡ before ++ p ∷ [] → GoesOn keep_going p.says

-- where reading fails, the input is counted as one that isn't read to its end
abbrev pub last_events : Ended → List Event
last_events (how.Failed failure) = counted (λ n. count_left n 0) ∷ []
last_events _ = []

-- How a run over an input ends, of which these bytes are known: it was cut into parts, and what they give was played, and nothing else.
pub record ReadsTexts (job : TextJob) (name : List ℕ) (input : Option (List ℕ)) (old new : Held) (ended : Ended) : Type 0 where
  pub ps : List TextPart
  pub parts : AreTexts job input (first_point job name old.counts) ps
  pub left : Option (List ℕ)
  pub ends : IfSome input (EndsTexts ended ps left)
  pub stops : StopsTexts ended job.keep_going ps
  pub played : Played (events_of_texts ps ++ last_events ended) old new

-- of what comes after these parts nothing is played, or a front of what one more gives
abbrev pub IsNextTextFront : TextJob → (input : Option (List ℕ)) → TextPoint → List TextPart → List Event → Type 0
IsNextTextFront job input first ps es =
    (es ≡ [])
    ⊎ ((p : TextPart) × AreTexts job input first (ps ++ p ∷ []) × IfSome input (λ s. HasFront s (bytes_of_texts (ps ++ p ∷ []))) × IsFrontOf p.says es)

-- How a run over an input fails. The input begins with these parts. What they give was played, and then a front of what is next.
pub record HaltsTexts (job : TextJob) (name : List ℕ) (input : Option (List ℕ)) (old new : Held) : Type 0 where
  pub ps : List TextPart
  pub parts : AreTexts job input (first_point job name old.counts) ps
  pub in_front : IfSome input (λ s. HasFront s (bytes_of_texts ps))
  pub es : List Event
  pub next : IsNextTextFront job input (first_point job name old.counts) ps es
  pub played : Played (events_of_texts ps ++ es) old new
