-- The document that a text of Extended JSON writes, in the caller's room. The bytes of the text are the caller's, and so is the room,
-- before and after.
use Rattle.std.specs.Prelude.{◌≡◌, ◌⊎◌, ◌+◌, ℕ, ℤ, List, length, take}
use Rattle.std.specs.Str.{IsUtf8, IsValidUpTo}
use Rattle.bson_from_json.specs.Place.{IsLastLine, IsPlaceIn, characters, line_feeds}
use Rattle.bson_from_json.specs.Texts.{IsCause, IsWritten}
use Rattle.bson_from_json.specs.JsonError.{JsonError}
use Rattle.bson_from_json.specs.JsonReason.{JsonReason}
use Rattle.bson_from_json.specs.JsonReason.TheVariants as reason
use Rattle.bson_from_json.specs.Wrapper.{Wrapper}
use Rattle.bson_from_json.specs.Wrapper.TheVariants as wrapper
use Rattle.raw_bson.specs.Limits.{Limits}
use Rattle.raw_bson.specs.Tree.{Tree}
use Rattle.raw_bson.specs.WithinLimits.{ReadsWithin}
use Rattle.bsonraw_c.specs.Forms.{FillsRoom}
use Rattle.bsonraw_c.specs.Iters.{Returns}
use Rattle.bsonraw_c.specs.Reports.{Fits}
use Rattle.bsonraw_c.specs.declared.codes.Status.{Status}
use Rattle.bsonraw_c.specs.declared.codes.Status.TheVariants as status
use Rattle.bsonraw_c.specs.declared.from_json.JsonReport.{JsonReport}

-- the status of a reason
abbrev pub status_of_reason : JsonReason → Status
status_of_reason reason.OutOfMemory = status.NoMemory
status_of_reason reason.TooManyBytes = status.TooManyBytes
status_of_reason reason.TooDeep = status.TooDeep
status_of_reason _ = status.Fault

-- the number of a reason that no status says; these never change, and 18 is that of bytes that aren't UTF-8
abbrev pub reason_number : JsonReason → ℕ
reason_number reason.OutOfMemory = 0
reason_number reason.TooManyBytes = 0
reason_number reason.TooDeep = 0
reason_number reason.EndOfText = 1
reason_number reason.ByteOrderMark = 2
reason_number reason.ExpectedDocument = 3
reason_number reason.ExpectedKey = 4
reason_number reason.ExpectedColon = 5
reason_number reason.ExpectedComma = 6
reason_number reason.ExpectedValue = 7
reason_number reason.TextBehind = 8
reason_number reason.BadNumber = 9
reason_number reason.IntegerTooLarge = 10
reason_number reason.NumberTooLarge = 11
reason_number reason.ControlCharacter = 12
reason_number reason.BadEscape = 13
reason_number reason.LoneSurrogate = 14
reason_number reason.InteriorNul = 15
reason_number (reason.Malformed _) = 16
reason_number reason.InexactDecimal = 17

-- the number of a wrapper
abbrev pub wrapper_number : Wrapper → ℕ
wrapper_number wrapper.Oid = 1
wrapper_number wrapper.NumberInt = 2
wrapper_number wrapper.NumberLong = 3
wrapper_number wrapper.NumberDouble = 4
wrapper_number wrapper.NumberDecimal = 5
wrapper_number wrapper.Binary = 6
wrapper_number wrapper.Uuid = 7
wrapper_number wrapper.Date = 8
wrapper_number wrapper.RegularExpression = 9
wrapper_number wrapper.Timestamp = 10
wrapper_number wrapper.Code = 11
wrapper_number wrapper.Scope = 12
wrapper_number wrapper.DbPointer = 13
wrapper_number wrapper.Symbol = 14
wrapper_number wrapper.Undefined = 15
wrapper_number wrapper.MinKey = 16
wrapper_number wrapper.MaxKey = 17

-- the number of the wrapper that a reason names; else 0
abbrev pub wrapper_of_reason : JsonReason → ℕ
wrapper_of_reason (reason.Malformed w) = wrapper_number w
wrapper_of_reason _ = 0

-- no error is reported, and nothing counted
abbrev pub no_place : JsonReport
no_place = record { count = 0; offset = 0; line = 0; column = 0; reason = 0; wrapper = 0 }

-- an error is reported with its place
abbrev pub report_of : JsonError → JsonReport
report_of error = record {
  count = 0;
  offset = error.offset;
  line = error.line;
  column = error.column;
  reason = reason_number error.reason;
  wrapper = wrapper_of_reason error.reason;
}

-- bytes that aren't UTF-8, at no place yet
abbrev pub not_text : JsonReport
not_text = record no_place { reason = 18 }

-- the number of a place's line, and that of its character in the line, are those of its offset in the text
abbrev pub IsAtPlace : List ℕ → JsonReport → Type 0
IsAtPlace text report =
    (report.line ≡ line_feeds (take report.offset text) + 1) × ((line : List ℕ) × IsLastLine (take report.offset text) line × (report.column ≡ characters line + 1))

-- The document is in the room; or the room is too small for it, and as it was. The document's bytes are counted.
pub record PutsDocument (document before after : List ℕ) (report : JsonReport) (s : Status) : Type 0 where
  pub filled : FillsRoom document before after
  pub report_is : report ≡ record no_place { count = length document }
  pub status_is : Fits (length document) (length before) s

-- The text writes a document within the limits, and its bytes are put.
pub record PutsWritten (limits : Limits) (text before after : List ℕ) (report : JsonReport) (s : Status) : Type 0 where
  pub document : List ℕ
  pub is_written : IsWritten text document
  pub tree : Tree
  pub reads : ReadsWithin limits document tree
  pub puts : PutsDocument document before after report s

-- There is an error at a place of the text, which is reported, with its cause: the text says no document, or none within the limits, or
-- memory ran out. The room is as it was.
pub record ReportsError (limits : Limits) (text before after : List ℕ) (report : JsonReport) (s : Status) : Type 0 where
  pub error : JsonError
  pub place : IsPlaceIn text error
  pub cause : IsCause limits text error.reason
  pub report_is : report ≡ report_of error
  pub status_is : s ≡ status_of_reason error.reason
  pub room_is : after ≡ before

-- what is returned of a text
abbrev pub ReadsIn : Limits → List ℕ → List ℕ → List ℕ → JsonReport → Status → Type 0
ReadsIn limits text before after report s = PutsWritten limits text before after report s ⊎ ReportsError limits text before after report s

-- The bytes aren't UTF-8, which is reported of the first that is part of no character. The room is as it was.
pub record ReportsNoText (bytes before after : List ℕ) (report : JsonReport) (code : ℤ) : Type 0 where
  pub no_text : ¬ IsUtf8 bytes
  pub valid : IsValidUpTo bytes report.offset
  pub place : IsAtPlace bytes report
  pub rest : report ≡ record not_text { offset = report.offset; line = report.line; column = report.column }
  pub status_is : Returns status.Fault code
  pub room_is : after ≡ before

-- the same of any bytes
abbrev pub ReadsText : Limits → List ℕ → List ℕ → List ℕ → JsonReport → ℤ → Type 0
ReadsText limits bytes before after report code =
    (IsUtf8 bytes × (s : Status) × ReadsIn limits bytes before after report s × Returns s code) ⊎ ReportsNoText bytes before after report code
