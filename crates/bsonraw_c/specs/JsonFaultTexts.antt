-- What is wrong with a text of JSON, as text. The room is the caller's, before and after.
use Rattle.std.specs.Prelude.{◌≡◌, ◌≢◌, ◌⊎◌, ◌<◌, ◌≤◌, ℕ, List, codes}
use Rattle.bson_from_json.specs.JsonReason.{JsonReason}
use Rattle.bson_from_json.specs.JsonReason.TheVariants as reason
use Rattle.bson_from_json.specs.Reasons.{reason_words}
use Rattle.bson_from_json.specs.Wrapper.{Wrapper}
use Rattle.bsonraw_c.specs.FromJson.{reason_number, wrapper_number}
use Rattle.bsonraw_c.specs.TextRooms.{PutsFront}
use Rattle.bsonraw_c.specs.declared.from_json.JsonReport.{JsonReport}

-- the number is that of the wrapper that a reason names, if it names one
abbrev pub NamesWrapperOf : JsonReason → ℕ → Type 0
NamesWrapperOf (reason.Malformed w) number = wrapper_number w ≡ number
NamesWrapperOf _ number = Unit {0}

-- the numbers of a report say this reason
abbrev pub NamesJsonReason : JsonReport → JsonReason → Type 0
NamesJsonReason report r = (0 < report.reason) × (reason_number r ≡ report.reason) × NamesWrapperOf r report.wrapper

-- no number of a wrapper, though the reason is the lack of one's value
abbrev pub NamesNoWrapper : JsonReport → Type 0
NamesNoWrapper report = (report.reason ≡ 16) × ((w : Wrapper) → wrapper_number w ≢ report.wrapper)

-- The text of a report with any fields: the reason in words; that a wrapper has no value, without saying which; that bytes aren't UTF-8;
-- or that nothing is wrong, of a number that is no reason's.
abbrev pub IsJsonFaultText : JsonReport → List ℕ → Type 0
IsJsonFaultText report text =
    ((r : JsonReason) × NamesJsonReason report r × (text ≡ reason_words r))
    ⊎ (NamesNoWrapper report × (text ≡ codes "no value of its wrapper"))
    ⊎ ((report.reason ≡ 18) × (text ≡ codes "not UTF-8"))
    ⊎ (((report.reason ≡ 0) ⊎ (18 < report.reason)) × (text ≡ codes "no fault"))

-- as much of it as fits is in the room
abbrev pub PutsJsonFault : JsonReport → List ℕ → List ℕ → ℕ → Type 0
PutsJsonFault report before after count = (text : List ℕ) × IsJsonFaultText report text × PutsFront text before after count

-- What the code tells of numbers. No public contract cites what follows.

-- the number is that of no reason with words of its own
abbrev pub IsNoJsonReason : JsonReport → Type 0
IsNoJsonReason report = (report.reason ≡ 0) ⊎ (18 ≤ report.reason)
