-- What is wrong, as text. The room is the caller's, before and after.
use Rattle.std.specs.Prelude.{◌≡◌, ◌≢◌, ◌⊎◌, ◌<◌, ℕ, List, [], ◌++◌, Option, None, Some, codes, decimal}
use Rattle.raw_bson.specs.Errors.{IsReadingReason}
use Rattle.raw_bson.specs.Reason.{Reason}
use Rattle.raw_bson.specs.Reason.TheVariants as reason
use Rattle.bsonraw_c.specs.Codes.{reason_code}
use Rattle.bsonraw_c.specs.TextRooms.{PutsFront}
use Rattle.bsonraw_c.specs.declared.answers.FaultCode.{FaultCode}

-- the reason whose number this is, if reading has it; else none
abbrev pub NamesReason : ℕ → Option Reason → Type 0
NamesReason number (Some r) = IsReadingReason r × (reason_code r ≡ number)
NamesReason number None = (r : Reason) → IsReadingReason r → reason_code r ≢ number

-- a reason in words
abbrev pub reason_words : Option Reason → List ℕ
reason_words (Some reason.TooShort) = codes "a document of under five bytes"
reason_words (Some reason.LengthIncorrect) = codes "a document's length is wrong"
reason_words (Some reason.NotTerminated) = codes "no final 0"
reason_words (Some reason.Overflowed) = codes "no element and no final 0"
reason_words (Some (reason.InvalidTag tag)) = codes "no kind has this tag"
reason_words (Some (reason.StringHeadShort left)) = codes "a string's length is cut off"
reason_words (Some reason.NegativeLength) = codes "a length is negative"
reason_words (Some reason.StringTooSmall) = codes "a string's length is 0"
reason_words (Some (reason.StringPastEnd len left)) = codes "a string is longer than what is left"
reason_words (Some reason.StringNotTerminated) = codes "a string has no final 0"
reason_words (Some (reason.PastEnd len left)) = codes "a value is longer than what is left"
reason_words (Some (reason.DocumentTooSmall len)) = codes "a nested document's length is under 5"
reason_words (Some reason.NestedNotTerminated) = codes "a nested document has no final 0"
reason_words (Some (reason.LengthHeadShort left)) = codes "a value's length is cut off"
reason_words (Some reason.NoTerminator) = codes "a text has no final 0"
reason_words (Some (reason.BadBoolean byte)) = codes "a boolean is neither 0 nor 1"
reason_words (Some reason.OldNoInner) = codes "an old binary has no inner length"
reason_words (Some reason.AddOverflow) = codes "an old binary's inner length is negative"
reason_words (Some reason.OldWrongInner) = codes "an old binary's inner length is wrong"
reason_words (Some reason.CodeTooSmall) = codes "a code with scope is too short"
reason_words _ = codes "no reason"

-- the numbers of a fault, of which a reason has the first: the tag or the byte at fault, the length, or how many bytes a value has;
-- the second: how many bytes are left; both, or none
abbrev pub numbers_text : Option Reason → (number left : ℕ) → List ℕ
numbers_text (Some (reason.InvalidTag tag)) number left = codes ": " ++ decimal number
numbers_text (Some (reason.BadBoolean byte)) number left = codes ": " ++ decimal number
numbers_text (Some (reason.DocumentTooSmall len)) number left = codes ": " ++ decimal number
numbers_text (Some (reason.StringHeadShort few)) number left = codes ": " ++ decimal left ++ codes " are left"
numbers_text (Some (reason.LengthHeadShort few)) number left = codes ": " ++ decimal left ++ codes " are left"
numbers_text (Some (reason.StringPastEnd len few)) number left = codes ": " ++ decimal number ++ codes " where " ++ decimal left ++ codes " are left"
numbers_text (Some (reason.PastEnd len few)) number left = codes ": " ++ decimal number ++ codes " where " ++ decimal left ++ codes " are left"
numbers_text _ number left = []

-- The text of a fault with any fields: of malformed bytes the reason, and its numbers; of a text that isn't UTF-8 that; of no fault
-- that. Of a kind that is none of these the reason alone.
abbrev pub IsFaultText : FaultCode → List ℕ → Type 0
IsFaultText told text =
    ((told.kind ≡ 0) × (text ≡ codes "no fault"))
    ⊎ ((told.kind ≡ 1) × (r : Option Reason) × NamesReason told.reason r × (text ≡ reason_words r ++ numbers_text r told.number told.left))
    ⊎ ((told.kind ≡ 2) × (text ≡ codes "a text isn't UTF-8"))
    ⊎ ((2 < told.kind) × (r : Option Reason) × NamesReason told.reason r × (text ≡ reason_words r))

-- as much of it as fits is in the room
abbrev pub PutsFault : FaultCode → List ℕ → List ℕ → ℕ → Type 0
PutsFault told before after count = (text : List ℕ) × IsFaultText told text × PutsFront text before after count
