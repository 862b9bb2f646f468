-- What is found in the bytes of one document within limits, and what is told of it.
use Rattle.std.specs.Prelude.{◌≡◌, ◌⊎◌, ◌++◌, ◌∷◌, ℕ, List, [], Option, None, Some, codes, decimal}
use Rattle.std.specs.Option.{option_map}
use Rattle.bson_model.specs.Tree.{Tree}
use Rattle.raw_view.specs.Frame.Envelope.{IsEnvelope, Refuses}
use Rattle.raw_view.specs.Errors.{IsReadingKind, SaysFault}
use Rattle.raw_view.specs.declared.error.ErrorKind.{ErrorKind}
use Rattle.raw_view.specs.declared.error.ErrorKind.TheVariants as kind
use Rattle.raw_view.specs.declared.error.Reason.{Reason}
use Rattle.raw_view.specs.declared.error.Reason.TheVariants as reason
use Rattle.raw_tree.specs.Breaches.{cause_text}
use Rattle.raw_tree.specs.WithinLimits.{Barrier, too_many_bytes, too_deep, fault_of, ReadsWithin}
use Rattle.raw_tree.specs.declared.reader.limits.Limits.{Limits}
use Rattle.raw_tree.specs.Barriers.{steps_of}
use Rattle.raw_tree.specs.Places.{Step, FirstBarrierAt}
use Rattle.raw_tree.specs.declared.walk.place.Place.{Place}
use Rattle.raw_tree.specs.Violations.{Violation, breach_of, FirstViolation, IsCanonicalWithin}
use Rattle.raw_tree.specs.Violations as violation
use Rattle.dump_io.specs.declared.lines.find.Finding.{Finding}
use Rattle.dump_io.specs.declared.lines.find.Finding.TheVariants as finding
use Rattle.dump_io.specs.declared.lines.find.Told.{Told}
use Rattle.dump_io.specs.declared.lines.reason.Why.{Why}

-- the limits within which a document is read where none are given: what a server sends, 16 MiB and 16 KiB, and 500 levels
abbrev pub usual : Limits
usual = record { bytes = 16793600; depth = 500 }

-- where something is: the path from the outermost level on, and the offset in the document
pub record Spot : Type 0 where
  pub path : List Step
  pub offset : ℕ

-- the key, if there is one; else the other
abbrev pub key_or : Option (List ℕ) → Option (List ℕ) → Option (List ℕ)
key_or (Some key) other = Some key
key_or None other = other

-- the path; its last step gets this key if it has none
abbrev pub named_path : Option (List ℕ) → List Step → List Step
named_path key [] = []
named_path key (step ∷ []) = record { number = step.number; key = key_or step.key key } ∷ []
named_path key (step ∷ next ∷ steps) = step ∷ named_path key (next ∷ steps)

-- the place of an element that can't be read; its last step gets this key if it has none
abbrev pub named_spot : Option (List ℕ) → Spot → Spot
named_spot key spot = record { path = named_path key spot.path; offset = spot.offset }

-- why a document is damaged: words; the tag or the byte at fault, the length, or how many bytes a value has; and how many are left for it
pub record Explanation : Type 0 where
  pub words : List ℕ
  pub number : Option ℕ
  pub left : Option ℕ

-- what is told of a document that isn't canonical: a word or two; where, if there is an envelope; and the reason of damage
pub record Account : Type 0 where
  pub word : List ℕ
  pub spot : Option Spot
  pub reason : Option Explanation

-- words of something at a place
abbrev pub account_at : List ℕ → Spot → Account
account_at word spot = record { word = word; spot = Some spot; reason = None }

-- damage: where it is, if that is known, and its reason
abbrev pub account_of_damage : Option Spot → Explanation → Account
account_of_damage spot why = record { word = codes "damaged"; spot = spot; reason = Some why }

-- the reason of a fault
abbrev pub reason_text : Reason → List ℕ
reason_text reason.TooShort = codes "a document of under five bytes"
reason_text reason.LengthIncorrect = codes "a document's length is wrong"
reason_text reason.NotTerminated = codes "no final 0"
reason_text reason.Overflowed = codes "no element and no final 0"
reason_text (reason.InvalidTag tag) = codes "no kind has this tag"
reason_text (reason.StringHeadShort left) = codes "a string's length is cut off"
reason_text reason.NegativeLength = codes "a length is negative"
reason_text reason.StringTooSmall = codes "a string's length is 0"
reason_text (reason.StringPastEnd len left) = codes "a string is longer than what is left"
reason_text reason.StringNotTerminated = codes "a string has no final 0"
reason_text (reason.PastEnd len left) = codes "a value is longer than what is left"
reason_text (reason.DocumentTooSmall len) = codes "a nested document's length is under 5"
reason_text reason.NestedNotTerminated = codes "a nested document has no final 0"
reason_text (reason.LengthHeadShort left) = codes "a value's length is cut off"
reason_text reason.NoTerminator = codes "a text has no final 0"
reason_text (reason.BadBoolean byte) = codes "a boolean is neither 0 nor 1"
reason_text reason.OldNoInner = codes "an old binary has no inner length"
reason_text reason.AddOverflow = codes "an old binary's inner length is negative"
reason_text reason.OldWrongInner = codes "an old binary's inner length is wrong"
reason_text reason.CodeTooSmall = codes "a code with scope is too short"
reason_text _ = codes "no value"

-- the tag or the byte at fault, the length, or how many bytes a value has, where the reason has such a number
abbrev pub number_of : Reason → Option ℕ
number_of (reason.InvalidTag tag) = Some tag
number_of (reason.StringPastEnd len left) = Some len
number_of (reason.PastEnd len left) = Some len
number_of (reason.DocumentTooSmall len) = Some len
number_of (reason.BadBoolean byte) = Some byte
number_of _ = None

-- how many bytes are left for a value, where the reason says it
abbrev pub left_of : Reason → Option ℕ
left_of (reason.StringHeadShort left) = Some left
left_of (reason.StringPastEnd len left) = Some left
left_of (reason.PastEnd len left) = Some left
left_of (reason.LengthHeadShort left) = Some left
left_of _ = None

-- the words of a reason, and its numbers
abbrev pub reason_explained : Reason → Explanation
reason_explained why = record { words = reason_text why; number = number_of why; left = left_of why }

-- words without numbers
abbrev pub words_alone : List ℕ → Explanation
words_alone words = record { words = words; number = None; left = None }

-- the kind of a fault: its reason, or a text that isn't UTF-8
abbrev pub kind_explained : ErrorKind → Explanation
kind_explained (kind.MalformedValue why) = reason_explained why
kind_explained (kind.Utf8EncodingError why) = words_alone (codes "a text isn't UTF-8")
kind_explained kind.OutOfMemory = words_alone []

-- the numbers of a reason, after its words
abbrev pub numbers_text : (number left : Option ℕ) → List ℕ
numbers_text None None = []
numbers_text (Some number) None = codes ": " ++ decimal number
numbers_text None (Some left) = codes ": " ++ decimal left ++ codes " are left"
numbers_text (Some number) (Some left) = codes ": " ++ decimal number ++ codes " where " ++ decimal left ++ codes " are left"

-- words and their numbers
abbrev pub explanation_text : Explanation → List ℕ
explanation_text why = why.words ++ numbers_text why.number why.left

-- the kind of a fault in words, with its numbers
abbrev pub kind_text : ErrorKind → List ℕ
kind_text k = explanation_text (kind_explained k)

-- What is told where this ends the reading of a document: a word and the place. Of a fault the reason is told, and its key if the place has none.
abbrev pub SaysBarrier : Barrier → Spot → Account → Type 0
SaysBarrier too_many_bytes spot told = told ≡ account_at (codes "too long") spot
SaysBarrier too_deep spot told = told ≡ account_at (codes "too deep") spot
SaysBarrier (fault_of fault) spot told = (why : ErrorKind) × SaysFault why fault.fault × IsReadingKind why × (told ≡ account_of_damage (Some (named_spot fault.key spot)) (kind_explained why))

-- why a document isn't canonical, in a word
abbrev pub violation_word : Violation → List ℕ
violation_word violation.too_deep = codes "too deep"
violation_word (breach_of why) = cause_text why

-- what is found where this ends the reading: a level that is too deep; else damage
abbrev pub finding_of : Barrier → Finding
finding_of too_deep = finding.TooDeep
finding_of _ = finding.Damaged

-- something ends the reading of the piece b; this is found, and this is told of it
abbrev pub IsBarred : Limits → List ℕ → Finding → Option Account → Type 0
IsBarred limits b found told =
    IsEnvelope b × ((x : Barrier) × (spot : Spot) × (account : Account) × FirstBarrierAt limits b x spot.path spot.offset × SaysBarrier x spot account
    × (found ≡ finding_of x) × (told ≡ Some account))

-- What is found in a piece b of an input, and what is told of it. Of a canonical piece nothing is told. Of one that is read as a tree
-- within the limits: where it is first not canonical. Of one whose reading something ends: what and where. Of one without an
-- envelope: why.
abbrev pub Finds : Limits → List ℕ → Finding → Option Account → Type 0
Finds limits b finding.Canonical told = IsEnvelope b × IsCanonicalWithin limits b × (told ≡ None)
Finds limits b finding.Breached told =
    IsEnvelope b × ((t : Tree) × ReadsWithin limits b t)
    × ((x : Violation) × (spot : Spot) × FirstViolation limits b x spot.path spot.offset × (told ≡ Some (account_at (violation_word x) spot)))
Finds limits b finding.Damaged told = IsBarred limits b finding.Damaged told ⊎ ((why : Reason) × Refuses b why × (told ≡ Some (account_of_damage None (reason_explained why))))
Finds limits b finding.TooDeep told = IsBarred limits b finding.TooDeep told
Finds limits b finding.Unvalidated told = ⊥

-- a document with this finding isn't known to be sound
abbrev pub MayBeDamaged : Finding → Type 0
MayBeDamaged found = (found ≡ finding.Damaged) ⊎ (found ≡ finding.TooDeep) ⊎ (found ≡ finding.Unvalidated)

-- a place of the code as a spot
abbrev pub spot_of : Place → Spot
spot_of place = record { path = steps_of place; offset = place.offset }

-- what a reason of the code says
abbrev pub explanation_of : Why → Explanation
explanation_of why = record { words = why.words.now; number = why.number; left = why.left }

-- what is told by the code
abbrev pub account_of : Told → Account
account_of told = record { word = told.word.now; spot = option_map spot_of told.place; reason = option_map explanation_of told.reason }
