-- Documents that are one after another in the caller's bytes b.
use Rattle.std.specs.Prelude.{◌≡◌, ◌⊎◌, ◌<◌, ◌≤◌, ◌+◌, ℕ, ℤ, List, length, drop, ◌++◌}
use Rattle.raw_bson.specs.Envelope.{IsEnvelope}
use Rattle.raw_bson.specs.ErrorKind.TheVariants as kind
use Rattle.raw_bson.specs.FirstDocument.{HasNoDocument, RefusesFirst}
use Rattle.raw_bson.specs.NoDocument.{NoDocument}
use Rattle.raw_bson.specs.NoDocument.TheVariants as no
use Rattle.raw_bson.specs.Reason.{Reason}
use Rattle.raw_bson.specs.Reason.TheVariants as reason
use Rattle.bsonraw_c.specs.Codes.{SaysKind}
use Rattle.bsonraw_c.specs.Iters.{Returns}
use Rattle.bsonraw_c.specs.declared.codes.Status.TheVariants as status
use Rattle.bsonraw_c.specs.declared.reader.Reader.{Reader}

-- why there is no document, as a reason
abbrev pub reason_of_none : NoDocument → Reason
reason_of_none no.TooShort = reason.TooShort
reason_of_none no.LengthIncorrect = reason.LengthIncorrect
reason_of_none (no.NotTerminated _) = reason.NotTerminated

-- where the next document may begin after a damaged one at this offset: after the length that it says, where that is sound; else
-- nothing says where, and it is the end of the bytes
abbrev pub place_behind : ℕ → ℕ → NoDocument → ℕ
place_behind end offset (no.NotTerminated len) = offset + len
place_behind end offset no.TooShort = end
place_behind end offset no.LengthIncorrect = end

-- the reader has no document
abbrev pub HasNone : List ℕ → Reader → Type 0
HasNone b reader = (reader.document_at ≡ length b) × (reader.document_len ≡ 0)

-- the document d is at this offset of b, the reader has it, and the next one begins after it
pub record IsAtDocument (b d : List ℕ) (offset : ℕ) (reader : Reader) : Type 0 where
  pub behind : List ℕ
  pub there : drop offset b ≡ d ++ behind
  pub envelope : IsEnvelope d
  pub document_at : reader.document_at ≡ offset
  pub document_len : reader.document_len ≡ length d
  pub next : reader.next ≡ offset + length d

-- no document is at this offset of b, and the reader says why, and where it may go on
pub record IsAtDamage (b : List ℕ) (offset : ℕ) (reader : Reader) : Type 0 where
  pub why : NoDocument
  pub refused : RefusesFirst (drop offset b) why
  pub no_document : HasNoDocument (drop offset b)
  pub none : HasNone b reader
  pub next : reader.next ≡ place_behind (length b) offset why
  pub says : SaysKind (kind.MalformedValue (reason_of_none why)) reader.fault.why
  pub offset_is : reader.fault.offset ≡ offset

-- What a reader with any fields returns: the document at its next offset; or that the bytes end there; or why no document
-- is there; or that its offset is past the end.
abbrev pub ReadsNext : List ℕ → Reader → Reader → ℤ → Type 0
ReadsNext b old new code =
    ((d : List ℕ) × (old.next < length b) × IsAtDocument b d old.next new × (new.fault ≡ old.fault) × Returns status.Done code)
    ⊎ ((old.next ≡ length b) × HasNone b new × (new.next ≡ old.next) × (new.fault ≡ old.fault) × Returns status.Nothing code)
    ⊎ ((old.next < length b) × IsAtDamage b old.next new × Returns status.NoDocument code)
    ⊎ ((length b < old.next) × HasNone b new × (new.next ≡ old.next) × (new.fault ≡ old.fault) × Returns status.BadOffset code)

-- the length that a damaged document says is within the bytes, which end there
abbrev pub IsWithin : ℕ → ℕ → NoDocument → Type 0
IsWithin end offset (no.NotTerminated len) = offset + len ≤ end
IsWithin end offset no.TooShort = Unit {0}
IsWithin end offset no.LengthIncorrect = Unit {0}
