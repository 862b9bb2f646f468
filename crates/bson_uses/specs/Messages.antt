-- Messages of MongoDB's wire protocol with code 2013: a header and flags, sections, and perhaps a checksum.
use Rattle.std.specs.Prelude.{◌≡◌, ◌≢◌, ◌⊎◌, ◌<◌, ◌≤◌, ◌+◌, ◌-◌, ◌*◌, ◌%◌, ℕ, ℤ, pos, List, [], ◌∷◌, ◌++◌, length, map, take, drop}
use Rattle.std.specs.Str.{IsUtf8}
use Rattle.raw_bson.specs.Bytes.{NulFree}
use Rattle.raw_bson.specs.Document.{bytes_of}
use Rattle.raw_bson.specs.Error.{Error}
use Rattle.raw_bson.specs.ErrorKind.TheVariants as kind
use Rattle.raw_bson.specs.Errors.{IsOutOfMemory}
use Rattle.raw_bson.specs.FirstDocument.{RefusesFirst}
use Rattle.raw_bson.specs.Folds.{joined}
use Rattle.raw_bson.specs.Format.{c_string}
use Rattle.raw_bson.specs.NoDocument.{NoDocument as WhyNone}
use Rattle.raw_bson.specs.Number.{le32, le_u32, IsLe32, max_length}
use Rattle.raw_bson.specs.RawDocument.{RawDocument}
use Rattle.raw_bson.specs.Reason.TheVariants as reason
use Rattle.bson_uses.specs.Dump.{RefusesRest}
use Rattle.bson_uses.specs.declared.op_msg.Message.{Message}
use Rattle.bson_uses.specs.declared.op_msg.MessageError.{MessageError}
use Rattle.bson_uses.specs.declared.op_msg.MessageError.TheVariants.{TooShort, WrongSize, OtherCode, UnknownFlags, NoChecksum, OtherKind, WrongSequenceSize, NoIdentifier, NotText, NoDocument, OutOfMemory}
use Rattle.bson_uses.specs.declared.op_msg.Section.{Section}
use Rattle.bson_uses.specs.declared.op_msg.Section.TheVariants.{Body, Sequence}

-- the four bytes at this place of b are the number
abbrev pub HasNumber : ℕ → List ℕ → ℤ → Type 0
HasNumber place b z = IsLe32 (take 4 (drop place b)) z

-- b has five numbers: the first is its size, the fourth the code, and the fifth the flags
pub record IsHeader (b : List ℕ) (flags : ℕ) : Type 0 where
  pub enough : 20 ≤ length b
  pub size : HasNumber 0 b (pos (length b))
  pub code : HasNumber 12 b (pos 2013)
  pub bits : take 4 (drop 16 b) ≡ le_u32 flags

-- of the bits 0 to 15, which a reader has to know, only 0 and 1 may be set
abbrev pub AreKnown : ℕ → Type 0
AreKnown flags = flags % 65536 < 4

-- where the checksum of b begins: it is the last four bytes if the lowest bit of the flags is set; otherwise there is none
abbrev pub sections_end : List ℕ → ℕ → ℕ
sections_end b flags = length b - 4 * (flags % 2)

-- the bytes of b after its five numbers, before its checksum
abbrev pub sections_of : List ℕ → ℕ → List ℕ
sections_of b flags = take (sections_end b flags - 20) (drop 20 b)

-- s is a size of four bytes, which counts itself and the bytes inside, then these bytes, then what follows
pub record IsSized (s inside behind : List ℕ) : Type 0 where
  pub size : IsLe32 (take 4 s) (pos (4 + length inside))
  pub parts : drop 4 s ≡ inside ++ behind

-- s is a text, a 0, and what follows
abbrev pub IsIdentified : List ℕ → List ℕ → List ℕ → Type 0
IsIdentified s text behind = (s ≡ c_string text behind) × NulFree text

-- s is a section of this kind without its kind, and what follows: a document; or a size, and the bytes that it counts: an identifier, and
-- documents
abbrev pub IsSection : ℕ → List ℕ → Section → List ℕ → Type 0
IsSection kind s (Body d) behind = (kind ≡ 0) × (s ≡ bytes_of d ++ behind)
IsSection kind s (Sequence identifier ds) behind = (kind ≡ 1) × (inside : List ℕ) × IsSized s inside behind × IsIdentified inside identifier.now (joined (map bytes_of ds.items))

-- s begins with these sections, each after its kind, and this follows them
abbrev pub BeginWith : List Section → List ℕ → List ℕ → Type 0
BeginWith [] s behind = s ≡ behind
BeginWith (x ∷ xs) s behind = (kind : ℕ) × (t next : List ℕ) × (s ≡ kind ∷ t) × IsSection kind t x next × BeginWith xs next behind

-- b is this message: its numbers, its sections, and its checksum
pub record IsMessage (b : List ℕ) (m : Message) : Type 0 where
  pub header : IsHeader b m.flags
  pub known : AreKnown m.flags
  pub room : 20 ≤ sections_end b m.flags
  pub request_id : HasNumber 4 b m.request_id
  pub response_to : HasNumber 8 b m.response_to
  pub sections : BeginWith m.sections.items (sections_of b m.flags) []
  pub checksum : m.checksum.now ≡ drop (sections_end b m.flags) b

-- s doesn't begin with a size and the bytes that it counts
abbrev pub HasNoSize : List ℕ → Type 0
HasNoSize s = (inside behind : List ℕ) → ¬ IsSized s inside behind

-- why s isn't documents end to end: after some of them comes what is no document, and why; or memory ran out
abbrev pub RefusesDocuments : List ℕ → MessageError → Type 0
RefusesDocuments s e =
    ((why : WhyNone) × (e ≡ NoDocument why) × (ds : List RawDocument) × (rest : List ℕ) × (s ≡ joined (map bytes_of ds) ++ rest) × RefusesRest rest why)
    ⊎ (e ≡ OutOfMemory)

-- why what a size counts is no sequence, the first of: its identifier has no end; its identifier isn't UTF-8; its documents
abbrev pub RefusesInside : List ℕ → MessageError → Type 0
RefusesInside inside e =
    ((e ≡ NoIdentifier) × NulFree inside)
    ⊎ ((e ≡ NotText) × (text behind : List ℕ) × IsIdentified inside text behind × ¬ IsUtf8 text)
    ⊎ ((text documents : List ℕ) × IsIdentified inside text documents × IsUtf8 text × RefusesDocuments documents e)

-- why no sequence is at the front of s: its size, otherwise what that counts
abbrev pub RefusesSequence : List ℕ → MessageError → Type 0
RefusesSequence s e = ((e ≡ WrongSequenceSize) × HasNoSize s) ⊎ ((inside behind : List ℕ) × IsSized s inside behind × RefusesInside inside e)

-- why no section of this kind is at the front of s: no document, no sequence, or the kind is unknown
abbrev pub RefusesSection : ℕ → List ℕ → MessageError → Type 0
RefusesSection kind s e =
    ((kind ≡ 0) × (why : WhyNone) × (e ≡ NoDocument why) × RefusesFirst s why)
    ⊎ ((kind ≡ 1) × RefusesSequence s e)
    ⊎ ((1 < kind) × (e ≡ OtherKind kind))

-- why s isn't sections end to end: after some of them comes no section, and why; or memory ran out
abbrev pub RefusesSections : List ℕ → MessageError → Type 0
RefusesSections s e =
    ((xs : List Section) × (kind : ℕ) × (t : List ℕ) × BeginWith xs s (kind ∷ t) × RefusesSection kind t e)
    ⊎ (e ≡ OutOfMemory)

-- why b is no message, the first of: it has no five numbers, its size, its code, its flags, no bytes for the checksum that
-- they announce, its sections
abbrev pub RefusesMessage : List ℕ → MessageError → Type 0
RefusesMessage b e =
    ((e ≡ TooShort) × (length b < 20))
    ⊎ ((e ≡ WrongSize) × (20 ≤ length b) × (size : ℤ) × HasNumber 0 b size × (size ≢ pos (length b)))
    ⊎ ((e ≡ OtherCode) × (20 ≤ length b) × HasNumber 0 b (pos (length b)) × (code : ℤ) × HasNumber 12 b code × (code ≢ pos 2013))
    ⊎ ((flags : ℕ) × (e ≡ UnknownFlags flags) × IsHeader b flags × ¬ AreKnown flags)
    ⊎ ((flags : ℕ) × (e ≡ NoChecksum) × IsHeader b flags × AreKnown flags × (sections_end b flags < 20))
    ⊎ ((flags : ℕ) × IsHeader b flags × AreKnown flags × (20 ≤ sections_end b flags) × RefusesSections (sections_of b flags) e)

-- the message with this number and the document b: its size, numbers and code, no flags, and a body
abbrev pub message_bytes : ℤ → List ℕ → List ℕ
message_bytes id b = le32 (pos (length b + 21)) ++ (le32 id ++ (le32 (pos 0) ++ (le32 (pos 2013) ++ (le_u32 0 ++ (0 ∷ b)))))

-- why the message with a document of this length isn't written: it would be too long, or memory ran out
abbrev pub RefusesLength : ℕ → Error → Type 0
RefusesLength len e = ((e.kind ≡ kind.MalformedValue reason.TooLong) × (max_length < len + 21)) ⊎ IsOutOfMemory e
