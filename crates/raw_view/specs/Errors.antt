-- What errors say.
pub mod Answers
pub mod Access
use Rattle.std.specs.Prelude.{◌≡◌, ◌≢◌, ◌⊎◌, ℕ, List, Option, None, Some, String}
use Rattle.std.specs.String.{string_bytes}
use Rattle.raw_view.specs.declared.error.Reason.{Reason}
use Rattle.raw_view.specs.declared.error.Reason.TheVariants as reason
use Rattle.raw_view.specs.declared.error.ErrorKind.{ErrorKind}
use Rattle.raw_view.specs.declared.error.ErrorKind.TheVariants as kind
use Rattle.raw_view.specs.declared.error.Error.{Error}
use Rattle.raw_view.specs.Frame.{Fault, Malformed, Utf8}
use Rattle.raw_view.specs.Frame.Envelope.{Refuses}
use Rattle.raw_view.specs.declared.first_document.NoDocument.{NoDocument}
use Rattle.raw_view.specs.declared.first_document.NoDocument.TheVariants as no

-- the UTF-8 bytes of a text that may be absent
abbrev pub text_of : {Z : Type 0} → Option (String Z) → Option (List ℕ)
text_of None = None
text_of (Some text) = Some (string_bytes text)

-- the key that an error carries
abbrev pub key_of : Error → Option (List ℕ)
key_of e = text_of e.key

-- two errors of one kind with one key
abbrev pub IsSameError : Error → Error → Type 0
IsSameError s t = (t.kind ≡ s.kind) × (key_of t ≡ key_of s)

-- the error is malformed, and this holds of its reason
abbrev pub IsMalformed : ErrorKind → (Reason → Type 0) → Type 0
IsMalformed (kind.MalformedValue reason) P = P reason
IsMalformed (kind.Utf8EncodingError _) P = ⊥
IsMalformed kind.OutOfMemory P = ⊥

-- the error says the first reason why b has no envelope; it has no key
pub record TellsRefusal (b : List ℕ) (e : Error) : Type 0 where
  pub reason : IsMalformed e.kind (Refuses b)
  pub key : key_of e ≡ None

-- the reason for an envelope that corresponds to the reason why no document is at the front
abbrev pub reason_of : NoDocument → Reason
reason_of no.TooShort = reason.TooShort
reason_of no.LengthIncorrect = reason.LengthIncorrect
reason_of (no.NotTerminated len) = reason.NotTerminated

-- the error says why no document is at the front of bytes; it has no key
abbrev pub TellsFirst : NoDocument → Error → Type 0
TellsFirst why e = (e.kind ≡ kind.MalformedValue (reason_of why)) × (key_of e ≡ None)

-- a reason that reading gives: neither one of the two of writing nor one of the two of limits
abbrev pub IsReadingReason : Reason → Type 0
IsReadingReason r = (r ≢ reason.InteriorNul) × (r ≢ reason.TooLong) × (r ≢ reason.TooManyBytes) × (r ≢ reason.TooDeep)

-- a kind of error that reading gives: its reason, if it has one, is a reading reason
abbrev pub IsReadingKind : ErrorKind → Type 0
IsReadingKind k = (r : Reason) → k ≡ kind.MalformedValue r → IsReadingReason r

-- an error of this kind says this fault
abbrev pub SaysFault : ErrorKind → Fault → Type 0
SaysFault (kind.MalformedValue why) fault = fault ≡ Malformed why
SaysFault (kind.Utf8EncodingError _) fault = fault ≡ Utf8
SaysFault kind.OutOfMemory fault = ⊥

-- memory ran out; the error has no key
pub record IsOutOfMemory (e : Error) : Type 0 where
  pub kind_is : e.kind ≡ kind.OutOfMemory
  pub no_key : key_of e ≡ None

-- The kind of the error satisfies P, and the error has a copy of the key. If there is a key, memory may have run out
-- for the copy instead: then the error is out of memory and has no key.
abbrev pub CarriesKey : (ErrorKind → Type 0) → Option (List ℕ) → Error → Type 0
CarriesKey P None e = P e.kind × (key_of e ≡ None)
CarriesKey P (Some key) e = (P e.kind × (key_of e ≡ Some key)) ⊎ IsOutOfMemory e

-- the same for one kind
abbrev pub HasKeyCopy : ErrorKind → Option (List ℕ) → Error → Type 0
HasKeyCopy what key e = CarriesKey (λ k. k ≡ what) key e

-- the same for each kind that says the fault; no reading fault has a reason of writing or of limits
abbrev pub TellsFault : Error → Fault → Option (List ℕ) → Type 0
TellsFault e fault key = CarriesKey (λ k. SaysFault k fault × IsReadingKind k) key e
