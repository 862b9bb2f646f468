-- What a piece whose levels are listed has written.
use Rattle.std.proofs.Common.{ℕ, List, [], Option, refl, inl, inr}
use Rattle.std.specs.Io.KnownBytes.{Appends}
use Rattle.std.proofs.KnownBytes.{Appends-nil}
use Rattle.raw_view.specs.Frame.Envelope.{IsEnvelope, Refuses}
use Rattle.raw_view.specs.Errors.{IsMalformed, TellsRefusal}
use Rattle.raw_view.specs.declared.error.Error.{Error}
use Rattle.raw_view.specs.declared.error.Reason.{Reason}
use Rattle.raw_view.specs.declared.error.ErrorKind.{ErrorKind}
use Rattle.raw_view.specs.declared.error.ErrorKind.TheVariants as kind
use Rattle.dump_commands.specs.elements.Listing.{HasLinesFront, HasListingFront, Lists, ListsDocument}

-- the lines of a level are written
abbrev pub IsWritten : ℕ → ℕ → List ℕ → (old new : Option (List ℕ)) → Type 0
IsWritten inside depth d old new = (text : List ℕ) × Lists inside depth d text × Appends old new text

-- those of a document are its listing
pub listed : (b : List ℕ) (old new : Option (List ℕ)) → IsEnvelope b → IsWritten 500 1 b old new → (listing : List ℕ) × ListsDocument b listing × Appends old new listing
listed b old new is (text, lists, put) = (text, inl (is, lists), put)

reason_in : (k : ErrorKind) (b : List ℕ) → IsMalformed k (Refuses b) → (why : Reason) × Refuses b why
reason_in (kind.MalformedValue why) b h = (why, h)
reason_in (kind.Utf8EncodingError e) b h = absurd h
reason_in kind.OutOfMemory b h = absurd h

-- bytes without an envelope have none
pub listed_nothing : (b : List ℕ) (e : Error) (old : Option (List ℕ)) → TellsRefusal b e → (listing : List ℕ) × ListsDocument b listing × Appends old old listing
listed_nothing b e old refused =
    let (why, refuses) = reason_in e.kind b refused.reason in
    ([], inr (why, refuses, refl), Appends-nil old)

-- a front of the lines of a level is written
abbrev pub IsPartly : ℕ → ℕ → List ℕ → (old new : Option (List ℕ)) → Type 0
IsPartly inside depth d old new = (text : List ℕ) × HasLinesFront inside depth d text × Appends old new text

-- it is one of the listing
pub lists_front : (b : List ℕ) (old new : Option (List ℕ)) → IsEnvelope b → IsPartly 500 1 b old new → (lines : List ℕ) × HasListingFront b lines × Appends old new lines
lists_front b old new is (text, has, put) = (text, inr (is, has), put)
