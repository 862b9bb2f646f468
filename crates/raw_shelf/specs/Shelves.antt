-- Shelves, as lists of the bytes of documents.
use Rattle.std.specs.Prelude.{◌≡◌, ◌++◌, ℕ, Bool, true, false, List, [], ◌∷◌, Result, Ok, Err, Vec, map}
use Rattle.std.specs.Global.{Global}
use Rattle.std.specs.List.{Contains}
use Rattle.raw_bson.specs.Breaches.{HasBreach}
use Rattle.raw_bson.specs.Canonical.{IsCanonical}
use Rattle.raw_bson.specs.Envelope.{IsEnvelope}
use Rattle.raw_bson.specs.Reading.{Reads}
use Rattle.raw_bson.specs.Tree.{Tree}
use Rattle.raw_shelf.specs.declared.put_error.PutError.{PutError}
use Rattle.raw_shelf.specs.declared.put_error.PutError.TheVariants as error

-- this document is read as no tree that one of these documents is read as
abbrev pub HasAnotherTree : List ℕ → List (List ℕ) → Type 0
HasAnotherTree d others = (t : Tree) (other : List ℕ) → Contains others other → Reads d t → ¬ Reads other t

-- a shelf is a list of canonical documents, no two of which have the same tree
abbrev pub IsShelf : List (List ℕ) → Type 0
IsShelf [] = Unit {0}
IsShelf (d ∷ ds) = IsEnvelope d × IsCanonical d × HasAnotherTree d ds × IsShelf ds

-- What a put of the document b returns, and the shelf after it: b was new, and is the last; or it was there; or it isn't canonical, and
-- this is its first breach; or memory ran out.
abbrev pub Puts : List (List ℕ) → List ℕ → Result Bool PutError → List (List ℕ) → Type 0
Puts before b (Ok true) after = IsCanonical b × (¬ Contains before b) × (after ≡ before ++ b ∷ [])
Puts before b (Ok false) after = IsCanonical b × Contains before b × (after ≡ before)
Puts before b (Err (error.Breach breach)) after = (¬ IsCanonical b) × HasBreach b breach × (after ≡ before)
Puts before b (Err error.OutOfMemory) after = after ≡ before

-- the bytes of vectors
abbrev pub items : List (Vec ℕ Global) → List (List ℕ)
items documents = map (λ d. d.items) documents

-- what is returned if bytes are put last unless they are there, and the list after it
abbrev pub Stores : List (List ℕ) → List ℕ → Result Bool PutError → List (List ℕ) → Type 0
Stores before b (Ok true) after = (¬ Contains before b) × (after ≡ before ++ b ∷ [])
Stores before b (Ok false) after = Contains before b × (after ≡ before)
Stores before b (Err e) after = (e ≡ error.OutOfMemory) × (after ≡ before)
