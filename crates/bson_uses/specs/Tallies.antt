-- The summary of the documents of a dump: how many there are, how many are canonical, and the sum of a field.
use Rattle.std.specs.Prelude.{◌≡◌, ◌⊎◌, ◌<◌, ◌+◌, ◌++◌, ◌^◌, ◌+ℤ◌, ◌↔◌, IsTrue, ℕ, ℤ, pos, Bool, true, false, List, length, FitsSigned, Option, Some, Result, Ok, Err}
use Rattle.std.specs.Int.{w64}
use Rattle.raw_bson.specs.EachItem.{AsksUnder}
use Rattle.raw_bson.specs.Envelope.{IsEnvelope}
use Rattle.raw_bson.specs.Error.{Error}
use Rattle.raw_bson.specs.FirstDocument.{RefusesFirst}
use Rattle.raw_bson.specs.Folds.{ReadsDump}
use Rattle.raw_bson.specs.Leaf.{int64}
use Rattle.raw_bson.specs.Limits.{Limits}
use Rattle.raw_bson.specs.Meaning.{RawValue, single}
use Rattle.raw_bson.specs.NoDocument.{NoDocument}
use Rattle.raw_form.specs.Violations.{IsCanonicalWithin}
use Rattle.bson_uses.specs.declared.tally.Tally.{Tally}
use Rattle.bson_uses.specs.declared.tally.TallyError.{TallyError}
use Rattle.bson_uses.specs.declared.tally.TallyError.TheVariants as error

-- an error of the library, as an error of a tally
abbrev pub damaged : Error → TallyError
damaged e = error.Damaged e

-- memory ran out
abbrev pub IsOutOfMemory : TallyError → Type 0
IsOutOfMemory e = e ≡ error.OutOfMemory

-- the 64-bit number that was found, otherwise 0
abbrev pub number_in : Option RawValue → ℤ
number_in (Some (single (int64 z))) = z
number_in _ = pos 0

-- what a look-up of the number under the key of the document d returns
abbrev pub TellsNumber : List ℕ → List ℕ → Result ℤ TallyError → Type 0
TellsNumber d key r = AsksUnder damaged (λ found r. r ≡ Ok (number_in found)) d key r

-- the tally of no document
abbrev pub none : Tally
none = record { documents = 0; canonical = 0; sum = pos 0 }

-- both counts can be increased
abbrev pub CountsOneMore : Tally → Type 0
CountsOneMore t = (t.documents + 1 < 2 ^ 64) × (t.canonical + 1 < 2 ^ 64)

-- one more document, which is canonical or not and has this number
abbrev pub PlusOne : Tally → Bool → ℤ → Tally → Type 0
PlusOne t true z u = (u.documents ≡ t.documents + 1) × (u.canonical ≡ t.canonical + 1) × (u.sum ≡ t.sum +ℤ z)
PlusOne t false z u = (u.documents ≡ t.documents + 1) × (u.canonical ≡ t.canonical) × (u.sum ≡ t.sum +ℤ z)

-- the sum with this number doesn't fit
abbrev pub RefusesPlus : Tally → ℤ → TallyError → Type 0
RefusesPlus t z e = (e ≡ error.Overflow) × ¬ FitsSigned w64 (t.sum +ℤ z)

-- The tally with the document d; otherwise out of memory, or the fault that is found where its number is looked for, or the sum doesn't
-- fit.
abbrev pub AddsDocument : Limits → List ℕ → Tally → List ℕ → Result Tally TallyError → Type 0
AddsDocument limits key t d (Ok u) =
    (is : Bool) × (IsTrue is ↔ IsCanonicalWithin limits d) × (number : ℤ) × TellsNumber d key (Ok number) × PlusOne t is number u
AddsDocument limits key t d (Err e) =
    IsOutOfMemory e
    ⊎ TellsNumber d key (Err e)
    ⊎ ((number : ℤ) × TellsNumber d key (Ok number) × RefusesPlus t number e)

-- one document leads from a tally to the next
abbrev pub Steps : Limits → List ℕ → Tally → List ℕ → Tally → Type 0
Steps limits key t d u = AddsDocument limits key t d (Ok u)

-- Why s has no tally: after documents that lead to some tally there is no document, and why; or there is one that can't be added.
abbrev pub RefusesTally : Limits → List ℕ → List ℕ → TallyError → Type 0
RefusesTally limits key s e =
    (t : Tally) × (left : List ℕ) × ReadsDump (Steps limits key) none s t left
    × (((why : NoDocument) × (e ≡ error.NoDocument why) × (0 < length left) × RefusesFirst left why)
    ⊎ ((d : List ℕ) × (behind : List ℕ) × (left ≡ d ++ behind) × IsEnvelope d × AddsDocument limits key t d (Err e)))
