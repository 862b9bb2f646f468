-- The law of the round trip: what is printed of a document in the canonical format is read as that document, and as no other.
use Rattle.std.specs.Prelude.{◌≡◌, List, ℕ}
use Rattle.bson_model.specs.Tree.{Tree}
use Rattle.raw_tree.specs.Canonical.{IsCanonical}
use Rattle.raw_tree.specs.Reading.{Reads}
use Rattle.raw_tree.specs.WithinLimits.{ReadsWithin}
use Rattle.raw_tree.specs.declared.reader.limits.Limits.{Limits}
use Rattle.bson_to_json.specs.Errors.{TellsJsonError}
use Rattle.bson_to_json.specs.Json.{IsJson}
use Rattle.bson_to_json.specs.declared.style.Format.TheVariants.{Canonical}
use Rattle.bson_to_json.specs.declared.style.Layout.{Layout}
use Rattle.bson_to_json.specs.declared.style.Style.{Style}
use Rattle.bson_to_json.specs.declared.error.ToJsonError.TheVariants as print
use Rattle.bson_from_json.specs.JsonReason.{JsonReason}
use Rattle.bson_from_json.specs.JsonReason.TheVariants as reason
use Rattle.bson_from_json.specs.Texts.{IsCause, IsWritten}
use Rattle.json_round_trip.specs.Returning.{DocumentComesBack}
use Rattle.json_round_trip.specs.declared.trip.RoundTripError.{RoundTripError}
use Rattle.json_round_trip.specs.declared.trip.RoundTripError.TheVariants as round

-- the canonical format in this layout
abbrev pub canonical_in : Layout → Style
canonical_in layout = record { format = Canonical; layout = layout }

-- the text writes the document b, and no document of other bytes
pub record SaysAlone (text b : List ℕ) : Type 0 where
  pub written : IsWritten text b
  pub only : (bytes : List ℕ) → IsWritten text bytes → bytes ≡ b

-- the document b is canonical, and its tree comes back
abbrev pub IsReturning : List ℕ → Type 0
IsReturning b = IsCanonical b × ((t : Tree) × Reads b t × DocumentComesBack t)

-- the document b is within the limits
abbrev pub IsWithin : Limits → List ℕ → Type 0
IsWithin limits b = (t : Tree) × ReadsWithin limits b t

-- within limits that the document b is within, the only reason why this text isn't read is that memory ran out
abbrev pub IsReadWithin : List ℕ → List ℕ → Type 0
IsReadWithin text b = (limits : Limits) (r : JsonReason) → IsWithin limits b → IsCause limits text r → r ≡ reason.OutOfMemory

-- If the document b is canonical and its tree comes back, each text of it in the canonical format writes b alone. Unless memory runs out,
-- the text is read within any limits that b is within (`IsReadWithin`).
abbrev pub ClosesCircle : List ℕ → Type 0
ClosesCircle b = IsReturning b → (layout : Layout) (text : List ℕ) → IsJson (canonical_in layout) b text → SaysAlone text b × IsReadWithin text b

-- the bytes are those of a document that a text of b in the canonical format writes
abbrev pub IsReadAgain : List ℕ → Layout → List ℕ → Type 0
IsReadAgain b layout bytes = (text : List ℕ) × IsJson (canonical_in layout) b text × IsWritten text bytes

-- why no bytes are returned: b isn't printed, or its text isn't read
abbrev pub TellsRoundTripError : Limits → List ℕ → Layout → RoundTripError → Type 0
TellsRoundTripError limits b layout (round.Print error) = TellsJsonError limits b error
TellsRoundTripError limits b layout (round.Read error) = (text : List ℕ) × IsJson (canonical_in layout) b text × IsCause limits text error.reason

-- memory ran out
abbrev pub IsOutOfMemory : RoundTripError → Type 0
IsOutOfMemory (round.Print print.OutOfMemory) = Unit {0}
IsOutOfMemory (round.Print (print.Barrier barrier)) = ⊥
IsOutOfMemory (round.Read error) = error.reason ≡ reason.OutOfMemory
