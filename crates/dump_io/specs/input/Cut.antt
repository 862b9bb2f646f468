-- How an input is cut into documents by the lengths at their fronts. A document has at most a given number of bytes.
use Rattle.std.specs.Prelude.{◌≡◌, ◌⊎◌, ◌<◌, ◌≤◌, ℕ, List, length}
use Rattle.std.specs.Int.{w32, cast_signed}
pub use Rattle.raw_resync.specs.Pieces.{said_len}
use Rattle.raw_resync.specs.Pieces as pieces
use Rattle.dump_io.specs.declared.input.ending.Ending.{Ending}
use Rattle.dump_io.specs.declared.input.ending.Ending.TheVariants as ending

-- a document may have this length: at least five bytes, and at most `most`
abbrev pub IsSoundLength : (most : ℕ) → ℕ → Type 0
IsSoundLength most len = pieces.IsSoundLength most len

-- these bytes have the length that they say, and a document may have it
abbrev pub IsPiece : (most : ℕ) → List ℕ → Type 0
IsPiece most b = pieces.IsPiece most b

-- Why no document is at the front of s, what is left of an input: s ends within the length, or before the end that the length says; or no
-- document may have this length. Where a length is wrong, a document is at the front (HasWrongLength).
abbrev pub EndsWith : (most : ℕ) → Ending → List ℕ → Type 0
EndsWith most (ending.CutOff count) s = (length s ≡ count) × (0 < count) × ((count < 4) ⊎ (IsSoundLength most (said_len s) × (count < said_len s)))
EndsWith most (ending.Unsound len) s = (4 ≤ length s) × ((said_len s < 5) ⊎ (most < said_len s)) × (len ≡ cast_signed w32 (said_len s))
EndsWith most (ending.WrongLength len) s = ⊥
