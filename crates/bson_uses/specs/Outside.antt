-- Documents from outside, within limits.
use Rattle.std.specs.Prelude.{◌⊎◌, ℕ, List}
use Rattle.raw_bson.specs.Envelope.{IsEnvelope}
use Rattle.raw_bson.specs.Error.{Error}
use Rattle.raw_bson.specs.Errors.{TellsRefusal}
use Rattle.raw_bson.specs.Limits.{Limits}
use Rattle.raw_bson.specs.Tree.{Tree}
use Rattle.raw_bson.specs.WithinLimits.{ReadsWithin, TellsFirstBarrier}

-- a megabyte, and a hundred levels
abbrev pub most : Limits
most = record { bytes = 1048576; depth = 100 }

-- the bytes are a document that is read as this tree within these limits
abbrev pub IsTaken : List ℕ → Tree → Type 0
IsTaken b t = IsEnvelope b × ReadsWithin most b t

-- the bytes are no document, and the error says the first reason; or it says the first barrier, or out of memory
abbrev pub IsTurnedAway : List ℕ → Error → Type 0
IsTurnedAway b e = TellsRefusal b e ⊎ (IsEnvelope b × TellsFirstBarrier most b e)
