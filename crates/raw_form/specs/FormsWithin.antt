-- Canonical forms within limits, without a tree.
use Rattle.std.specs.Prelude.{◌⊎◌, ℕ, List}
use Rattle.bson_model.specs.Tree.{Tree}
use Rattle.raw_view.specs.Frame.Envelope.{IsEnvelope}
use Rattle.raw_view.specs.Errors.{TellsRefusal}
use Rattle.raw_view.specs.declared.error.Error.{Error}
use Rattle.raw_tree.specs.CanonicalForm.{IsCanonicalForm, TellsTooLong}
use Rattle.raw_tree.specs.WithinLimits.{ReadsWithin, TellsFirstBarrier}
use Rattle.raw_tree.specs.declared.reader.limits.Limits.{Limits}

-- a is the canonical form of the document b, which is within the limits
pub record IsFormWithin (limits : Limits) (b a : List ℕ) : Type 0 where
  pub form : IsCanonicalForm b a
  pub within : (t : Tree) × ReadsWithin limits b t

-- Why there is no form: these bytes have no envelope; otherwise they are too many; otherwise the first barrier of the document, or out of
-- memory; otherwise the encoding of its tree would be too long.
abbrev pub RefusesFormWithin : Limits → List ℕ → Error → Type 0
RefusesFormWithin limits b e = TellsRefusal b e ⊎ (IsEnvelope b × (TellsFirstBarrier limits b e ⊎ ((t : Tree) × ReadsWithin limits b t × TellsTooLong t e)))
