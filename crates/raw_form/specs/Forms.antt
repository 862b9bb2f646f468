-- Helpers of rewriting. No public contract cites this file.
use Rattle.std.specs.Prelude.{◌⊎◌, ℕ, List}
use Rattle.bson_model.specs.Tree.{Tree}
use Rattle.raw_view.specs.Errors.{IsOutOfMemory}
use Rattle.raw_view.specs.declared.error.Error.{Error}
use Rattle.raw_tree.specs.CanonicalForm.{IsSpelling, TellsTooLong}
use Rattle.raw_tree.specs.Reading.{Reads}

-- a is the encoding of a tree of b
abbrev pub IsFormOf : List ℕ → List ℕ → Type 0
IsFormOf b a = (t : Tree) × Reads b t × IsSpelling t a

-- out of memory; or the encoding of a tree of b would be too long
abbrev pub RefusesFormOf : List ℕ → Error → Type 0
RefusesFormOf b e = IsOutOfMemory e ⊎ ((t : Tree) × Reads b t × TellsTooLong t e)
