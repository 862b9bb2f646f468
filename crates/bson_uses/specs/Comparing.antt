-- Two documents that are compared, and one that is normalised.
use Rattle.std.specs.Prelude.{◌≡◌, ◌⊎◌, ◌↔◌, ℕ, Bool, List, Result, Ok, Err, IsTrue}
use Rattle.raw_bson.specs.CanonicalForm.{IsCanonicalForm}
use Rattle.raw_bson.specs.Conversion.{RefusesForm}
use Rattle.raw_bson.specs.Error.{Error}
use Rattle.raw_bson.specs.Reading.{Reads}
use Rattle.raw_bson.specs.Tree.{Tree}

-- Both are documents without a fault, and this is whether their trees are the same; or this is the error of the first without a canonical form.
abbrev pub Compares : List ℕ → List ℕ → Result Bool Error → Type 0
Compares a b (Ok same) = (t : Tree) × (u : Tree) × Reads a t × Reads b u × (IsTrue same ↔ (t ≡ u))
Compares a b (Err e) = RefusesForm a e ⊎ ((form : List ℕ) × IsCanonicalForm a form × RefusesForm b e)

-- the canonical form of the bytes, and the canonical form of that, which is the same
abbrev pub AreNormalised : List ℕ → List ℕ → List ℕ → Type 0
AreNormalised b once twice = IsCanonicalForm b once × IsCanonicalForm once twice × (twice ≡ once)
