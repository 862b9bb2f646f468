-- Documents that are kept in their canonical form.
use Rattle.std.specs.Prelude.{◌≡◌, ◌++◌, ℕ, Bool, true, false, List, [], ◌∷◌}
use Rattle.std.specs.List.{Contains}
use Rattle.raw_bson.specs.CanonicalForm.{IsCanonicalForm}

-- the canonical form of the document b wasn't on the shelf, and is now the last; or it was there
abbrev pub IsKept : List (List ℕ) → List ℕ → Bool → List (List ℕ) → Type 0
IsKept before b true after = (form : List ℕ) × IsCanonicalForm b form × (¬ Contains before form) × (after ≡ before ++ form ∷ [])
IsKept before b false after = (form : List ℕ) × IsCanonicalForm b form × Contains before form × (after ≡ before)
