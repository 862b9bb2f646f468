-- Fronts of what is written, and documents one after another.
use Rattle.std.specs.Prelude.{◌≡◌, ◌⊎◌, ◌++◌, ℕ, List, Option, flat_map}
pub use Rattle.bson_to_json.specs.Written.{AppendsFront}

-- s begins with these bytes
abbrev pub HasFront : List ℕ → List ℕ → Type 0
HasFront s front = (rest : List ℕ) × (s ≡ front ++ rest)

-- nothing is written, or a front of such a text
abbrev pub WritesFront : (List ℕ → Type 0) → (old new : Option (List ℕ)) → Type 0
WritesFront Is old new = (new ≡ old) ⊎ ((text : List ℕ) × Is text × AppendsFront old new text)

-- documents one after another
abbrev pub joined : List (List ℕ) → List ℕ
joined documents = flat_map (λ d. d) documents
