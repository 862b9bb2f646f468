-- Look-up in nested documents.
use Rattle.std.specs.Prelude.{◌≡◌, ℕ, List, [], ◌∷◌, map, Option, Some, None}
use denote.Ref.{Bor}
use Rattle.raw_bson.specs.LookUp.{LooksUp}
use Rattle.raw_bson.specs.Meaning.{RawValue, Meaning, value, faulty, document}

-- the texts of borrowed texts
abbrev pub keys_of : List (Bor (List ℕ)) → List (List ℕ)
keys_of path = map (λ key. key.now) path

-- What a look-up found, and then what is found inside it: in a value what `Below` says; a fault stays a fault, and nothing stays nothing.
abbrev pub LooksBelow : (RawValue → Option Meaning → Type 0) → Option Meaning → Option Meaning → Type 0
LooksBelow Below (Some (value v)) found = Below v found
LooksBelow Below (Some (faulty fault)) found = found ≡ Some (faulty fault)
LooksBelow Below None found = found ≡ None

-- What is found under these keys, one inside the other, from this value on: in a document what a look-up finds, and so on; in any other
-- value nothing.
abbrev pub GoesDown : RawValue → List (List ℕ) → Option Meaning → Type 0
GoesDown here [] found = found ≡ Some (value here)
GoesDown (document b) (key ∷ keys) found = (next : Option Meaning) × LooksUp b key next × LooksBelow (λ v. GoesDown v keys) next found
GoesDown _ (key ∷ keys) found = found ≡ None
