-- The nulls among the values of a document.
use Rattle.std.specs.Prelude.{◌≡◌, ◌+◌, ℕ, List, Result, Ok}
use Rattle.raw_bson.specs.Error.{Error}
use Rattle.raw_bson.specs.Leaf.{null}
use Rattle.raw_bson.specs.Meaning.{RawValue, single}

-- one more if the value is null
abbrev pub with_null : ℕ → RawValue → ℕ
with_null n (single null) = n + 1
with_null n _ = n

-- the call for an item returns the next count
abbrev pub CountsNull : ℕ → List ℕ → RawValue → Result ℕ Error → Type 0
CountsNull n key v r = r ≡ Ok (with_null n v)
