-- Arrays that count the values pushed.
use Rattle.std.specs.Prelude.{◌≡◌, ℕ, ◌+◌, List, Result, Ok, Err, decimal}
use Rattle.raw_view.specs.Meaning.{RawValue}
use Rattle.raw_view.specs.declared.error.Error.{Error}
use Rattle.raw_bson.specs.Append.{Appends}

-- the bytes of an array, and the count that gives the next key
pub record ArrayBytes : Type 0 where
  pub bytes : List ℕ
  pub count : ℕ

-- an accepted push adds one to the count
abbrev pub count_after : ℕ → Result (Unit {0}) Error → ℕ
count_after n (Ok _) = n + 1
count_after n (Err _) = n

-- What a push to the array a returns, and the array after it: an append with the decimal of the count as the key.
abbrev pub Pushes : ArrayBytes → RawValue → Result (Unit {0}) Error → ArrayBytes → Type 0
Pushes a v result left = Appends a.bytes (decimal a.count) v result left.bytes × (left.count ≡ count_after a.count result)
