-- Payloads that are overwritten in the caller's bytes, which are b before.
use Rattle.std.specs.Prelude.{◌≡◌, ◌⊎◌, ℕ, ℤ, List, ◌++◌, length, take, drop}
use Rattle.bsonraw_c.specs.Iters.{Returns}
use Rattle.bsonraw_c.specs.PathValues.{BeginsAndFindsPath}
use Rattle.bsonraw_c.specs.declared.codes.Status.TheVariants as status
use Rattle.bsonraw_c.specs.declared.iter.Iter.{Iter}

-- b with these bytes from this offset on, and after them what was there
abbrev pub overwritten : List ℕ → ℕ → List ℕ → List ℕ
overwritten b at bytes = take at b ++ (bytes ++ drop (length bytes) (drop at b))

-- the element that the iterator is at has this tag, and a payload of as many bytes as these
abbrev pub IsOfSize : Iter → ℕ → List ℕ → Type 0
IsOfSize it tag payload = (it.tag ≡ tag) × (it.payload_len ≡ length payload)

-- The element at the path has this tag and a payload as long as the new one, which is there now; or it is another one; or there is none.
abbrev pub Overwrites : List ℕ → List ℕ → ℕ → ℕ → List ℕ → List ℕ → ℤ → Type 0
Overwrites b path separator tag payload after code =
    (it : Iter) × (found : ℤ) × BeginsAndFindsPath b path separator it found
    × ((Returns status.Done found × IsOfSize it tag payload × (after ≡ overwritten b it.payload_at payload) × Returns status.Done code)
    ⊎ (Returns status.Done found × (¬ IsOfSize it tag payload) × (after ≡ b) × Returns status.OtherKind code)
    ⊎ ((¬ Returns status.Done found) × (after ≡ b) × (code ≡ found)))
