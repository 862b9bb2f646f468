-- What of an input is read again.
use Rattle.std.specs.Prelude.{◌≡◌, ℕ, List, Option, None, Some, drop, take}

-- the bytes of an input from this offset on, as many as that, if its bytes are known; else any bytes, or none
abbrev pub IsReadAgain : (input : Option (List ℕ)) → (offset len : ℕ) → (found : Option (List ℕ)) → Type 0
IsReadAgain None offset len found = Unit {0}
IsReadAgain (Some bytes) offset len found = found ≡ Some (take len (drop offset bytes))
