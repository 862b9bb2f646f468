-- The options of a regular expression, in order.
use Rattle.std.specs.Prelude.{ℕ, List, [], ◌∷◌, nat_le, if◌then◌else◌, encode_utf8_all, IsPermutation}
use Rattle.std.specs.List.Sorted.{IsNonDecreasing}
use Rattle.std.specs.Str.{chars, IsUtf8}

-- a number inserted before the first that is not less
abbrev pub put_in_order : ℕ → List ℕ → List ℕ
put_in_order c [] = c ∷ []
put_in_order c (d ∷ ds) = if nat_le c d then c ∷ d ∷ ds else d ∷ put_in_order c ds

-- the same numbers in ascending order, repeats kept
abbrev pub ascending : List ℕ → List ℕ
ascending [] = []
ascending (c ∷ cs) = put_in_order c (ascending cs)

-- the text of the characters of a text in ascending order, repeats kept
abbrev pub sorted_options : List ℕ → List ℕ
sorted_options options = encode_utf8_all (ascending (chars options))

-- the characters of a text never descend
abbrev pub OptionsAscend : List ℕ → Type 0
OptionsAscend options = IsNonDecreasing (chars options)

-- a text of the same characters, which never descend
pub record OrdersOptions (options sorted : List ℕ) : Type 0 where
  pub text : IsUtf8 sorted
  pub same : IsPermutation (chars options) (chars sorted)
  pub ascend : OptionsAscend sorted
