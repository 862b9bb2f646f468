-- What the code tells of documents that it goes over. No public contract cites this file.
use Rattle.std.specs.Prelude.{◌≡◌, ◌-◌, ◌∷◌, ℕ, List, [], Option, None, Some, length, map, slice_get}
use Rattle.std.specs.BTreeMap.{BTreeMap, get}
use Rattle.std.specs.Borrow.{Bor}
use Rattle.std.specs.Cmp.Lexicographic.{slice_cmp}
use Rattle.std.specs.Option.{option_map}
use Rattle.std.specs.Ordering.{nat_cmp, ordering_then}
use Rattle.std.specs.declared.cmp.Ordering.{Ordering}
use Rattle.dump_commands.specs.diff.Pairs.{Told, keyed, told_by, twins}
use Rattle.dump_commands.specs.diff.Sides.{Side, side_of}
use Rattle.dump_commands.specs.declared.diff.pairs.Told as code_told
use Rattle.dump_commands.specs.declared.diff.sides.Side as code

-- the number that a map has for a key; 0 where it has none
abbrev pub number_or : Option ℕ → ℕ
number_or None = 0
number_or (Some n) = n

abbrev pub number_at : BTreeMap (List ℕ) ℕ → List ℕ → ℕ
number_at counts d = number_or (get (slice_cmp nat_cmp) counts d)

-- a map has of each key how many of these documents have it
abbrev pub AreCounts : List Side → BTreeMap (List ℕ) ℕ → Type 0
AreCounts ss counts = (d : List ℕ) → number_at counts d ≡ length (keyed d ss)

-- the order of keys and numbers
abbrev pub place_cmp : List ℕ × ℕ → List ℕ × ℕ → Ordering
place_cmp x y = ordering_then (slice_cmp nat_cmp x.0 y.0) (nat_cmp x.1 y.1)

-- a map has these documents by their keys and their numbers
abbrev pub AreNumbered : List Side → BTreeMap (List ℕ × ℕ) (Bor code.Side) → Type 0
AreNumbered ss all = (d : List ℕ) (k : ℕ) → option_map (λ (s : Bor code.Side). side_of s.now) (get place_cmp all (d, k)) ≡ slice_get (keyed d ss) k

-- the order of keys and forms
abbrev pub twin_cmp : List ℕ × List ℕ → List ℕ × List ℕ → Ordering
twin_cmp x y = ordering_then (slice_cmp nat_cmp x.0 y.0) (slice_cmp nat_cmp x.1 y.1)

abbrev pub twins_at : BTreeMap (List ℕ × List ℕ) ℕ → (key form : List ℕ) → ℕ
twins_at counts key form = number_or (get twin_cmp counts (key, form))

-- a map has of each key and form how many of these documents have both, after as many of them were taken away as those others are
abbrev pub AreLeft : (ss taken : List Side) → BTreeMap (List ℕ × List ℕ) ℕ → Type 0
AreLeft ss taken counts = (key form : List ℕ) → twins_at counts key form ≡ length (twins key form ss) - length (twins key form taken)

-- documents of the code
abbrev pub sides_at : List (Bor code.Side) → List Side
sides_at ss = map (λ (s : Bor code.Side). side_of s.now) ss

-- what is found of a document, if anything is
abbrev pub told_list : Option code_told.Told → List Told
told_list None = []
told_list (Some t) = told_by t ∷ []
