-- Paths by numbers, and leaves by those of their paths, as the code holds them. No public contract cites what is here.
use Rattle.std.specs.Prelude.{◌≡◌, ◌<◌, ◌+◌, ◌&&◌, ◌||◌, ⊤, ℕ, zero, suc, List, [], ◌∷◌, ◌++◌, Bool, true, false, bytes_eq, codes, cond, decimal, drop, flat_map, fold, get_or, length, map, nat_eq, take}
use Rattle.std.specs.BTreeMap.{get}
use Rattle.std.specs.BTreeSet.{BTreeSet, contains}
use Rattle.std.specs.Cmp.Lexicographic.{slice_cmp}
use Rattle.std.specs.List.{AllByRecursion, list_any, position_from}
use Rattle.std.specs.Ordering.{nat_cmp, ordering_then}
use Rattle.std.specs.declared.cmp.Ordering.{Ordering}
use denote.Ref.{Bor}
use Rattle.raw_form.specs.declared.token.Token.{Token}
use Rattle.dump_commands.specs.elements.Changes.{Leaf, is_inside}
use Rattle.dump_commands.specs.declared.elements.changes.leaves.Leaf as code
use Rattle.dump_commands.specs.declared.elements.changes.numbers.Numbers.{Numbers}
use Rattle.dump_commands.specs.declared.elements.changes.numbers.Step.{Step}

-- one path more: a key after a path that has a number
abbrev pub with_step : List (List (List ℕ)) → Step → List (List (List ℕ))
with_step paths s = paths ++ (get_or paths s.before [] ++ s.key.now ∷ []) ∷ []

-- the paths in the order of their numbers, the first of them empty
abbrev pub paths_by : List Step → List (List (List ℕ))
paths_by steps = fold with_step ([] ∷ []) steps

abbrev pub paths_of : Numbers → List (List (List ℕ))
paths_of numbers = paths_by numbers.steps.items

-- each of these steps follows a path with a lower number, where the first one makes that with this number
abbrev pub AreAfter : (number : ℕ) → List Step → Type 0
AreAfter number [] = ⊤
AreAfter number (s ∷ steps) = (s.before < number) × AreAfter (suc number) steps

-- the order in which the numbers of paths are kept
abbrev pub step_cmp : ℕ × Bor (List ℕ) → ℕ × Bor (List ℕ) → Ordering
step_cmp x y = ordering_then (nat_cmp x.0 y.0) (slice_cmp nat_cmp x.1.now y.1.now)

-- whether this is the step with a key after the path with a number
abbrev pub is_step : ℕ × Bor (List ℕ) → Step → Bool
is_step q s = nat_eq q.0 s.before && bytes_eq q.1.now s.key.now

-- no two of these paths are the same
abbrev pub AreApart : List (List (List ℕ)) → Type 0
AreApart paths = (i j : ℕ) → i < length paths → j < length paths → get_or paths i [] ≡ get_or paths j [] → i ≡ j

-- each path has one number, which is found by its step
pub record AreNumbered (numbers : Numbers) : Type 0 where
  pub order : AreAfter 1 numbers.steps.items
  pub found : (q : ℕ × Bor (List ℕ)) → get step_cmp numbers.numbers q ≡ position_from (is_step q) 1 numbers.steps.items
  pub apart : AreApart (paths_of numbers)

-- these paths begin with those
abbrev pub Extends : (before after : List (List (List ℕ))) → Type 0
Extends before after = (more : List (List (List ℕ))) × (after ≡ before ++ more)

-- after this the path has this number
pub record HasNumber (before : List (List (List ℕ))) (path : List (List ℕ)) (number : ℕ) (after : List (List (List ℕ))) : Type 0 where
  pub extends : Extends before after
  pub within : number < length after
  pub is_path : get_or after number [] ≡ path

-- the path of an element of the document b, where the levels around it have these paths, the outermost first
abbrev pub path_after : List ℕ → (around : List (List (List ℕ))) → Token → List (List ℕ)
path_after b around t = get_or around t.depth [] ++ take t.key_len (drop t.key_at b) ∷ []

-- what is compared of the bytes of its value
abbrev pub compared_at : List ℕ → Token → List ℕ
compared_at b t = cond (nat_eq t.tag 3 || nat_eq t.tag 4) [] (take t.payload_len (drop t.payload_at b))

-- its leaf
abbrev pub leaf_at : List ℕ → (around : List (List (List ℕ))) → Token → Leaf
leaf_at b around t = record { path = path_after b around t; tag = t.tag; bytes = compared_at b t }

-- the paths of the levels around it, and of that inside it
abbrev pub around_next : List ℕ → (around : List (List (List ℕ))) → Token → List (List (List ℕ))
around_next b around t = take (t.depth + 1) around ++ path_after b around t ∷ []

-- the leaves of elements with these tokens
abbrev pub leaves_from : List ℕ → (around : List (List (List ℕ))) → List Token → List Leaf
leaves_from b around [] = []
leaves_from b around (t ∷ ts) = leaf_at b around t ∷ leaves_from b (around_next b around t) ts

-- paths by their numbers
abbrev pub at_numbers : List (List (List ℕ)) → List ℕ → List (List (List ℕ))
at_numbers paths numbers = map (λ (n : ℕ). get_or paths n []) numbers

-- each of these is the number of one of `count` paths
abbrev pub AreWithin : ℕ → List ℕ → Type 0
AreWithin count numbers = AllByRecursion (λ (n : ℕ). n < count) numbers

-- a leaf of the code
abbrev pub leaf_in : List (List (List ℕ)) → code.Leaf → Leaf
leaf_in paths l = record { path = get_or paths l.path []; tag = l.tag; bytes = l.bytes.now }

abbrev pub leaves_in : List (List (List ℕ)) → List code.Leaf → List Leaf
leaves_in paths leaves = map (leaf_in paths) leaves

abbrev pub numbers_of : List code.Leaf → List ℕ
numbers_of leaves = map (λ (l : code.Leaf). l.path) leaves

-- the order of leaves
abbrev pub leaf_cmp : code.Leaf → code.Leaf → Ordering
leaf_cmp x y = ordering_then (nat_cmp x.path y.path) (ordering_then (nat_cmp x.tag y.tag) (slice_cmp nat_cmp x.bytes.now y.bytes.now))

-- whether two leaves are the same
abbrev pub is_alike : code.Leaf → code.Leaf → Bool
is_alike x y = nat_eq x.path y.path && (nat_eq x.tag y.tag && bytes_eq x.bytes.now y.bytes.now)

-- the number of the path of a leaf, unless it is among the others
abbrev pub number_unless : (others : List code.Leaf) → code.Leaf → List ℕ
number_unless others leaf = cond (list_any (is_alike leaf) others) [] (leaf.path ∷ [])

abbrev pub lacking : (leaves others : List code.Leaf) → List ℕ
lacking leaves others = flat_map (number_unless others) leaves

-- the same of those that a set lacks
abbrev pub number_unless_in : BTreeSet code.Leaf → code.Leaf → List ℕ
number_unless_in set leaf = cond (contains leaf_cmp set leaf) [] (leaf.path ∷ [])

abbrev pub lacking_in : BTreeSet code.Leaf → List code.Leaf → List ℕ
lacking_in set leaves = flat_map (number_unless_in set) leaves

-- these numbers, and one more, unless it is among them
abbrev pub with_number : List ℕ → ℕ → List ℕ
with_number numbers n = cond (list_any (nat_eq n) numbers) numbers (numbers ++ n ∷ [])

-- a set has these leaves
abbrev pub IsSetOf : BTreeSet code.Leaf → List code.Leaf → Type 0
IsSetOf set leaves = (q : code.Leaf) → contains leaf_cmp set q ≡ list_any (is_alike q) leaves

-- a set has these numbers
abbrev pub AreKnown : BTreeSet ℕ → List ℕ → Type 0
AreKnown set numbers = (n : ℕ) → contains nat_cmp set n ≡ list_any (nat_eq n) numbers

-- whether a path is inside any of the others
abbrev pub is_in_any : (others : List (List (List ℕ))) → List (List ℕ) → Bool
is_in_any others path = list_any (is_inside path) others

-- what follows the paths that are shown: how many more there are; or, where there is no path, that the order differs
abbrev pub after_paths : (is_first : Bool) → (more : ℕ) → List ℕ
after_paths true zero = codes "the order of elements"
after_paths false zero = []
after_paths true (suc n) = codes "and " ++ decimal (suc n) ++ codes " more"
after_paths false (suc n) = codes ", " ++ (codes "and " ++ decimal (suc n) ++ codes " more")
