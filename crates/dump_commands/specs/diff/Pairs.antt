-- Which documents of OLD and NEW differ.
use Rattle.std.specs.Prelude.{◌≡◌, ◌+◌, ◌-◌, ◌&&◌, ◌++◌, ◌∷◌, ℕ, List, [], Bool, Option, None, Some, bytes_eq, cond, fold, length, map, nat_lt, slice_get}
use Rattle.std.specs.List.{filter}
use Rattle.dump_commands.specs.diff.Sides.{Side, Sides, side_of}
use Rattle.dump_commands.specs.declared.diff.pairs.Change as code
use Rattle.dump_commands.specs.declared.diff.pairs.Change.TheVariants as change
use Rattle.dump_commands.specs.declared.diff.pairs.Told as code_told
use Rattle.dump_commands.specs.declared.diff.pairs.Compared.{Compared}
use Rattle.dump_commands.specs.declared.diff.pairs.Differences.{Differences}

-- those of these documents that have this key and this form
abbrev pub twins : (key form : List ℕ) → List Side → List Side
twins key form ss = filter (λ (s : Side). bytes_eq s.key key && bytes_eq s.form form) ss

-- Whether a document is the same in the other input, where those came before it in its own: of those with one key and one form as many are the same as
-- both inputs have, the first ones of each.
abbrev pub has_twin : (others before : List Side) → Side → Bool
has_twin others before s = nat_lt (length (twins s.key s.form before)) (length (twins s.key s.form others))

-- the documents of one input that aren't the same in the other, where those came before the first
unfoldable pub left_after : (others before : List Side) → List Side → List Side
left_after others before [] = []
left_after others before (s ∷ ss) = cond (has_twin others before s) [] (s ∷ []) ++ left_after others (before ++ s ∷ []) ss

-- what is left of both
abbrev pub left_of : Sides → Sides
left_of all = record { olds = left_after all.news [] all.olds; news = left_after all.olds [] all.news }

-- what is found of a document that is left
pub data Change : Type 0 where
  -- its partner in NEW has another form
  changed : (new : Side) → Change
  -- it has no partner in NEW
  removed : Change
  -- it has no partner in OLD
  added : Change

-- those of these documents that have this key
abbrev pub keyed : (key : List ℕ) → List Side → List Side
keyed key ss = filter (λ (s : Side). bytes_eq s.key key) ss

-- The partner of a document among those that are left of the other input, where those came before it in its own: the first of a key is the partner of
-- the first of that key, the second of the second, and so on. Its form is another one, as what is the same in both isn't left.
abbrev pub partner_of : (others before : List Side) → Side → Option Side
partner_of others before s = slice_get (keyed s.key others) (length (keyed s.key before))

-- a document of which something is found, and what that is
abbrev pub Told : Type 0
Told = Side × Change

-- what is found of a document of OLD with this partner
abbrev pub told_old : Side → (partner : Option Side) → List Told
told_old s None = (s, removed) ∷ []
told_old s (Some new) = (s, changed new) ∷ []

-- what is found of a document of NEW with this partner; what is found of both is told of that of OLD
abbrev pub told_new : Side → (partner : Option Side) → List Told
told_new s None = (s, added) ∷ []
told_new s (Some old) = []

-- what is found of documents of one input, one after the other, where those came before the first
unfoldable pub told_after : (told_one : Side → Option Side → List Told) → (others before : List Side) → List Side → List Told
told_after told_one others before [] = []
told_after told_one others before (s ∷ ss) = told_one s (partner_of others before s) ++ told_after told_one others (before ++ s ∷ []) ss

-- what is found of all documents that are left of OLD, and then of NEW
abbrev pub told_in : (left : Sides) → List Told
told_in left = told_after told_old left.news [] left.olds ++ told_after told_new left.olds [] left.news

abbrev pub told_of : Sides → List Told
told_of all = told_in (left_of all)

-- no document is counted
abbrev pub no_differences : (same : ℕ) → Differences
no_differences same = record { same = same; changed = 0; removed = 0; added = 0 }

-- one more of which this is found
abbrev pub count_told : Differences → Told → Differences
count_told n (s, changed new) = record n { changed = n.changed + 1 }
count_told n (s, removed) = record n { removed = n.removed + 1 }
count_told n (s, added) = record n { added = n.added + 1 }

-- how many documents there are of each kind; those of OLD that aren't left are the same in NEW
abbrev pub differences_in : Sides → Differences
differences_in all = fold count_told (no_differences (length all.olds - length (left_of all).olds)) (told_of all)

-- some document isn't the same in both
abbrev pub is_different : Differences → Bool
is_different n = nat_lt 0 (n.changed + n.removed + n.added)

-- what the code finds of a document
abbrev pub change_of : code.Change → Change
change_of (change.Changed new) = changed (side_of new.now)
change_of change.Removed = removed
change_of change.Added = added

abbrev pub told_by : code_told.Told → Told
told_by t = (side_of t.side.now, change_of t.change)

-- what the code finds of all documents
pub record IsCompared (all : Sides) (compared : Compared) : Type 0 where
  pub told : map told_by compared.told.items ≡ told_of all
  pub counted : compared.differences ≡ differences_in all
