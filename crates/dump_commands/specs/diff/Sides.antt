-- What is gathered of the documents of two inputs that are compared, OLD and NEW.
use Rattle.std.specs.Prelude.{◌≡◌, ◌++◌, ◌∷◌, ℕ, List, [], Bool, true, false, bytes_eq, cond, length, map, nat_lt}
use Rattle.raw_form.specs.FormsWithin.{IsFormWithin}
use Rattle.raw_tree.specs.declared.reader.limits.Limits.{Limits}
use Rattle.dump_io.specs.lines.Origins.{Origin, origin_of}
use Rattle.dump_commands.specs.elements.Pick.{IsPicked}
use Rattle.dump_commands.specs.state.Forms.{digest_of}
use Rattle.dump_commands.specs.declared.diff.sides.Comparing.{Comparing}
use Rattle.dump_commands.specs.declared.diff.sides.Side as code
use Rattle.dump_commands.specs.declared.diff.sides.Sides as code_sides

-- a document
pub record Side : Type 0 where
  -- where it begins
  pub place : Origin
  -- how many bytes it has
  pub size : ℕ
  -- the digest of its key
  pub key : List ℕ
  -- the digest of its canonical form
  pub form : List ℕ

-- The key of a document with this form: the document of the elements to which these paths lead, each under its path. If it has no element, which is
-- so of five bytes, the form comes after it: a document without such elements has the key of those alone that have the same form.
abbrev pub IsKey : (paths form key : List ℕ) → Type 0
IsKey paths form key = (picked : List ℕ) × IsPicked form paths picked × (key ≡ picked ++ cond (nat_lt 5 (length picked)) [] form)

-- What is gathered of the document b, which begins there and has no damage. Of one that is damaged or too deep nothing is gathered: it has no partner, and
-- isn't counted among the documents that differ or are the same. The line and the counts of damage tell of it.
abbrev pub IsSide : Limits → (paths : List ℕ) → Origin → (b : List ℕ) → Side → Type 0
IsSide limits paths place b s =
    (form : List ℕ) × (key : List ℕ) × IsFormWithin limits b form × IsKey paths form key
    × (s ≡ record { place = place; size = length b; key = digest_of key; form = digest_of form })

-- whether a document that begins there is in OLD; any other is in NEW
abbrev pub is_old : Comparing → Origin → Bool
is_old comparing place = bytes_eq place.name comparing.old.now

-- the documents of both inputs, in order
pub record Sides : Type 0 where
  pub olds : List Side
  pub news : List Side

-- a document more
abbrev pub with_side : Sides → (of_old : Bool) → Side → Sides
with_side all true s = record all { olds = all.olds ++ s ∷ [] }
with_side all false s = record all { news = all.news ++ s ∷ [] }

-- what the code gathered
abbrev pub side_of : code.Side → Side
side_of s = record { place = origin_of s.place; size = s.size; key = s.key; form = s.form }

abbrev pub sides_of : code_sides.Sides → Sides
sides_of all = record { olds = map side_of all.olds.items; news = map side_of all.news.items }
