-- Where documents begin.
use Rattle.std.specs.Prelude.{ℕ, List}
use Rattle.dump_io.specs.declared.lines.origin.Origin as origin

-- where a document begins: the name of its input, and the offset in it
pub record Origin : Type 0 where
  pub name : List ℕ
  pub offset : ℕ

abbrev pub origin_at : List ℕ → ℕ → Origin
origin_at name offset = record { name = name; offset = offset }

-- an origin of the code
abbrev pub origin_of : origin.Origin → Origin
origin_of place = origin_at place.name.now place.offset

-- a document whose form came before: where it is, and where the first of that form is
pub record Repeat : Type 0 where
  pub place : Origin
  pub first : Origin
