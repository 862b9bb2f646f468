-- Inputs that aren't read to their end.
use Rattle.std.specs.Prelude.{ℕ, List, Bool}
use Rattle.dump_io.specs.declared.input.done.Cut.{Cut}

-- an input that isn't read to its end: its name, and whether bytes could be passed over in it
pub record CutInput : Type 0 where
  pub name : List ℕ
  pub goes_on : Bool

-- such an input of the code
abbrev pub cut_of : Cut → CutInput
cut_of cut = record { name = cut.name.now; goes_on = cut.goes_on }

abbrev pub input_of : List ℕ → Bool → CutInput
input_of name goes_on = record { name = name; goes_on = goes_on }
