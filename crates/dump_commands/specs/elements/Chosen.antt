-- Which elements of a document are picked.
use Rattle.std.specs.Prelude.{ℕ, List, false, true}
use Rattle.dump_commands.specs.elements.Cut.{IsCutAt}
use Rattle.dump_commands.specs.elements.Pick.{IsPicked}
use Rattle.dump_commands.specs.declared.picking.Choice.{Choice}
use Rattle.dump_commands.specs.declared.picking.Choice.TheVariants as choice

-- the document that the paths of this text pick of the document b: that of the elements to which they lead, each under its path; b with the
-- elements alone that they name, or without these
abbrev pub IsChosen : Choice → (b text document : List ℕ) → Type 0
IsChosen choice.Named b text document = IsPicked b text document
IsChosen choice.InPlace b text document = IsCutAt false b text document
IsChosen choice.Others b text document = IsCutAt true b text document
