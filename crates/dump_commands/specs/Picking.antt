-- What is written of the elements of documents that are picked.
use Rattle.std.specs.Prelude.{◌≡◌, Bool, true, false, ℕ, List, [], ◌++◌, codes}
use Rattle.bson_to_json.specs.Json.{IsJson}
use Rattle.dump_commands.specs.elements.Chosen.{IsChosen}
use Rattle.dump_commands.specs.elements.Pick.{comma, parts}
use Rattle.dump_commands.specs.elements.Row.{IsRow, row_of}
use Rattle.dump_commands.specs.declared.picking.Choice.{Choice}
use Rattle.dump_commands.specs.declared.picking.Form.{Form}
use Rattle.dump_commands.specs.declared.picking.Form.TheVariants as form
use Rattle.dump_commands.specs.declared.picking.Picking.{Picking}

-- whether what is picked is written as BSON
abbrev pub is_dump : Form → Bool
is_dump form.Dump = true
is_dump (form.Json style) = false
is_dump (form.Row separator) = false

-- what is written of the elements that the paths of this text pick of the document b: their document; its text as Extended JSON, and a line feed; or the
-- row of the values to which the paths lead
abbrev pub IsPickedIn : Form → Choice → (b text made : List ℕ) → Type 0
IsPickedIn form.Dump choice b text made = IsChosen choice b text made
IsPickedIn (form.Json style) choice b text made =
    (document json : List ℕ) × IsChosen choice b text document × IsJson style document json × (made ≡ json ++ codes "\n")
IsPickedIn (form.Row separator) choice b text made = IsRow separator b (parts comma text) made

-- what is written before all that is picked: of rows the header, a row of the paths
abbrev pub header_in : Form → (text : List ℕ) → List ℕ
header_in form.Dump text = []
header_in (form.Json style) text = []
header_in (form.Row separator) text = row_of separator (parts comma text)

abbrev pub header_of : Picking → List ℕ
header_of picking = header_in picking.form picking.paths.now

-- what is written of the document b
abbrev pub IsPickedAs : Picking → List ℕ → List ℕ → Type 0
IsPickedAs picking b made = IsPickedIn picking.form picking.choice b picking.paths.now made
