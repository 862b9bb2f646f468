-- The values of a document at paths as a row of a table, in which commas or tabs are between the cells.
use Rattle.std.specs.Prelude.{◌≡◌, ◌⊎◌, ◌-◌, ℕ, ℤ, List, [], ◌∷◌, ◌++◌, Bool, true, Option, None, Some, bytes_eq, codes, cond, drop, flat_map, length, nat_eq, take}
use Rattle.std.specs.List.{list_any}
use Rattle.bson_to_json.specs.Dates.{HasInstantText, IsInstantText}
use Rattle.bson_to_json.specs.Json.{IsJson}
use Rattle.bson_to_json.specs.declared.style.Format.TheVariants.{Relaxed}
use Rattle.bson_to_json.specs.declared.style.Layout.TheVariants.{OneLine}
use Rattle.bson_to_json.specs.declared.style.Style.{Style}
use Rattle.bson_model.specs.Leaf.{date_time, string}
use Rattle.raw_view.specs.Frame.{Frame}
use Rattle.raw_view.specs.Frame.Format.{element_of, framed}
use Rattle.raw_view.specs.Meaning.{Means, value}
use Rattle.raw_view.specs.Meaning as raw
use Rattle.raw_view.specs.declared.element_type.ElementType.{ElementType}
use Rattle.raw_view.specs.declared.element_type.ElementType.TheVariants as kind
use Rattle.dump_commands.specs.elements.Pick.{LeadsTo, dot, parts}
use Rattle.dump_commands.specs.declared.picking.Separator.{Separator}
use Rattle.dump_commands.specs.declared.picking.Separator.TheVariants as separator
use Rattle.dump_commands.specs.declared.elements.cell.Content.{Content}
use Rattle.dump_commands.specs.declared.elements.cell.Content.TheVariants as content

-- the relaxed format, on one line
abbrev pub row_style : Style
row_style = record { format = Relaxed; layout = OneLine }

-- the Extended JSON of the value of a frame, as a document of it alone has it
abbrev pub IsValueText : Frame → List ℕ → Type 0
IsValueText f text = IsJson row_style (framed (element_of f.kind [] f.payload)) (codes "{\"\":" ++ (text ++ codes "}"))

-- The Extended JSON of an ObjectId, of a Decimal128, and of a Double that isn't finite is an object of one text in quotes, which comes after these bytes.
-- No value of another kind has such an object in a cell.
abbrev pub wrapper_of : ElementType → Option (List ℕ)
wrapper_of kind.ObjectId = Some (codes "{\"$oid\":\"")
wrapper_of kind.Decimal128 = Some (codes "{\"$numberDecimal\":\"")
wrapper_of kind.Double = Some (codes "{\"$numberDouble\":\"")
wrapper_of k = None

-- the text between the quotes, if these bytes come first; otherwise all
abbrev pub unwrapped : (wrapper : Option (List ℕ)) → (text : List ℕ) → List ℕ
unwrapped None text = text
unwrapped (Some wrapper) text =
    let rest = drop (length wrapper) text in
    cond (bytes_eq (take (length wrapper) text) wrapper) (take (length rest - 2) rest) text

-- what a cell has of a value of this kind: nothing of null; a string's own text; a time; of others Extended JSON
abbrev pub content_of : ElementType → Content
content_of kind.Null = content.Nothing
content_of kind.String = content.Own
content_of kind.DateTime = content.Time
content_of k = content.Json

-- The text of a value in a row: a time in ISO 8601, if it is in the years 0 to 9999; the Extended JSON without the object around one text.
abbrev pub IsCell : Content → Frame → List ℕ → Type 0
IsCell content.Nothing f text = text ≡ []
IsCell content.Own f text = Means f (value (raw.single (string text)))
IsCell content.Time f text =
    (millis : ℤ) × Means f (value (raw.single (date_time millis))) × (IsInstantText millis text ⊎ ((¬ HasInstantText millis) × IsValueText f text))
IsCell content.Json f text = (json : List ℕ) × IsValueText f json × (text ≡ unwrapped (wrapper_of f.kind) json)

-- the same of what is found; nothing where nothing is
abbrev pub IsCellOf : Option Frame → List ℕ → Type 0
IsCellOf None text = text ≡ []
IsCellOf (Some f) text = IsCell (content_of f.kind) f text

-- the text of the value to which a path leads in the document b
abbrev pub IsCellAt : (b path text : List ℕ) → Type 0
IsCellAt b path text = (goal : Option Frame) × LeadsTo b (parts dot path) goal × IsCellOf goal text

-- the texts of the values to which these paths lead, in their order
abbrev pub AreCells : (b : List ℕ) → (paths texts : List (List ℕ)) → Type 0
AreCells b [] [] = Unit {0}
AreCells b [] (text ∷ texts) = ⊥
AreCells b (path ∷ paths) [] = ⊥
AreCells b (path ∷ paths) (text ∷ texts) = IsCellAt b path text × AreCells b paths texts

-- whether a cell with this byte has quotes around it: a comma, a quote, a line feed or a carriage return (RFC 4180)
abbrev pub needs_quotes : ℕ → Bool
needs_quotes byte = cond (nat_eq byte 44) true (cond (nat_eq byte 34) true (cond (nat_eq byte 10) true (nat_eq byte 13)))

-- a byte between quotes: a quote is there twice
abbrev pub doubled : ℕ → List ℕ
doubled byte = cond (nat_eq byte 34) (34 ∷ 34 ∷ []) (byte ∷ [])

-- a byte of a cell between tabs: a tab, a line feed, a carriage return and a backslash are escaped
abbrev pub escaped : ℕ → List ℕ
escaped byte =
    cond (nat_eq byte 9) (codes "\\t") (cond (nat_eq byte 10) (codes "\\n") (cond (nat_eq byte 13) (codes "\\r") (cond (nat_eq byte 92) (codes "\\\\") (byte ∷ []))))

-- how a cell with this text is written
abbrev pub written : Separator → List ℕ → List ℕ
written separator.Comma text = cond (list_any needs_quotes text) (34 ∷ (flat_map doubled text ++ 34 ∷ [])) text
written separator.Tab text = flat_map escaped text

abbrev pub separator_byte : Separator → ℕ
separator_byte separator.Comma = 44
separator_byte separator.Tab = 9

-- cells with these texts, and what is between them
abbrev pub cells : Separator → (texts : List (List ℕ)) → List ℕ
cells s [] = []
cells s (text ∷ []) = written s text
cells s (text ∷ next ∷ texts) = written s text ++ separator_byte s ∷ cells s (next ∷ texts)

-- With commas no line is empty: an empty cell alone is in quotes, since readers pass over empty lines.
abbrev pub filled : Separator → (line : List ℕ) → List ℕ
filled separator.Comma [] = 34 ∷ 34 ∷ []
filled separator.Comma (byte ∷ line) = byte ∷ line
filled separator.Tab line = line

-- the row of cells with these texts
abbrev pub row_of : Separator → (texts : List (List ℕ)) → List ℕ
row_of s texts = filled s (cells s texts) ++ 10 ∷ []

-- the row of the values to which these paths lead in the document b
abbrev pub IsRow : Separator → List ℕ → (paths : List (List ℕ)) → (row : List ℕ) → Type 0
IsRow s b paths row = (texts : List (List ℕ)) × AreCells b paths texts × (row ≡ row_of s texts)
