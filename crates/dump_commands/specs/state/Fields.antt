-- What the elements of documents have under each path, and how that is printed.
use Rattle.std.specs.Prelude.{⊤, ◌+◌, ◌-◌, ◌≤◌, ℕ, List, [], ◌∷◌, ◌++◌, Bool, false, Option, None, Some, bytes_eq, codes, cond, decimal, drop, flat_map, fold, get_or, length, map, max, nat_eq, nat_lt, position, replicate, set, take}
use Rattle.std.specs.List.{AllByRecursion}
use Rattle.dump_io.specs.lines.Quoting.{quoted}
use Rattle.raw_form.specs.declared.token.Token.{Token}
use Rattle.raw_view.specs.Frame.Kind.{kind_text, tag_of}
use Rattle.raw_view.specs.declared.element_type.ElementType.{ElementType}
use Rattle.raw_view.specs.declared.element_type.ElementType.TheVariants as kind
use Rattle.dump_io.specs.lines.Origins.{Origin, origin_of}
use Rattle.dump_commands.specs.declared.state.fields.Level.{Level}
use Rattle.dump_commands.specs.declared.state.paths.Paths.{Paths}
use Rattle.dump_commands.specs.declared.state.rows.Row.{Row}

-- the elements of a level: what their paths begin with, and whether they are those of an array
pub record Around : Type 0 where
  pub prefix : List ℕ
  pub in_array : Bool

-- the level that no other is around
abbrev pub outermost : Around
outermost = record { prefix = []; in_array = false }

-- an element: its path, the tag of its kind, and how many bytes its value has
pub record Field : Type 0 where
  pub path : List ℕ
  pub tag : ℕ
  pub size : ℕ

-- The path of an element of the document b: the steps that lead to it, with points between. A step is a key; of an element of an array it
-- is two brackets.
abbrev pub path_of : List ℕ → Around → Token → List ℕ
path_of b around t = around.prefix ++ cond around.in_array (codes "[]") (take t.key_len (drop t.key_at b))

-- the elements inside the one with this path and tag
abbrev pub inside_of : (path : List ℕ) → (tag : ℕ) → Around
inside_of path tag = record { prefix = path ++ codes "."; in_array = nat_eq tag 4 }

-- the innermost of levels, the outermost of which is the first
abbrev pub innermost : List Around → Around
innermost levels = get_or levels (length levels - 1) outermost

-- an element that these levels are around, its own the innermost
abbrev pub field_of : List ℕ → List Around → Token → Field
field_of b levels t = record { path = path_of b (innermost levels) t; tag = t.tag; size = t.payload_len }

-- of these levels those around an element: its own and as many as its token says
abbrev pub levels_around : List Around → Token → List Around
levels_around levels t = take (t.depth + 1) levels

-- those around an element, and the one inside it, if it has elements inside
abbrev pub levels_behind : List ℕ → List Around → Token → List Around
levels_behind b levels t = cond (nat_lt 0 t.inside) (levels ++ inside_of (path_of b (innermost levels) t) t.tag ∷ []) levels

-- the elements of all levels of the document b, depth first, where these levels, or some of them, are around the first
abbrev pub fields_of : List ℕ → List Around → List Token → List Field
fields_of b levels [] = []
fields_of b levels (t ∷ ts) = field_of b (levels_around levels t) t ∷ fields_of b (levels_behind b (levels_around levels t) t) ts

-- What was counted: of a most of paths, in the order of their first elements, each with the first document that has it and its numbers;
-- and how many elements were left out, whose paths are others.
pub record Table : Type 0 where
  pub most : ℕ
  pub documents : ℕ
  pub paths : List (List ℕ)
  pub firsts : List Origin
  pub rows : List Row
  pub left_out : ℕ

-- nothing was counted
abbrev pub no_table : ℕ → Table
no_table most = record { most = most; documents = 0; paths = []; firsts = []; rows = []; left_out = 0 }

-- nothing was counted of a path
abbrev pub no_row : Row
no_row = record { kinds = replicate 22 0; documents = 0; last = 0; longest = 0 }

-- the place of a kind with this tag in a row: the tag; of MaxKey and MinKey, whose tags are 127 and 255, the two after those of the others
abbrev pub kind_place : ℕ → ℕ
kind_place tag = cond (nat_lt tag 20) tag (cond (nat_eq tag 127) 20 21)

-- a value more with this tag and this length, of the document with this number
abbrev pub count_value : (document tag size : ℕ) → Row → Row
count_value document tag size row = record {
  kinds = set row.kinds (kind_place tag) (get_or row.kinds (kind_place tag) 0 + 1);
  documents = cond (nat_eq row.last document) row.documents (row.documents + 1);
  last = document;
  longest = max row.longest size;
}

-- an element more that is left out
abbrev pub leave_out : Table → Table
leave_out t = record t { left_out = t.left_out + 1 }

-- a path more, with what was counted of it
abbrev pub with_path : Origin → Table → (path : List ℕ) → Row → Table
with_path place t path row = record t { paths = t.paths ++ path ∷ []; firsts = t.firsts ++ place ∷ []; rows = t.rows ++ row ∷ [] }

-- an element more, whose path has this number or is new; a new one is left out where there are as many as there may be
abbrev pub with_value : Origin → Table → Field → Option ℕ → Table
with_value place t f (Some n) = record t { rows = set t.rows n (count_value t.documents f.tag f.size (get_or t.rows n no_row)) }
with_value place t f None =
    cond (nat_lt (length t.paths) t.most)
    (with_path place t f.path (count_value t.documents f.tag f.size no_row))
    (leave_out t)

-- an element more of a document that begins there; one whose path has over 4,096 bytes is left out
abbrev pub with_field : Origin → Table → Field → Table
with_field place t f = cond (nat_lt 4096 (length f.path)) (leave_out t) (with_value place t f (position (bytes_eq f.path) t.paths))

-- a document more, without its elements
abbrev pub next_document : Table → Table
next_document t = record t { documents = t.documents + 1 }

-- a document more that begins there and has these elements
abbrev pub with_fields : Origin → Table → List Field → Table
with_fields place t fields = fold (with_field place) (next_document t) fields

-- the kinds in the order of their places
abbrev pub kinds : List ElementType
kinds =
    kind.Double ∷ kind.String ∷ kind.EmbeddedDocument ∷ kind.Array ∷ kind.Binary ∷ kind.Undefined ∷ kind.ObjectId ∷ kind.Boolean ∷ kind.DateTime ∷ kind.Null
    ∷ kind.RegularExpression ∷ kind.DbPointer ∷ kind.JavaScriptCode ∷ kind.Symbol ∷ kind.JavaScriptCodeWithScope ∷ kind.Int32 ∷ kind.Timestamp ∷ kind.Int64
    ∷ kind.Decimal128 ∷ kind.MaxKey ∷ kind.MinKey ∷ []

-- how many values of a kind there are, where there are any
abbrev pub kind_words : Row → ElementType → List ℕ
kind_words row k =
    let count = get_or row.kinds (kind_place (tag_of k)) 0 in
    cond (nat_lt 0 count) (kind_text k ++ codes ": " ++ decimal count ++ codes ", ") []

-- how many there are of each kind
unfoldable pub kinds_text : Row → List ℕ
kinds_text row = flat_map (kind_words row) kinds

-- in how many documents they are, and how many bytes the longest of them has
unfoldable pub numbers_text : Row → List ℕ
numbers_text row = codes "documents: " ++ decimal row.documents ++ codes ", longest: " ++ decimal row.longest

-- where the first of these documents begins
unfoldable pub first_text : Origin → List ℕ
first_text first = codes ", first: " ++ quoted first.name ++ codes ":" ++ decimal first.offset ++ codes "\n"

-- the line of a path
abbrev pub row_line : (path : List ℕ) → (first : Origin) → Row → List ℕ
row_line path first row =
    quoted path ++ codes ": " ++ kinds_text row ++ numbers_text row ++ first_text first

-- the lines of paths
abbrev pub rows_text : List (List ℕ) → List Origin → List Row → List ℕ
rows_text (path ∷ paths) (first ∷ firsts) (row ∷ rows) = row_line path first row ++ rows_text paths firsts rows
rows_text _ _ _ = []

-- the lines of all paths, and how many elements were left out
abbrev pub table_text : Table → List ℕ
table_text t = rows_text t.paths t.firsts t.rows ++ codes "paths: " ++ decimal (length t.paths) ++ codes ", elements left out: " ++ decimal t.left_out ++ codes "\n"

-- what the code counted
abbrev pub table_of : Paths → Table
table_of p = record {
  most = p.most;
  documents = p.documents;
  paths = map (λ text. text.items) p.texts.keys;
  firsts = map origin_of p.firsts.items;
  rows = p.rows.items;
  left_out = p.left_out;
}

-- What the code tells of a document that is counted. No public contract cites what follows.

-- a level of the code, where this is the path of an element in it or inside it
abbrev pub level_of : List ℕ → Level → Around
level_of path level = record { prefix = take level.prefix path; in_array = level.in_array }

abbrev pub levels_of : List ℕ → List Level → List Around
levels_of path levels = map (level_of path) levels

-- no prefix of a level is longer than those of the levels inside it
abbrev pub IsAscending : List Level → Type 0
IsAscending [] = ⊤
IsAscending (level ∷ levels) = AllByRecursion (λ l. level.prefix ≤ l.prefix) levels × IsAscending levels

-- each has at most this number of bytes
abbrev pub AreWithin : ℕ → List Level → Type 0
AreWithin len levels = AllByRecursion (λ level. level.prefix ≤ len) levels

-- levels of the code one inside the other, whose prefixes this path begins with
abbrev pub AreLevels : List ℕ → List Level → Type 0
AreLevels path levels = IsAscending levels × AreWithin (length path) levels
