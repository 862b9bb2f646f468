-- What is gathered of documents, and how that is printed.
use Rattle.std.specs.Prelude.{◌≡◌, ℕ, List, [], Bool, flat_map, length}
use Rattle.dump_io.specs.lines.Origins.{Origin}
use Rattle.dump_io.specs.declared.lines.style.Style.{Style}
use Rattle.dump_commands.specs.diff.Sides.{Side, Sides, sides_of, with_side}
use Rattle.dump_commands.specs.elements.Id.{ShowsId}
use Rattle.dump_commands.specs.state.Fields.{Field, Table, no_table, table_of, with_fields}
use Rattle.dump_commands.specs.state.Measures.{IsInRange, Measured, Ranked, measures_of, no_measures, range_lines, ranked_line, share_line, with_length, with_ranked, with_share}
use Rattle.dump_commands.specs.state.Seen.{either}
use Rattle.dump_commands.specs.declared.command.Summaries.{Summaries}
use Rattle.dump_commands.specs.declared.command.Summaries.TheVariants as summaries
use Rattle.dump_commands.specs.declared.state.gathered.Measure.{Measure}
use Rattle.dump_commands.specs.declared.state.gathered.Measure.TheVariants as measure
use Rattle.dump_commands.specs.declared.state.gathered.Gathered as code
use Rattle.dump_commands.specs.declared.state.kept.Kept.{Kept}

-- what is gathered of one document: its elements, and where it begins; the range of its length; its length and _id, and how many documents are kept;
-- its place, and how long a stretch is; which paths lead to an element in it; or whether it is in the first of two inputs, and what it is compared by
pub data Document : Type 0 where
  of_fields : Origin → List Field → Document
  of_length : (range : ℕ) → Document
  of_rank : (most : ℕ) → Ranked → Document
  of_place : (stretch : ℕ) → Origin → Document
  of_seen : List Bool → Document
  of_side : (of_old : Bool) → Side → Document

-- what was gathered of all: what was counted of paths, the lengths, which paths lead to an element in some document, and the documents that are
-- compared
pub record Gathered : Type 0 where
  pub table : Table
  pub measures : Measured
  pub seen : List Bool
  pub sides : Sides

-- nothing was gathered
abbrev pub nothing : (paths : ℕ) → Gathered
nothing paths = record { table = no_table paths; measures = no_measures; seen = []; sides = record { olds = []; news = [] } }

-- a document more
abbrev pub with_document : Gathered → Document → Gathered
with_document g (of_fields place fields) = record g { table = with_fields place g.table fields }
with_document g (of_length range) = record g { measures = with_length range g.measures }
with_document g (of_rank most r) = record g { measures = with_ranked most r g.measures }
with_document g (of_place stretch place) = record g { measures = with_share stretch place g.measures }
with_document g (of_seen flags) = record g { seen = either flags g.seen }
with_document g (of_side of_old s) = record g { sides = with_side g.sides of_old s }

-- what is gathered of the length of the document b, which begins there
abbrev pub IsMeasured : Measure → Origin → (b : List ℕ) → Document → Type 0
IsMeasured measure.Histogram place b d = (range : ℕ) × IsInRange (length b) range × (d ≡ of_length range)
IsMeasured (measure.Largest most) place b d = (id : List ℕ) × ShowsId b id × (d ≡ of_rank most (record { place = place; size = length b; id = id }))
IsMeasured (measure.Parts stretch) place b d = d ≡ of_place stretch place

-- after which inputs a line tells what was counted: the parts of a dump are told alone
abbrev pub summaries_of : Measure → Summaries
summaries_of measure.Histogram = summaries.Each
summaries_of (measure.Largest most) = summaries.Last
summaries_of (measure.Parts stretch) = summaries.Never

-- the lines of what was gathered of lengths
abbrev pub measure_lines : Style → Measure → Measured → List ℕ
measure_lines style measure.Histogram m = range_lines style 1 m.ranges
measure_lines style (measure.Largest most) m = flat_map ranked_line m.largest
measure_lines style (measure.Parts stretch) m = flat_map share_line m.shares

-- what the code gathered
abbrev pub gathered_of : code.Gathered → Gathered
gathered_of g = record { table = table_of g.paths; measures = measures_of g.measures; seen = g.seen.items; sides = sides_of g.sides }

abbrev pub tabled : Kept → Gathered
tabled kept = gathered_of kept.gathered

-- What the code tells of a document that is gathered. No public contract cites what follows.

-- what was gathered doesn't change
abbrev pub KeepsCounted : (old new : Kept) → Type 0
KeepsCounted old new = tabled new ≡ tabled old

-- what was written doesn't change
abbrev pub KeepsWritten : (old new : Kept) → Type 0
KeepsWritten old new = (new.count ≡ old.count) × (new.forms ≡ old.forms)
