-- The text of a document as Extended JSON in the caller's room. The bytes b are the caller's, and so are the rooms for the text
-- and for a path, before and after.
use Rattle.std.specs.Prelude.{◌≡◌, ◌⊎◌, ℕ, ℤ, suc, zero, List, [], ◌∷◌, ◌++◌, length}
use Rattle.bson_to_json.specs.Json.{IsJson}
use Rattle.bson_to_json.specs.declared.style.Format.{Format}
use Rattle.bson_to_json.specs.declared.style.Format.TheVariants.{Canonical, Relaxed}
use Rattle.bson_to_json.specs.declared.style.Layout.{Layout}
use Rattle.bson_to_json.specs.declared.style.Layout.TheVariants.{Indented, OneLine}
use Rattle.bson_to_json.specs.declared.style.Style.{Style}
use Rattle.raw_bson.specs.Envelope.{IsEnvelope}
use Rattle.raw_bson.specs.Limits.{Limits}
use Rattle.raw_bson.specs.Tree.{Tree}
use Rattle.raw_bson.specs.WithinLimits.{ReadsWithin}
use Rattle.bsonraw_c.specs.Forms.{FillsRoom}
use Rattle.bsonraw_c.specs.Iters.{Returns}
use Rattle.bsonraw_c.specs.Reports.{Fits, ReportsBarrier, ReportsRefusal, RunsOut, no_report}
use Rattle.bsonraw_c.specs.declared.codes.Status.{Status}
use Rattle.bsonraw_c.specs.declared.report.Report.{Report}

-- the format that a flag names, and the layout
abbrev pub format_of : ℕ → Format
format_of zero = Relaxed
format_of (suc n) = Canonical

abbrev pub layout_of : ℕ → Layout
layout_of zero = OneLine
layout_of (suc n) = Indented

abbrev pub style_of : ℕ → ℕ → Style
style_of canonical indented = record { format = format_of canonical; layout = layout_of indented }

-- The text with a 0 after it is in the room; or the room is too small for both, and as it was. The text's bytes without the 0 are
-- counted.
pub record PutsJson (end : ℕ) (text before after : List ℕ) (report : Report) (s : Status) : Type 0 where
  pub filled : FillsRoom (text ++ (0 ∷ [])) before after
  pub report_is : report ≡ record (no_report end) { count = length text }
  pub status_is : Fits (suc (length text)) (length before) s

-- the document b, which is read as a tree within the limits, has a text, and it is put
pub record HasJson (style : Style) (limits : Limits) (b before after room path : List ℕ) (report : Report) (s : Status) : Type 0 where
  pub tree : Tree
  pub read : ReadsWithin limits b tree
  pub text : List ℕ
  pub is_text : IsJson style b text
  pub puts : PutsJson (length b) text before after report s
  pub path_is : path ≡ room

-- What is returned of the text of the document b: that it is in the room, or that the room is too small for it. Else the
-- document has a first barrier, or memory ran out; and the room is as it was.
abbrev pub JsonIn : Style → Limits → List ℕ → List ℕ → List ℕ → List ℕ → List ℕ → Report → Status → Type 0
JsonIn style limits b before after room path report s =
    HasJson style limits b before after room path report s
    ⊎ (ReportsBarrier limits b room path report s × (after ≡ before))
    ⊎ (RunsOut limits b room path report s × (after ≡ before))

-- the same of any bytes
abbrev pub JsonBytes : Style → Limits → List ℕ → List ℕ → List ℕ → List ℕ → List ℕ → Report → ℤ → Type 0
JsonBytes style limits b before after room path report code =
    (IsEnvelope b × (s : Status) × JsonIn style limits b before after room path report s × Returns s code)
    ⊎ (ReportsRefusal b room path report code × (after ≡ before))
