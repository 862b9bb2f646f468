-- The canonical form of a document in the caller's room. The bytes b are the caller's, and so are the rooms for the form and
-- for a path, before and after.
use Rattle.std.specs.Prelude.{◌≡◌, ◌⊎◌, ◌<◌, ◌≤◌, ℕ, ℤ, List, ◌++◌, length, drop}
use Rattle.raw_bson.specs.Encoding.{encoded_len}
use Rattle.raw_bson.specs.Envelope.{IsEnvelope}
use Rattle.raw_bson.specs.Limits.{Limits}
use Rattle.raw_bson.specs.Number.{max_length}
use Rattle.raw_bson.specs.Tree.{Tree}
use Rattle.raw_bson.specs.WithinLimits.{ReadsWithin}
use Rattle.raw_form.specs.FormsWithin.{IsFormWithin}
use Rattle.bsonraw_c.specs.Iters.{Returns}
use Rattle.bsonraw_c.specs.Reports.{EndsWith, Fits, ReportsBarrier, ReportsRefusal, RunsOut, no_report}
use Rattle.bsonraw_c.specs.declared.codes.Status.{Status}
use Rattle.bsonraw_c.specs.declared.codes.Status.TheVariants as status
use Rattle.bsonraw_c.specs.declared.report.Report.{Report}

-- the room has these items at its front, and after them what stood there; where they don't fit, it is as it was
abbrev pub FillsRoom : {X : Type 0} → List X → List X → List X → Type 0
FillsRoom items before after =
    ((length items ≤ length before) × (after ≡ items ++ drop (length items) before))
    ⊎ ((length before < length items) × (after ≡ before))

-- The form of a document of `end` bytes is in the room; or the room is too small for it, and as it was. The form's bytes are
-- counted.
pub record PutsForm (end : ℕ) (form before after : List ℕ) (report : Report) (s : Status) : Type 0 where
  pub filled : FillsRoom form before after
  pub report_is : report ≡ record (no_report end) { count = length form }
  pub status_is : Fits (length form) (length before) s

-- the document b is read as a tree within the limits whose encoding would be too long
pub record FormIsTooLong (limits : Limits) (b room path : List ℕ) (report : Report) (s : Status) : Type 0 where
  pub tree : Tree
  pub read : ReadsWithin limits b tree
  pub long : max_length < encoded_len tree
  pub ends : EndsWith status.TooLong b room path report s

-- What is returned of the canonical form of the document b: that it is in the room, or that the room is too small for it. Else
-- the form would be too long, or the document has a first barrier, or memory ran out; and the room is as it was.
abbrev pub FormsIn : Limits → List ℕ → List ℕ → List ℕ → List ℕ → List ℕ → Report → Status → Type 0
FormsIn limits b before after room path report s =
    ((form : List ℕ) × IsFormWithin limits b form × PutsForm (length b) form before after report s × (path ≡ room))
    ⊎ (FormIsTooLong limits b room path report s × (after ≡ before))
    ⊎ (ReportsBarrier limits b room path report s × (after ≡ before))
    ⊎ (RunsOut limits b room path report s × (after ≡ before))

-- the same of any bytes
abbrev pub FormsBytes : Limits → List ℕ → List ℕ → List ℕ → List ℕ → List ℕ → Report → ℤ → Type 0
FormsBytes limits b before after room path report code =
    (IsEnvelope b × (s : Status) × FormsIn limits b before after room path report s × Returns s code)
    ⊎ (ReportsRefusal b room path report code × (after ≡ before))
