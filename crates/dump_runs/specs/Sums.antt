-- The lines that tell what was counted: after one input, and after all.
use Rattle.std.specs.Prelude.{◌≡◌, ◌⊎◌, ◌++◌, ℕ, List, [], Bool, false, Option, None, Some}
use Rattle.std.specs.Io.KnownBytes.{Appends}
use Rattle.dump_io.specs.input.Done.{CutInput}
use Rattle.dump_io.specs.lines.Fronts.{HasFront}
use Rattle.dump_commands.specs.Commands.{compares, profile_of, summary_line}
use Rattle.dump_commands.specs.Gathering.{lines_of}
use Rattle.dump_commands.specs.Summary.{text_summary}
use Rattle.dump_commands.specs.diff.Lines.{TellsDifferences, TellsFront, uncompared_line}
use Rattle.dump_commands.specs.diff.Pairs.{differences_in, is_different}
use Rattle.dump_commands.specs.diff.Sides.{Sides}
use Rattle.dump_commands.specs.state.Gathered.{tabled}
use Rattle.dump_commands.specs.state.Forms.{written_count}
use Rattle.dump_commands.specs.declared.command.Summaries.{Summaries}
use Rattle.dump_commands.specs.declared.command.Summaries.TheVariants as summaries
use Rattle.dump_commands.specs.declared.counts.Counts.{Counts}
use Rattle.dump_commands.specs.declared.diff.sides.Comparing.{Comparing}
use Rattle.dump_commands.specs.declared.diff.tell.Telling.{Telling}
use Rattle.dump_commands.specs.declared.job.Job.{Job}
use Rattle.dump_commands.specs.declared.state.kept.Kept.{Kept}
use Rattle.dump_runs.specs.declared.reading.Reading.{Reading}
use Rattle.dump_runs.specs.declared.reading.Reading.TheVariants as reading

-- a line, if there is one after each input
abbrev pub after_each : Summaries → List ℕ → List ℕ
after_each summaries.Never line = []
after_each summaries.Last line = []
after_each summaries.Each line = line

-- a line, if there is one after all of them
abbrev pub after_all : Summaries → List ℕ → List ℕ
after_all summaries.Never line = []
after_all summaries.Last line = line
after_all summaries.Each line = line

-- the line that tells what was counted of one dump, if the command has one after each
abbrev pub input_line : Job → List ℕ → Counts → List ℕ
input_line job name n = after_each (profile_of job.command).summaries (summary_line job.style (Some name) None job.command n 0)

-- the line that tells what was counted of all, if the command has one
abbrev pub last_line : Job → Counts → Kept → List ℕ
last_line job n kept = after_all (profile_of job.command).summaries (summary_line job.style None job.limit job.command n (written_count kept))

-- the lines of what was gathered of all
abbrev pub gathered_lines : Job → Kept → List ℕ
gathered_lines job kept = lines_of job.style job.command (tabled kept)

-- these, and then what was counted
abbrev pub all_line : Job → Counts → Kept → List ℕ
all_line job n kept = gathered_lines job kept ++ last_line job n kept

-- the same of any input; after one of texts there is none
abbrev pub line_of_input : Reading → List ℕ → Counts → List ℕ
line_of_input (reading.Dumps job) name n = input_line job name n
line_of_input (reading.Texts job) name n = []

-- Two inputs that are compared. Where documents are read again, the bytes of the input of each name are known or not.
module _ (job : Job) (bytes_of : List ℕ → Option (List ℕ)) where
  -- how it is told which documents differ
  abbrev pub telling_of : Comparing → Telling
  telling_of comparing = record { limits = job.limits; style = job.style; comparing = comparing }

  -- what is told of the documents of both, where this is the first input that isn't read to its end: if there is one, that they aren't compared
  abbrev pub TellsCompared : Option CutInput → Comparing → Sides → List ℕ → Type 0
  TellsCompared None comparing all text = TellsDifferences (telling_of comparing) bytes_of all text
  TellsCompared (Some cut) comparing all text = text ≡ uncompared_line job.style cut.name

  -- a front of that
  abbrev pub TellsComparedFront : Option CutInput → Comparing → Sides → List ℕ → Type 0
  TellsComparedFront None comparing all front = TellsFront (telling_of comparing) bytes_of all front
  TellsComparedFront (Some cut) comparing all front = HasFront (uncompared_line job.style cut.name) front

  -- the same of a command that may compare none
  abbrev pub TellsIfCompared : Option CutInput → Option Comparing → Sides → List ℕ → Type 0
  TellsIfCompared cut None all text = text ≡ []
  TellsIfCompared cut (Some comparing) all text = TellsCompared cut comparing all text

  abbrev pub TellsIfComparedFront : Option CutInput → Option Comparing → Sides → List ℕ → Type 0
  TellsIfComparedFront cut None all front = front ≡ []
  TellsIfComparedFront cut (Some comparing) all front = TellsComparedFront cut comparing all front

-- the documents of two inputs that are compared: none where a command compares none, or an input isn't read to its end
abbrev pub if_compared : Option CutInput → Option Comparing → Sides → Option Sides
if_compared None (Some comparing) all = Some all
if_compared None None all = None
if_compared (Some cut) comparing all = None

-- whether some document isn't the same in both, where documents are compared
abbrev pub differ : Option Sides → Bool
differ None = false
differ (Some all) = is_different (differences_in all)

-- what came of all inputs: the first that isn't read to its end, what was counted, and what is kept
pub record Sum : Type 0 where
  pub cut : Option CutInput
  pub counts : Counts
  pub kept : Kept

-- the documents that are compared
abbrev pub compared_by : Reading → Sum → Option Sides
compared_by (reading.Dumps job) sum = if_compared sum.cut (compares job.command) (tabled sum.kept).sides
compared_by (reading.Texts job) sum = None

-- whether they are known to differ
abbrev pub differs_by : Reading → Sum → Bool
differs_by r sum = differ (compared_by r sum)

-- What is told of all inputs, where the bytes of each are known or not: of two that are compared which documents differ; and the lines of all.
abbrev pub TellsAll : Reading → (bytes_of : List ℕ → Option (List ℕ)) → Sum → List ℕ → Type 0
TellsAll (reading.Dumps job) bytes_of sum text =
    (compared : List ℕ) × TellsIfCompared job bytes_of sum.cut (compares job.command) (tabled sum.kept).sides compared
    × (text ≡ compared ++ all_line job sum.counts sum.kept)
TellsAll (reading.Texts job) bytes_of sum text = text ≡ text_summary job.style job.limit sum.counts

-- a front of that
abbrev pub TellsAllFront : Reading → (bytes_of : List ℕ → Option (List ℕ)) → Sum → List ℕ → Type 0
TellsAllFront (reading.Dumps job) bytes_of sum front =
    TellsIfComparedFront job bytes_of sum.cut (compares job.command) (tabled sum.kept).sides front
    ⊎ ((text : List ℕ) × TellsAll (reading.Dumps job) bytes_of sum text × HasFront text front)
TellsAllFront (reading.Texts job) bytes_of sum front = HasFront (text_summary job.style job.limit sum.counts) front

-- it is written, or a front of it, which may be empty
abbrev pub WritesAll : Reading → (bytes_of : List ℕ → Option (List ℕ)) → Sum → (old new : Option (List ℕ)) → Type 0
WritesAll r bytes_of sum old new = (text : List ℕ) × TellsAll r bytes_of sum text × Appends old new text

abbrev pub WritesAllFront : Reading → (bytes_of : List ℕ → Option (List ℕ)) → Sum → (old new : Option (List ℕ)) → Type 0
WritesAllFront r bytes_of sum old new = (front : List ℕ) × TellsAllFront r bytes_of sum front × Appends old new front
