-- What is so of each command that prints lines of documents, and what any command reports of one in which something is found; and fronts of that.
use Rattle.std.specs.Prelude.{◌≡◌, ℕ, List, [], ◌++◌, Option, None, Some, false, flat_map, true, ◌⊎◌}
use Rattle.dump_io.specs.lines.Find.{Account}
use Rattle.dump_commands.specs.elements.Listing.{ListsDocument, HasListingFront}
use Rattle.dump_commands.specs.elements.Showing.{ShowsPiece, ShowsPieceFront}
use Rattle.dump_io.specs.lines.Told.{line, repeat_line, report_line as told_of, head_text}
use Rattle.dump_io.specs.lines.Origins.{Origin, Repeat}
use Rattle.dump_commands.specs.declared.command.Breaches.TheVariants as breaches
use Rattle.dump_commands.specs.declared.command.Command.{Command}
use Rattle.dump_commands.specs.declared.command.Command.TheVariants as command
use Rattle.dump_commands.specs.declared.command.Profile.{Profile}
use Rattle.dump_commands.specs.declared.command.Summaries.TheVariants as summaries
use Rattle.dump_commands.specs.declared.reporting.Report.{Report}
use Rattle.dump_commands.specs.declared.reporting.Report.TheVariants as report
use Rattle.dump_io.specs.declared.lines.find.Finding.{Finding}
use Rattle.dump_io.specs.declared.lines.find.Finding.TheVariants as finding
use Rattle.dump_io.specs.declared.lines.style.Style.{Style}
use Rattle.dump_io.specs.lines.Fronts.{HasFront}

-- what is so of each: check, list and show look into documents, check names those that aren't canonical, and check and count tell what they counted
abbrev pub report_profile : Report → Profile
report_profile report.Check = record { looks = true; breaches = breaches.Found; summaries = summaries.Each }
report_profile report.List = record { looks = true; breaches = breaches.Ignored; summaries = summaries.Never }
report_profile (report.Show most) = record { looks = true; breaches = breaches.Ignored; summaries = summaries.Never }
report_profile report.Count = record { looks = false; breaches = breaches.Ignored; summaries = summaries.Each }
report_profile report.Sizes = record { looks = false; breaches = breaches.Ignored; summaries = summaries.Never }

-- the line of a document of which this is told; none of nothing
abbrev pub told_line : Style → Origin → Option Account → List ℕ
told_line style at None = []
told_line style at (Some told) = told_of style at.name at.offset told

-- the first line on a document b that begins there: of check what is told of it; of list, show and sizes its length, and what is told
abbrev pub report_line : Report → Style → Origin → List ℕ → Option Account → List ℕ
report_line report.Check style at b told = told_line style at told
report_line report.List style at b told = line at.name at.offset (head_text b told)
report_line (report.Show most) style at b told = line at.name at.offset (head_text b told)
report_line report.Count style at b told = []
report_line report.Sizes style at b told = line at.name at.offset (head_text b told)

-- the lines after it, of a document b at this offset: list has one for each element, and show those of its bytes
abbrev pub HasOthers : Report → (offset : ℕ) → List ℕ → List ℕ → Type 0
HasOthers report.Check offset b lines = lines ≡ []
HasOthers report.List offset b lines = ListsDocument b lines
HasOthers (report.Show most) offset b lines = ShowsPiece most offset b lines
HasOthers report.Count offset b lines = lines ≡ []
HasOthers report.Sizes offset b lines = lines ≡ []

-- a front of them
abbrev pub HasOthersFront : Report → (offset : ℕ) → List ℕ → List ℕ → Type 0
HasOthersFront report.Check offset b front = front ≡ []
HasOthersFront report.List offset b front = HasListingFront b front
HasOthersFront (report.Show most) offset b front = ShowsPieceFront most offset b front
HasOthersFront report.Count offset b front = front ≡ []
HasOthersFront report.Sizes offset b front = front ≡ []

-- the line of a document in which this is found that is left out: it is damaged or too deep
abbrev pub damage_line : Style → Origin → Finding → Option Account → List ℕ
damage_line style at finding.Canonical told = []
damage_line style at finding.Breached told = []
damage_line style at finding.Damaged told = told_line style at told
damage_line style at finding.TooDeep told = told_line style at told
damage_line style at finding.Unvalidated told = []

-- the first line that a command reports of a document b that begins there, in which this is found
abbrev pub first_line : Command → Style → Origin → List ℕ → Finding → Option Account → List ℕ
first_line (command.Prints r) style at b found told = report_line r style at b told
first_line (command.Gathers g) style at b found told = damage_line style at found told
first_line (command.Writes m) style at b found told = damage_line style at found told

-- the lines after it, of a document b at this offset
abbrev pub Lists : Command → (offset : ℕ) → List ℕ → List ℕ → Type 0
Lists (command.Prints r) offset b lines = HasOthers r offset b lines
Lists (command.Gathers g) offset b lines = lines ≡ []
Lists (command.Writes m) offset b lines = lines ≡ []

-- what a command reports of a document b that begins there, in which this is found
abbrev pub Reports : Command → Style → Origin → List ℕ → Finding → Option Account → List ℕ → Type 0
Reports c style at b found told lines = (listing : List ℕ) × Lists c at.offset b listing × (lines ≡ first_line c style at b found told ++ listing)

-- the lines of repeats
abbrev pub lines_of_repeats : Style → List Repeat → List ℕ
lines_of_repeats style repeats = flat_map (repeat_line style) repeats

-- a front of the lines after the first
abbrev pub ListsFront : Command → (offset : ℕ) → List ℕ → List ℕ → Type 0
ListsFront (command.Prints r) offset b front = HasOthersFront r offset b front
ListsFront (command.Gathers g) offset b front = front ≡ []
ListsFront (command.Writes m) offset b front = front ≡ []

-- a front of what a command reports of a document b that begins there, in which this is found: of its first line, or of those after it
abbrev pub ReportsFront : Command → Style → Origin → List ℕ → Finding → Option Account → List ℕ → Type 0
ReportsFront c style at b found told text =
    HasFront (first_line c style at b found told) text
    ⊎ ((front : List ℕ) × ListsFront c at.offset b front × (text ≡ first_line c style at b found told ++ front))
