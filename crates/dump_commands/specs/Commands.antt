-- What is so of a command, whatever it finds, and the line that tells what it counted.
use Rattle.std.specs.Prelude.{ℕ, List, ◌∷◌, ◌++◌, Bool, true, false, Option, None, codes}
use Rattle.dump_commands.specs.Gathering.{comparing_of, gathering_profile}
use Rattle.dump_commands.specs.Making.{making_profile}
use Rattle.dump_commands.specs.Reporting.{report_profile}
use Rattle.dump_commands.specs.Summary.{Count, breached_counts, damaged_counts, hidden_counts, left_counts, left_out_counts, line_of}
use Rattle.dump_commands.specs.declared.command.Command.{Command}
use Rattle.dump_commands.specs.declared.command.Command.TheVariants as command
use Rattle.dump_commands.specs.declared.command.Profile.{Profile}
use Rattle.dump_commands.specs.declared.diff.sides.Comparing.{Comparing}
use Rattle.dump_commands.specs.declared.counts.Counts.{Counts}
use Rattle.dump_io.specs.declared.lines.style.Style.{Style}

abbrev pub profile_of : Command → Profile
profile_of (command.Prints r) = report_profile r
profile_of (command.Gathers g) = gathering_profile g
profile_of (command.Writes m) = making_profile m

-- how two inputs are compared, if they are
abbrev pub compares : Command → Option Comparing
compares (command.Prints r) = None
compares (command.Gathers g) = comparing_of g
compares (command.Writes m) = None

-- whether it keeps documents
abbrev pub keeps : Command → Bool
keeps (command.Prints r) = false
keeps (command.Gathers g) = false
keeps (command.Writes m) = true

-- all that is counted beside the documents and what is told first, where how many findings are printed at most
abbrev pub counts_of : Option ℕ → Command → Counts → ℕ → List Count
counts_of limit c n kept =
    (codes "bytes", n.bytes) ∷ left_out_counts (keeps c) n kept ++ breached_counts (profile_of c).breaches n ++ damaged_counts (profile_of c).looks n
    ++ left_counts n ++ hidden_counts limit n

abbrev pub summary_line : Style → Option (List ℕ) → Option ℕ → Command → Counts → ℕ → List ℕ
summary_line style name limit c n kept = line_of (keeps c) style name n kept (counts_of limit c n kept)
