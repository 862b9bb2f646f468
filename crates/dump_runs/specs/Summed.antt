-- What the code tells of two inputs that are compared. No public contract cites this file.
use Rattle.std.specs.Prelude.{◌≡◌, ◌⊎◌, ℕ, List, [], Bool, Option, None, Some}
use Rattle.std.specs.Io.KnownBytes.{Appends}
use Rattle.std.specs.Option.{option_map}
use Rattle.dump_commands.specs.Commands.{compares}
use Rattle.dump_commands.specs.diff.Lines.{uncompared_line}
use Rattle.dump_commands.specs.diff.Pairs.{IsCompared}
use Rattle.dump_commands.specs.diff.Sides.{Sides}
use Rattle.dump_commands.specs.state.Gathered.{tabled}
use Rattle.dump_commands.specs.declared.diff.pairs.Compared.{Compared}
use Rattle.dump_commands.specs.declared.job.Job.{Job}
use Rattle.dump_io.specs.input.Done.{CutInput, cut_of}
use Rattle.dump_io.specs.declared.lines.failure.Failure.{Failure}
use Rattle.dump_io.specs.declared.lines.failure.Failure.TheVariants.{Memory}
use Rattle.dump_io.specs.declared.lines.style.Style.{Style}
use Rattle.dump_runs.specs.Sums.{Sum, TellsIfCompared, TellsIfComparedFront}
use Rattle.dump_runs.specs.declared.batch.Totals.{Totals}

-- what came of all inputs
abbrev pub sum_of : Totals → Sum
sum_of totals = record { cut = option_map cut_of totals.cut; counts = totals.counts; kept = totals.tally.kept }

-- what is found of the documents that are compared, if some are
abbrev pub AreCompared : Option Sides → Option Compared → Type 0
AreCompared None None = Unit {0}
AreCompared (Some all) (Some compared) = IsCompared all compared
AreCompared _ _ = ⊥

-- the line that tells that inputs aren't compared, where this is the first that isn't read to its end
abbrev pub uncompared_text : Style → Option CutInput → List ℕ
uncompared_text style None = []
uncompared_text style (Some cut) = uncompared_line style cut.name

-- whether documents differ is known, unless memory ran out
abbrev pub IsKnown : (differs known : Bool) → Failure → Type 0
IsKnown differs known failure = (failure ≡ Memory) ⊎ (known ≡ differs)

-- which documents differ is written, or a front of it
abbrev pub WritesCompared : Job → (bytes_of : List ℕ → Option (List ℕ)) → Sum → (old new : Option (List ℕ)) → Type 0
WritesCompared job bytes_of sum old new =
    (text : List ℕ) × TellsIfCompared job bytes_of sum.cut (compares job.command) (tabled sum.kept).sides text × Appends old new text

abbrev pub WritesComparedFront : Job → (bytes_of : List ℕ → Option (List ℕ)) → Sum → (old new : Option (List ℕ)) → Type 0
WritesComparedFront job bytes_of sum old new =
    (front : List ℕ) × TellsIfComparedFront job bytes_of sum.cut (compares job.command) (tabled sum.kept).sides front × Appends old new front
