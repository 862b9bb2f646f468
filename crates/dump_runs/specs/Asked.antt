-- What is asked of the inputs of a run: how it is told what is found in them, and what is written.
use Rattle.std.specs.Prelude.{ℕ, List, codes}
use Rattle.dump_runs.specs.declared.reading.Reading.{Reading}
use Rattle.dump_runs.specs.declared.reading.Reading.TheVariants as reading
use Rattle.dump_io.specs.declared.lines.style.Style.{Style}
use Rattle.dump_commands.specs.Binary.{MakesBson, MakesNoBson}
use Rattle.dump_commands.specs.declared.counts.Counts.{Counts}
use Rattle.dump_runs.specs.Limits.{left_limit}

-- what is asked of the next input, where this was counted before it: fewer findings are printed
abbrev pub asked_after : Reading → (before : Counts) → Reading
asked_after (reading.Dumps job) before = reading.Dumps (record job { limit = left_limit job.limit before })
asked_after (reading.Texts job) before = reading.Texts (record job { limit = left_limit job.limit before })

-- how what is found in the inputs is printed
abbrev pub style_of : Reading → Style
style_of (reading.Dumps job) = job.style
style_of (reading.Texts job) = job.style

-- an input wasn't read to its end, and could be read on by an option
abbrev pub way_on : Reading → List ℕ
way_on (reading.Dumps job) = codes " wasn't read to its end; --resync goes on"
way_on (reading.Texts job) = codes " wasn't read to its end; --keep-going goes on"

-- BSON is written: by such a command, and of texts always
abbrev pub WritesBson : Reading → Type 0
WritesBson (reading.Dumps job) = MakesBson job.command
WritesBson (reading.Texts job) = Unit {0}

abbrev pub WritesNoBson : Reading → Type 0
WritesNoBson (reading.Dumps job) = MakesNoBson job.command
WritesNoBson (reading.Texts job) = ⊥
