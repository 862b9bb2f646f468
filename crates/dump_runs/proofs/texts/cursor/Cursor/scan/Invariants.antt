use Rattle.dump_io.specs.input.Reading.{ahead_of}
use Rattle.dump_runs.specs.texts.Reading.{LooksOn}
use Rattle.dump_io.specs.input.Scans.{IsOpen, ScansAhead}
use Rattle.dump_runs.proofs.texts.cursor.Cursor.scan.Given as goal

-- so far the text comes, and may go on
abbrev pub invariant-loop : goal.invariant-loop
invariant-loop g l =
    LooksOn (g.R.Read.remaining l.initial.reader) (g.R.Read.remaining l.reader) l.initial.self l.self
    × ScansAhead (ahead_of l.self.window) l.found × IsOpen l.found.scan
