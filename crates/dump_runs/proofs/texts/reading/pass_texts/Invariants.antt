use Rattle.dump_io.specs.input.Reading.{IsWindow}
use Rattle.dump_runs.specs.Plays.{held}
use Rattle.dump_runs.proofs.texts.Passing.{GoesOnBehind}
use Rattle.dump_runs.proofs.texts.reading.pass_texts.Given as goal

-- parts were passed, and others may come after them
abbrev pub invariant-loop : goal.invariant-loop
invariant-loop g l =
    IsWindow l.cursor.window
    × GoesOnBehind l.job l.name (g.R.Read.remaining l.initial.reader) (g.R.Read.remaining l.reader) (held l.initial.writers l.initial.tally) (held l.writers l.tally) l.cursor
