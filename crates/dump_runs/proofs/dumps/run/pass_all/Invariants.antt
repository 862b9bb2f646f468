use Rattle.dump_io.specs.input.Reading.{IsWindow}
use Rattle.raw_resync.specs.Seeking.{IsWork}
use Rattle.dump_runs.specs.Plays.{held}
use Rattle.dump_runs.proofs.dumps.Choosing.{HasPassedPortion}
use Rattle.dump_runs.proofs.dumps.run.pass_all.Given as goal

-- parts were passed, and the next one begins after them
abbrev pub invariant-loop : goal.invariant-loop
invariant-loop g l =
    IsWindow l.source.window × IsWork l.source.work
    × HasPassedPortion l.job l.fn.source.name l.fn.source.left l.source (held l.initial.writers l.initial.tally) (held l.writers l.tally)
