use Rattle.dump_runs.proofs.texts.Advancing.{HasBetween}
use Rattle.dump_runs.proofs.texts.cursor.Cursor.pass_between.Given as goal

-- these bytes were passed
abbrev pub invariant-loop : goal.invariant-loop
invariant-loop g l = HasBetween (g.R.Read.remaining l.initial.reader) (g.R.Read.remaining l.reader) l.initial.self l.self
