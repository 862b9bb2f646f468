use Rattle.dump_runs.proofs.texts.Advancing.{HasGap}
use Rattle.dump_runs.proofs.texts.cursor.Cursor.pass_gap.Given as goal

-- these bytes were passed, and none is the brace with which a line begins
abbrev pub invariant-loop : goal.invariant-loop
invariant-loop g l = HasGap (g.R.Read.remaining l.initial.reader) (g.R.Read.remaining l.reader) l.initial.self l.self
