use Rattle.dump_io.proofs.input.Skipping.{IsSearched}
use Rattle.dump_io.proofs.input.resync.pass_over.Given as goal

-- bytes were passed over, and the places before this one were searched
abbrev pub invariant-loop : goal.invariant-loop
invariant-loop g l = IsSearched l.limits (g.R.Read.remaining l.initial.reader) (g.R.Read.remaining l.reader) l.initial.window l.window l.initial.work l.work l.from l.is_last l.are_all
