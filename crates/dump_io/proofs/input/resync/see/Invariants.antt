use Rattle.dump_io.proofs.input.Deciding.{IsSought}
use Rattle.dump_io.proofs.input.resync.see.Given as goal

-- more was read, and the places before this one were searched
abbrev pub invariant-loop : goal.invariant-loop
invariant-loop g l = IsSought l.limits (g.R.Read.remaining l.initial.reader) (g.R.Read.remaining l.reader) l.initial.window l.window l.initial.work l.work l.fn.search l.from l.is_last l.are_all
