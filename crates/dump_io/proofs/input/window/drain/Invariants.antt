use Rattle.std.proofs.Common.{◌<◌, length}
use Rattle.dump_io.proofs.input.Filling.{IsDrained}
use Rattle.dump_io.proofs.input.window.drain.Given as goal

-- `count` bytes were read
abbrev pub invariant-loop : goal.invariant-loop
invariant-loop g l = IsDrained (g.R.Read.remaining l.initial.reader) (g.R.Read.remaining l.reader) l.count × (0 < length l.buffer)
