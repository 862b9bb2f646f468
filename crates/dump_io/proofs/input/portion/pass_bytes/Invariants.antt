use Rattle.std.proofs.Common.{◌≡◌, ◌+◌}
use Rattle.dump_io.specs.input.Reading.{GoesAhead}
use Rattle.dump_io.proofs.input.portion.pass_bytes.Given as goal

-- the other bytes were passed
abbrev pub invariant-bytes : goal.invariant-bytes
invariant-bytes g l =
    (goes : GoesAhead (g.R.Read.remaining l.initial.reader) (g.R.Read.remaining l.reader) l.initial.window l.window) × (goes.count + l.left ≡ l.count)

abbrev pub decreases-bytes : goal.decreases-bytes
decreases-bytes g l = l.left
