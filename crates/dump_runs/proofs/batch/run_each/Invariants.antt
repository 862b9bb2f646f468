use Rattle.std.proofs.Common.{map, take}
use Rattle.dump_runs.specs.Batch.{RunsOver, state_of}
use Rattle.dump_runs.proofs.batch.run_each.Given as goal

-- the first of the inputs were run over
abbrev pub invariant-loop-name : goal.invariant-loop-name
invariant-loop-name g l =
    RunsOver l.reading (g.I.Inputs.bytes_of l.inputs) (map (λ name. name.now) (take l.name-index l.names)) (state_of l.initial.writers l.initial.totals) (state_of l.writers l.totals)
