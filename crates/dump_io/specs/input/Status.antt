-- Exit statuses.
use Rattle.std.specs.Prelude.{ℕ}
use Rattle.dump_io.specs.declared.input.status.Status.{Status}
use Rattle.dump_io.specs.declared.input.status.Status.TheVariants as status

-- the exit status of each outcome
abbrev pub code_of : Status → ℕ
code_of status.Done = 0
code_of status.Damage = 1
code_of status.Usage = 2
code_of status.Input = 3
code_of status.Memory = 4
code_of status.Output = 5
