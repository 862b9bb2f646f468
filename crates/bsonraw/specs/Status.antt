-- The exit statuses.
use Rattle.std.specs.Prelude.{ℕ}
use Rattle.bsonraw.specs.declared.status.Status.{Status}
use Rattle.bsonraw.specs.declared.status.Status.TheVariants as status

abbrev pub code_of : Status → ℕ
code_of status.Done = 0
code_of status.Fault = 1
code_of status.BadHex = 2
code_of status.Usage = 3
code_of status.NoMemory = 4
code_of status.Io = 5
