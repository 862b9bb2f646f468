-- What is written before the documents of all inputs.
use Rattle.std.specs.Prelude.{◌≡◌, ◌≢◌, ◌⊎◌, ℕ, List, [], Option, None, Some}
use Rattle.std.specs.IoError.{error_kind}
use Rattle.std.specs.declared.io.Error.{Error}
use Rattle.std.specs.declared.io.ErrorKind.TheVariants.{BrokenPipe}
use Rattle.dump_commands.specs.Making.{picking_of}
use Rattle.dump_commands.specs.Picking.{header_of}
use Rattle.dump_commands.specs.declared.command.Command.{Command}
use Rattle.dump_commands.specs.declared.command.Command.TheVariants as command
use Rattle.dump_commands.specs.declared.picking.Picking.{Picking}
use Rattle.dump_io.specs.declared.input.status.Status.{Status}
use Rattle.dump_io.specs.declared.input.status.Status.TheVariants as status
use Rattle.dump_io.specs.declared.lines.failure.Failure.{Failure}
use Rattle.dump_io.specs.declared.lines.failure.Failure.TheVariants as failure
use Rattle.dump_runs.specs.declared.reading.Reading.{Reading}
use Rattle.dump_runs.specs.declared.reading.Reading.TheVariants as reading

-- which elements a command picks
abbrev pub picked_by : Command → Option Picking
picked_by (command.Prints report) = None
picked_by (command.Gathers gathering) = None
picked_by (command.Writes making) = picking_of making

-- which elements of dumps are picked; of texts none
abbrev pub picking_in : Reading → Option Picking
picking_in (reading.Dumps job) = picked_by job.command
picking_in (reading.Texts job) = None

-- the header of what is picked
abbrev pub header_in : Option Picking → List ℕ
header_in None = []
header_in (Some picking) = header_of picking

-- what is written before the documents of all inputs: the header of rows, and else nothing
abbrev pub header_for : Reading → List ℕ
header_for asked = header_in (picking_in asked)

-- with which status a run ends that fails with this error before its first input: where a pipe has no reader any more, with that of nothing found
abbrev pub EndsUnwritten : Error → Status → Type 0
EndsUnwritten e ended = ((error_kind e ≡ BrokenPipe) × (ended ≡ status.Done)) ⊎ ((error_kind e ≢ BrokenPipe) × (ended ≡ status.Output))

-- the same of each failure
abbrev pub EndsUnread : Failure → Status → Type 0
EndsUnread failure.Memory ended = ended ≡ status.Memory
EndsUnread failure.TooLarge ended = ended ≡ status.Output
EndsUnread (failure.Writing e) ended = EndsUnwritten e ended
EndsUnread (failure.Reading e) ended = EndsUnwritten e ended
