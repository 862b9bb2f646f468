-- How runs end whose OUTPUT isn't written.
use Rattle.std.specs.Prelude.{Option, Some}
use Rattle.dump_io.specs.declared.input.done.Done.{Done}
use Rattle.dump_io.specs.declared.input.done.Lack.{Lack}
use Rattle.dump_io.specs.declared.input.done.Lack.TheVariants as lack
use Rattle.dump_io.specs.declared.input.status.Status.{Status}
use Rattle.dump_io.specs.declared.input.status.Status.TheVariants as status
use Rattle.dump_io.specs.declared.lines.failure.Failure.TheVariants as failure

-- The status is that of a run that ended so, but where writing failed it is that of a failed write: for a run it may be that of what was found,
-- where the reader of a pipe is gone.
abbrev pub unwritten : Option Lack → Status → Status
unwritten (Some (lack.Failed (failure.Writing _))) _ = status.Output
unwritten (Some (lack.Failed (failure.Reading _))) _ = status.Output
unwritten (Some (lack.Failed failure.TooLarge)) _ = status.Output
unwritten _ s = s

abbrev pub unwritten_status : Done → Status
unwritten_status done = unwritten done.lack done.status
