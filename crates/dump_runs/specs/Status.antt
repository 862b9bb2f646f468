-- How a run over an input ends, and the exit status of a run over all.
use Rattle.std.specs.Prelude.{◌≡◌, ◌≢◌, ◌⊎◌, ◌<◌, Bool, true, false, Option, None, Some}
use Rattle.std.specs.IoError.{error_kind}
use Rattle.std.specs.declared.io.Error.{Error}
use Rattle.std.specs.declared.io.ErrorKind.TheVariants.{BrokenPipe}
use Rattle.dump_commands.specs.Commands.{profile_of}
use Rattle.dump_commands.specs.declared.command.Breaches.TheVariants as breaches
use Rattle.dump_commands.specs.declared.command.Command.{Command}
use Rattle.dump_commands.specs.declared.counts.Counts.{Counts}
use Rattle.dump_io.specs.declared.lines.failure.Failure.{Failure}
use Rattle.dump_io.specs.declared.lines.failure.Failure.TheVariants as failure
use Rattle.dump_io.specs.declared.input.status.Status.{Status}
use Rattle.dump_io.specs.declared.input.status.Status.TheVariants as status
use Rattle.dump_runs.specs.declared.ends.Ended.{Ended}
use Rattle.dump_runs.specs.declared.ends.Ended.TheVariants as how
use Rattle.dump_runs.specs.declared.reading.Reading.{Reading}
use Rattle.dump_runs.specs.declared.reading.Reading.TheVariants as reading

-- whether an input could be read on, where it wasn't read to its end
abbrev pub goes_on : Ended → Option Bool
goes_on how.Whole = None
goes_on how.Cut = Some true
goes_on (how.Failed failure) = Some false

-- reading failed
abbrev pub FailsToRead : Ended → Type 0
FailsToRead (how.Failed failure) = Unit {0}
FailsToRead _ = ⊥

-- a file wasn't read to its end, or bytes in it were passed over
abbrev pub IsCut : Counts → Type 0
IsCut n = (0 < n.files) ⊎ (0 < n.passed_over)

-- a document is damaged or too deep, or one isn't canonical, where that is a finding
abbrev pub FindsDamage : Command → Counts → Type 0
FindsDamage c n = (0 < n.damaged) ⊎ (0 < n.too_deep) ⊎ (((profile_of c).breaches ≡ breaches.Found) × (0 < n.breached))

-- that, or a text has a fault
abbrev pub HasDamage : Reading → Counts → Type 0
HasDamage (reading.Dumps job) n = FindsDamage job.command n
HasDamage (reading.Texts job) n = 0 < n.damaged

-- that, or documents of two inputs are known to differ
abbrev pub HasFindings : Reading → Counts → (differs : Bool) → Type 0
HasFindings r n differs = (differs ≡ true) ⊎ HasDamage r n

-- how a run ends with these counts, unless memory ran out or writing failed
abbrev pub IsStatus : Reading → Counts → (differs : Bool) → Status → Type 0
IsStatus r n differs status.Done = (¬ IsCut n) × (¬ HasFindings r n differs)
IsStatus r n differs status.Damage = (¬ IsCut n) × HasFindings r n differs
IsStatus r n differs status.Input = IsCut n
IsStatus r n differs _ = ⊥

-- How a run ends where writing failed with this error, after these counts: as without it where a pipe has no reader any more.
abbrev pub IsWritingStatus : Reading → Counts → (differs : Bool) → Error → Status → Type 0
IsWritingStatus r n differs e ended = ((error_kind e ≡ BrokenPipe) × IsStatus r n differs ended) ⊎ ((error_kind e ≢ BrokenPipe) × (ended ≡ status.Output))

-- How a run over all inputs ends that fails, after these counts. Only the cases of memory and of writing come (`IsCaused`).
abbrev pub IsFailureStatus : Reading → Counts → (differs : Bool) → Failure → Status → Type 0
IsFailureStatus r n differs failure.Memory ended = ended ≡ status.Memory
IsFailureStatus r n differs failure.TooLarge ended = ended ≡ status.Output
IsFailureStatus r n differs (failure.Writing e) ended = IsWritingStatus r n differs e ended
IsFailureStatus r n differs (failure.Reading e) ended = IsWritingStatus r n differs e ended
