-- Findings that are told while an output is written.
use Rattle.std.specs.Prelude.{◌≡◌, ◌≢◌, Bool, false, true}
use Rattle.std.specs.IoError.{error_kind}
use Rattle.std.specs.declared.io.Error.{Error}
use Rattle.std.specs.declared.io.ErrorKind.TheVariants.{BrokenPipe}

-- How a write of findings fails whose writer fails with this error: as that, but where the findings go elsewhere than the output, never as
-- a pipe that has no reader. By that a run would end as one that went through, and the output may have a reader.
abbrev pub FailsAs : (apart : Bool) → (error failure : Error) → Type 0
FailsAs false error failure = failure ≡ error
FailsAs true error failure = (error_kind failure ≢ BrokenPipe) × (error_kind error ≢ BrokenPipe → failure ≡ error)
