-- Whether reading fails, and whether a failure of a run has its cause.
use Rattle.std.specs.Prelude.{◌≡◌, Bool, true}
use Rattle.dump_io.specs.declared.lines.failure.Failure.{Failure}
use Rattle.dump_io.specs.declared.lines.failure.Failure.TheVariants as failure

-- the failure is one of reading
abbrev pub IsReading : Failure → Type 0
IsReading (failure.Reading e) = Unit {0}
IsReading _ = ⊥

-- A run fails only where a write failed, or memory ran out; a number over its range counts as out of memory. Reading that fails ends one input alone.
abbrev pub IsCaused : (has_failed : Bool) → Failure → Type 0
IsCaused has_failed (failure.Writing e) = has_failed ≡ true
IsCaused has_failed failure.Memory = Unit {0}
IsCaused has_failed _ = ⊥
