-- A reader or a writer that is guarded, and whether a read or a write of it failed.
use Rattle.std.specs.Prelude.{◌≡◌, ◌≢◌, ℕ, Bool, true, List, [], Result, Ok, Err}
use Rattle.std.specs.IoError.{error_kind}
use Rattle.std.specs.declared.io.Error.{Error}
use Rattle.std.specs.declared.io.ErrorKind.TheVariants.{Interrupted}
use Rattle.bson_to_json.specs.declared.guarded.Guarded.{Guarded}

abbrev pub inner_of : {T : Type 0} → Guarded T → T
inner_of guarded = guarded.inner

abbrev pub failed_of : {T : Type 0} → Guarded T → Bool
failed_of guarded = guarded.failed

-- Whether a read or a write failed, before and after a call that returned this error: as before if it was interrupted, otherwise it failed.
abbrev pub MarksError : (old new : Bool) → Error → Type 0
MarksError old new e = (error_kind e ≡ Interrupted → new ≡ old) × (error_kind e ≢ Interrupted → new ≡ true)

-- the same of a read, which returned this
abbrev pub MarksRead : (old new : Bool) → Result ℕ Error → Type 0
MarksRead old new (Ok len) = new ≡ old
MarksRead old new (Err e) = MarksError old new e

-- the same of a write of these bytes; one that took none of them failed
abbrev pub MarksWrite : (old new : Bool) → List ℕ → Result ℕ Error → Type 0
MarksWrite old new bytes (Ok len) = (len ≢ 0 → new ≡ old) × (bytes ≡ [] → new ≡ old) × (len ≡ 0 → bytes ≢ [] → new ≡ true)
MarksWrite old new bytes (Err e) = MarksError old new e
