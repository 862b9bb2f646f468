-- Whether a write failed where a failure says so. `old` and `new` are whether one failed before, and whether one has failed now. No public
-- contract cites this file.
use Rattle.std.specs.Prelude.{◌≡◌, Bool, true}
use Rattle.bson_to_json.specs.declared.sink.Failure.{Failure}
use Rattle.bson_to_json.specs.declared.sink.Failure.TheVariants as failure
use Rattle.bson_to_json.specs.declared.print.PrintError.{PrintError}
use Rattle.bson_to_json.specs.declared.print.PrintError.TheVariants as print

-- a write failed; or memory ran out, which leaves it as it was
abbrev pub FailsAs : (old new : Bool) → Failure → Type 0
FailsAs old new (failure.Writing e) = new ≡ true
FailsAs old new failure.OutOfMemory = new ≡ old

-- the same of a document that isn't printed
abbrev pub EndsAs : (old new : Bool) → PrintError → Type 0
EndsAs old new (print.Failure failed) = FailsAs old new failed
EndsAs old new (print.Barrier answer) = new ≡ old
