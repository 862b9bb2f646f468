-- Why a document isn't printed, or not all of it. The bytes b of a document have an envelope.
use Rattle.std.specs.Prelude.{◌≡◌, ◌⊎◌, ◌≤◌, ℕ, Bool, true, List, length, Option, Some}
use Rattle.bson_model.specs.Tree.{Tree}
use Rattle.raw_tree.specs.Barriers.{TellsBarrier}
use Rattle.raw_tree.specs.WithinLimits.{ReadsWithin}
use Rattle.raw_tree.specs.declared.reader.limits.Limits.{Limits}
use Rattle.bson_to_json.specs.Written.{WroteFront}
use Rattle.bson_to_json.specs.declared.error.ToJsonError.{ToJsonError}
use Rattle.bson_to_json.specs.declared.error.ToJsonError.TheVariants as json
use Rattle.bson_to_json.specs.declared.error.WriteJsonError.{WriteJsonError}
use Rattle.bson_to_json.specs.declared.error.WriteJsonError.TheVariants as write
use Rattle.bson_to_json.specs.declared.style.Style.{Style}

-- the first barrier of the document; or out of memory, if it has few enough bytes
abbrev pub TellsJsonError : Limits → List ℕ → ToJsonError → Type 0
TellsJsonError limits b (json.Barrier answer) = TellsBarrier limits b (Some answer)
TellsJsonError limits b json.OutOfMemory = length b ≤ limits.bytes

-- The same of a document that is written. At a barrier, what the writer holds is unchanged. Otherwise it has grown by a prefix of the
-- document's text, or memory ran out before anything was written. The writer's own error is possible only if the document is within the
-- limits.
abbrev pub TellsWriteError : Limits → Style → List ℕ → Option (List ℕ) → Option (List ℕ) → WriteJsonError → Type 0
TellsWriteError limits style b old new (write.Barrier answer) = TellsBarrier limits b (Some answer) × (new ≡ old)
TellsWriteError limits style b old new write.OutOfMemory = (length b ≤ limits.bytes) × ((new ≡ old) ⊎ WroteFront style b old new)
TellsWriteError limits style b old new (write.Writing e) = (t : Tree) × ReadsWithin limits b t × WroteFront style b old new

-- Whether a write failed, before and now, after this error. The writer's own error is returned only where a write failed. Any other error leaves
-- it as it was.
abbrev pub IsCaused : (old new : Bool) → WriteJsonError → Type 0
IsCaused old new (write.Writing e) = new ≡ true
IsCaused old new _ = new ≡ old
