-- The parts of an element that is appended, as the crate has them.
use Rattle.std.specs.Prelude.{◌≡◌, ◌≢◌, ◌⊎◌, ◌<◌, ◌≤◌, ◌+◌, ℕ, pos, List, Option, None, Some}
use Rattle.raw_bson.specs.ElementType.{ElementType}
use Rattle.raw_bson.specs.Frame.{Frame}
use Rattle.raw_bson.specs.Number.{max_length}
use Rattle.bsonraw_c.specs.Build.{Adds, IsCText, IsTooLong, Refuses, grown, key_in, laid_out}
use Rattle.bsonraw_c.specs.Codes.{status_code}
use Rattle.bsonraw_c.specs.declared.build.Builder.{Builder}
use Rattle.bsonraw_c.specs.declared.build_parts.Parts.{Parts}
use Rattle.bsonraw_c.specs.declared.codes.Status.TheVariants as status

-- the payload of the parts
abbrev pub payload_of_parts : Parts → List ℕ
payload_of_parts p = laid_out p.layout p.one.now p.two.now

-- the element of the parts under a key
abbrev pub frame_of_parts : List ℕ → Parts → Frame
frame_of_parts key p = record { kind = p.kind; key = key; payload = payload_of_parts p }

-- an element of this kind with this payload under this key, where it is one, or in an array under the next number
abbrev pub AddsUnder : List ℕ → ElementType → List ℕ → Builder → Builder → List ℕ → List ℕ → Type 0
AddsUnder key k payload old new before after =
    ((old.tag ≢ 4) × (¬ IsCText key) × Refuses status.Fault old new before after)
    ⊎ (IsCText (key_in old key) × Adds (record { kind = k; key = key_in old key; payload = payload }) old new before after)

-- where an element of `size` bytes begins in a room of this length; or none, where it is too long, or the room too small
abbrev pub Claims : ℕ → ℕ → Builder → Builder → Option ℕ → Type 0
Claims size room old new (Some at) = (old.len + size < max_length) × (old.count < max_length) × (old.len + size ≤ room) × (at ≡ old.len) × (new ≡ grown old size)
Claims size room old new None =
    (IsTooLong old size × (new ≡ record old { status = pos (status_code status.TooLong) }))
    ⊎ ((¬ IsTooLong old size) × (room < old.len + size) × (new ≡ record (grown old size) { status = pos (status_code status.SmallBuffer) }))
