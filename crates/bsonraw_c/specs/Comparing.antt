-- The order of two documents by their canonical forms. The bytes are the caller's.
use Rattle.std.specs.Prelude.{◌≡◌, ◌⊎◌, ℕ, ℤ, pos, negsuc, List}
use Rattle.std.specs.Cmp.Lexicographic.{slice_cmp}
use Rattle.std.specs.Ordering.{nat_cmp}
use Rattle.std.specs.declared.cmp.Ordering.{Ordering}
use Rattle.std.specs.declared.cmp.Ordering.TheVariants.{Less, Equal, Greater}
use Rattle.raw_view.specs.declared.error.Error.{Error}
use Rattle.raw_bson.specs.Envelope.{IsEnvelope, Refuses}
use Rattle.raw_bson.specs.ErrorKind.{ErrorKind}
use Rattle.raw_bson.specs.ErrorKind.TheVariants as kind
use Rattle.raw_bson.specs.Limits.{Limits}
use Rattle.raw_bson.specs.Reason.{Reason}
use Rattle.raw_bson.specs.Reason.TheVariants as reason
use Rattle.raw_form.specs.FormsWithin.{IsFormWithin, RefusesFormWithin}
use Rattle.bsonraw_c.specs.Iters.{Returns}
use Rattle.bsonraw_c.specs.declared.codes.Status.{Status}
use Rattle.bsonraw_c.specs.declared.codes.Status.TheVariants as status

-- as many bytes and levels as there are
abbrev pub no_limits : Limits
no_limits = record { bytes = 18446744073709551615; depth = 18446744073709551615 }

-- an order as a number
abbrev pub order_number : Ordering → ℤ
order_number Less = negsuc 0
order_number Equal = pos 0
order_number Greater = pos 1

-- the status for an error of making a form
abbrev pub error_status : ErrorKind → Status
error_status (kind.MalformedValue reason.TooLong) = status.TooLong
error_status kind.OutOfMemory = status.NoMemory
error_status _ = status.Fault

-- b has no form, and this status says why: b is no document; or its form couldn't be made
abbrev pub LacksForm : List ℕ → Status → Type 0
LacksForm b s =
    ((r : Reason) × Refuses b r × (s ≡ status.NoDocument))
    ⊎ (IsEnvelope b × (e : Error) × RefusesFormWithin no_limits b e × (s ≡ error_status e.kind))

-- Both have forms, which are in this order byte by byte; or the first has none, or the other, and the number is 0.
abbrev pub Compares : List ℕ → List ℕ → ℤ → ℤ → Type 0
Compares one other order code =
    ((f g : List ℕ) × IsFormWithin no_limits one f × IsFormWithin no_limits other g × (order ≡ order_number (slice_cmp nat_cmp f g)) × Returns status.Done code)
    ⊎ ((s : Status) × (LacksForm one s ⊎ ((f : List ℕ) × IsFormWithin no_limits one f × LacksForm other s)) × (order ≡ pos 0) × Returns s code)
