-- The law of every document.
use Rattle.std.proofs.Common.{◌≡◌, List, ℕ}
use Rattle.raw_view.specs.Frame.Envelope.{IsEnvelope}
use Rattle.raw_tree.specs.declared.reader.limits.Limits.{Limits}
use Rattle.raw_tree.proofs.Face.{answered_one_way}
use Rattle.bson_to_json.specs.Errors.{TellsJsonError}
use Rattle.bson_to_json.specs.declared.error.ToJsonError.{ToJsonError}
use Rattle.bson_to_json.specs.declared.error.ToJsonError.TheVariants as print
use Rattle.bson_to_json.specs.declared.style.Layout.{Layout}
use Rattle.json_round_trip.specs.Closing.{ClosesCircle, IsOutOfMemory, IsReadAgain, IsReturning, IsWithin}
use Rattle.json_round_trip.specs.declared.trip.RoundTripError.TheVariants as round
use Rattle.json_round_trip.proofs.Closed.{circle_closed}
use Rattle.json_round_trip.proofs.leaves.Whole.{leaf_is_printed}

pub closes_circle : (b : List ℕ) → IsEnvelope b → ClosesCircle b
closes_circle b env = circle_closed leaf_is_printed b env

-- what is read again
pub same_again : (b : List ℕ) → IsEnvelope b → (layout : Layout) (bytes : List ℕ) → IsReadAgain b layout bytes → IsReturning b → bytes ≡ b
same_again b env layout bytes (text, shown, w) back = (closes_circle b env back layout text shown).0.only bytes w

-- a document within the limits has no barrier
pub prints_within : (limits : Limits) (b : List ℕ) → IsEnvelope b → (e : ToJsonError) → TellsJsonError limits b e → IsWithin limits b → IsOutOfMemory (round.Print e)
prints_within limits b env print.OutOfMemory told within = tt
prints_within limits b env (print.Barrier barrier) (x, is, at) (t, reads) = (answered_one_way limits b env).not_both t x reads (_, _, at)
