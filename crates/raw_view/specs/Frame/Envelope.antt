-- The envelope of a document. BSON 1.1, `document ::= int32 e_list "\x00"`.
use Rattle.std.specs.Prelude.{◌≡◌, ◌≢◌, ℕ, ◌-◌, ◌<◌, ◌≤◌, pos, List, length, take, Some, slice_get}
use Rattle.bson_model.specs.Bytes.{AreBytes}
use Rattle.raw_view.specs.Frame.Number.{IsLe32}
use Rattle.raw_view.specs.declared.error.Reason.{Reason}
use Rattle.raw_view.specs.declared.error.Reason.TheVariants as reason

-- every element is a byte; there are at least five; the first four are the length of the whole; the last is 0
pub record IsEnvelope (b : List ℕ) : Type 0 where
  pub bytes : AreBytes b
  pub enough : 5 ≤ length b
  pub header : IsLe32 (take 4 b) (pos (length b))
  pub ended : slice_get b (length b - 1) ≡ Some 0

-- the first reason why bytes have no envelope: too short, wrong length, not terminated
abbrev pub Refuses : List ℕ → Reason → Type 0
Refuses b reason.TooShort = length b < 5
Refuses b reason.LengthIncorrect = (5 ≤ length b) × ¬ IsLe32 (take 4 b) (pos (length b))
Refuses b reason.NotTerminated = (5 ≤ length b) × IsLe32 (take 4 b) (pos (length b)) × (slice_get b (length b - 1) ≢ Some 0)
Refuses b _ = ⊥
