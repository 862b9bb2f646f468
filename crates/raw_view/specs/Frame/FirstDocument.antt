-- The document at the front of the bytes s, which anything may follow. Bytes that hold documents end to end are split
-- in this way.
use Rattle.std.specs.Prelude.{◌≡◌, ◌≢◌, ℕ, ◌-◌, ◌<◌, ◌≤◌, pos, List, length, take, ◌++◌, Some, slice_get}
use Rattle.raw_view.specs.Frame.Number.{IsLe32}
use Rattle.raw_view.specs.Frame.Envelope.{IsEnvelope}
use Rattle.raw_view.specs.declared.first_document.NoDocument.{NoDocument}
use Rattle.raw_view.specs.declared.first_document.NoDocument.TheVariants as no

-- no document is at the front
abbrev pub HasNoDocument : List ℕ → Type 0
HasNoDocument s = (p r : List ℕ) → s ≡ p ++ r → ¬ IsEnvelope p

-- at most one document is at the front of any bytes
abbrev pub OneFirstDocument : Type 0
OneFirstDocument = (p r q t : List ℕ) → IsEnvelope p → IsEnvelope q → p ++ r ≡ q ++ t → (p ≡ q) × (r ≡ t)

-- s begins with this length as a document does: the length is at least five, and s has that many bytes
pub record BeginsWithLength (s : List ℕ) (len : ℕ) : Type 0 where
  pub header : IsLe32 (take 4 s) (pos len)
  pub enough : 5 ≤ len
  pub within : len ≤ length s

-- the first reason why no document is at the front: too few bytes; no such length at the front; or such a length, but
-- the last of these bytes isn't 0
abbrev pub RefusesFirst : List ℕ → NoDocument → Type 0
RefusesFirst s no.TooShort = length s < 5
RefusesFirst s no.LengthIncorrect = (5 ≤ length s) × ((len : ℕ) → ¬ BeginsWithLength s len)
RefusesFirst s (no.NotTerminated len) = BeginsWithLength s len × (slice_get s (len - 1) ≢ Some 0)
