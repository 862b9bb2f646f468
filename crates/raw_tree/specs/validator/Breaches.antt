-- The first breach of a document, depth first in byte order: where it isn't canonical, and why. The bytes b of a
-- document or of an array have an envelope.
use Rattle.std.specs.Prelude.{◌≡◌, ◌⊎◌, ℕ, List, Option, None, Some, codes, map}
use Rattle.raw_view.specs.Frame.Envelope.{IsEnvelope}
use Rattle.raw_tree.specs.Canonical.{IsCanonicalAs, IsCanonical}
use Rattle.raw_tree.specs.reader.Reading.{Sort, as_document}
use Rattle.raw_tree.specs.declared.reader.limits.Limits.{Limits}
use Rattle.raw_tree.specs.declared.validator.breach.Breach.{Breach}
use Rattle.raw_tree.specs.declared.validator.breach.Cause.{Cause}
use Rattle.raw_tree.specs.declared.validator.breach.Cause.TheVariants as cause
use Rattle.raw_tree.specs.validator.Violations.{Violation, breach_of, FirstViolationTo, FirstViolation, IsCanonicalWithin}
use Rattle.raw_tree.specs.declared.validator.within.PlacedBreach.{PlacedBreach}
use Rattle.raw_tree.specs.walk.Barriers.{steps_of}
use Rattle.raw_tree.specs.walk.Places.{Step}

-- the first breach of these bytes as a document or as an array, however deep it is: the numbers of the path to it, and
-- why it is one
abbrev pub HasBreachAs : Sort → List ℕ → List ℕ → Cause → Type 0
HasBreachAs sort b path why =
    (depth : ℕ) × (steps : List Step) × (offset : ℕ) × FirstViolationTo depth sort b (breach_of why) steps offset × (path ≡ map (λ step. step.number) steps)

-- the first breach of the document b
abbrev pub HasBreach : List ℕ → Breach → Type 0
HasBreach b breach = HasBreachAs as_document b breach.path.items breach.cause

-- the word for a cause
abbrev pub cause_text : Cause → List ℕ
cause_text cause.Stop = codes "stop"
cause_text cause.Value = codes "value"
cause_text cause.RepeatedKey = codes "repeated-key"
cause_text cause.ArrayKey = codes "array-key"
cause_text cause.Options = codes "options"

-- if no breach is returned, the document b is canonical; a returned breach is its first
abbrev pub TellsBreach : List ℕ → Option Breach → Type 0
TellsBreach b None = IsCanonical b
TellsBreach b (Some breach) = HasBreach b breach

-- bytes are canonical or have a first breach, never both, and have at most one first breach
pub record IsValidatedOneWay (sort : Sort) (b : List ℕ) : Type 0 where
  pub either : IsCanonicalAs sort b ⊎ ((path : List ℕ) × (why : Cause) × HasBreachAs sort b path why)
  pub not_both : (path : List ℕ) (why : Cause) → HasBreachAs sort b path why → ¬ IsCanonicalAs sort b
  pub one_breach : (path other_path : List ℕ) (why other_why : Cause) → HasBreachAs sort b path why → HasBreachAs sort b other_path other_why → (other_path ≡ path) × (other_why ≡ why)

-- this holds of all bytes with an envelope
abbrev pub AllAreValidatedOneWay : Sort → Type 0
AllAreValidatedOneWay sort = (b : List ℕ) → IsEnvelope b → IsValidatedOneWay sort b

-- The document b has at most one violation within limits, at one place, and none if it is canonical. A breach within
-- limits is also its first breach without them, and the numbers of its steps are the path.
pub record IsValidatedOneWayWithin (limits : Limits) (b : List ℕ) : Type 0 where
  pub not_both : (x : Violation) (path : List Step) (offset : ℕ) → FirstViolation limits b x path offset → ¬ IsCanonicalWithin limits b
  pub one_violation : (x other : Violation) (path other_path : List Step) (offset other_offset : ℕ) → FirstViolation limits b x path offset
      → FirstViolation limits b other other_path other_offset → (other ≡ x) × (other_path ≡ path) × (other_offset ≡ offset)
  pub first_breach : (why : Cause) (path : List Step) (offset : ℕ) → FirstViolation limits b (breach_of why) path offset → HasBreachAs as_document b (map (λ step. step.number) path) why

-- a breach at a place is the first of the document b, however deep that is: the same cause, at the numbers of its steps
abbrev pub IsFirstBreach : List ℕ → Option PlacedBreach → Type 0
IsFirstBreach b None = Unit {0}
IsFirstBreach b (Some breach) = HasBreachAs as_document b (map (λ step. step.number) (steps_of breach.place)) breach.cause

-- this holds of every document
abbrev pub AllAreValidatedOneWayWithin : Limits → Type 0
AllAreValidatedOneWayWithin limits = (b : List ℕ) → IsValidatedOneWayWithin limits b
