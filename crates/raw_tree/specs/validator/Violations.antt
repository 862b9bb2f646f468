-- Validation of a document within limits: it is canonical; or it has a first breach or a level that is too deep, at
-- some place. The bytes b of a document or of an array have an envelope.
use Rattle.std.specs.Prelude.{◌≡◌, ◌≢◌, ◌⊎◌, ◌≤◌, ◌<◌, ◌++◌, ℕ, List, [], ◌∷◌, Option, None, Some, Result, Ok, Err, length, map, decimal}
use Rattle.std.specs.List.{Contains}
use Rattle.bson_model.specs.Proper.{DoLeafOptionsAscend}
use Rattle.raw_view.specs.Frame.{Frame, IsFrame, Fault, IsStop}
use Rattle.raw_view.specs.Meaning.{Meaning, Means, value, faulty}
use Rattle.raw_view.specs.Meaning as raw
use Rattle.raw_tree.specs.Canonical.{AreKeysCanonical, AreFramesCanonical, IsCanonicalUpTo}
use Rattle.raw_tree.specs.reader.Reading.{Sort, as_document, as_array}
use Rattle.raw_tree.specs.declared.validator.breach.Cause.{Cause}
use Rattle.raw_tree.specs.declared.validator.breach.Cause.TheVariants as cause
use Rattle.raw_tree.specs.declared.reader.limits.Limits.{Limits}
use Rattle.raw_tree.specs.walk.Barriers.{steps_of}
use Rattle.raw_tree.specs.walk.First.{IsFirst, Sought, Step}
use Rattle.raw_tree.specs.declared.validator.within.PlacedBreach.{PlacedBreach}
use Rattle.raw_tree.specs.declared.validator.within.ValidateError.{ValidateError}
use Rattle.raw_tree.specs.declared.validator.within.ValidateError.TheVariants as error

-- the keys of frames, in order
abbrev pub keys_of_frames : List Frame → List (List ℕ)
keys_of_frames frames = map (λ f. f.key) frames

-- a key after these keys has this breach: in a document it is one of them; in an array it isn't the decimal of their
-- number
abbrev pub BreachesKeys : Sort → List (List ℕ) → List ℕ → Cause → Type 0
BreachesKeys as_document keys key why = Contains keys key × (why ≡ cause.RepeatedKey)
BreachesKeys as_array keys key why = (key ≢ decimal (length keys)) × (why ≡ cause.ArrayKey)

-- the meaning of a frame is a breach by itself: it is a fault, or its options descend
abbrev pub BreachesItself : Meaning → Cause → Type 0
BreachesItself (faulty fault) why = why ≡ cause.Value
BreachesItself (value (raw.single l)) why = (¬ DoLeafOptionsAscend l) × (why ≡ cause.Options)
BreachesItself (value (raw.document d)) why = ⊥
BreachesItself (value (raw.array d)) why = ⊥
BreachesItself (value (raw.scoped code d)) why = ⊥

-- After elements with these keys, s stops; or the frame at its front has this key, and is a breach by its key, which is
-- validated first, or by its meaning.
abbrev pub BreachesHere : Sort → List (List ℕ) → List ℕ → Option (List ℕ) → Cause → Type 0
BreachesHere sort own s None why = (fault : Fault) × (key : Option (List ℕ)) × IsStop s fault key × (why ≡ cause.Stop)
BreachesHere sort own s (Some key) why =
    (f : Frame) × (r : List ℕ) × IsFrame s f r × (key ≡ f.key)
    × (BreachesKeys sort own f.key why ⊎ (AreKeysCanonical sort (own ++ f.key ∷ []) × (m : Meaning) × Means f m × BreachesItself m why))

-- what ends a validation to a depth: a breach, or a level that is too deep
pub data Violation : Type 0 where
  too_deep : Violation
  breach_of : Cause → Violation

-- breaches are sought, and frames whose keys and values are canonical have none
abbrev pub violations : Sought Violation
violations = record {
  passes = λ inside sort passed. AreKeysCanonical sort (keys_of_frames passed) × AreFramesCanonical (IsCanonicalUpTo inside) passed;
  is_at = λ sort passed s key x. (why : Cause) × (x ≡ breach_of why) × BreachesHere sort (keys_of_frames passed) s key why;
  deep = too_deep;
}

-- the first of a breach and of a level deeper than n; the path to it, and its offset
abbrev pub FirstViolationTo : ℕ → Sort → List ℕ → Violation → List Step → ℕ → Type 0
FirstViolationTo n sort b x path offset = IsFirst violations n sort b x path offset

-- the document b has few enough bytes, and this is the first violation within the depth
abbrev pub FirstViolation : Limits → List ℕ → Violation → List Step → ℕ → Type 0
FirstViolation limits b x path offset = (length b ≤ limits.bytes) × FirstViolationTo limits.depth as_document b x path offset

-- the document b is canonical, and has few enough bytes and levels
abbrev pub IsCanonicalWithin : Limits → List ℕ → Type 0
IsCanonicalWithin limits b = (length b ≤ limits.bytes) × IsCanonicalUpTo limits.depth as_document b

-- what is returned for the document b; memory is requested only if there are few enough bytes and a level may be
-- entered
abbrev pub TellsViolation : Limits → List ℕ → Result (Option PlacedBreach) ValidateError → Type 0
TellsViolation limits b (Ok None) = IsCanonicalWithin limits b
TellsViolation limits b (Ok (Some breach)) = FirstViolation limits b (breach_of breach.cause) (steps_of breach.place) breach.place.offset
TellsViolation limits b (Err error.TooManyBytes) = limits.bytes < length b
TellsViolation limits b (Err (error.TooDeep place)) = FirstViolation limits b too_deep (steps_of place) place.offset
TellsViolation limits b (Err error.OutOfMemory) = (length b ≤ limits.bytes) × (0 < limits.depth)
