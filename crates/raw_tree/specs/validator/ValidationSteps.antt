-- The keys of a level that is being validated, and what a step of a validation returns. No public contract cites this
-- file.
use Rattle.std.specs.Prelude.{◌≡◌, ◌++◌, ◌∷◌, [], ℕ, List, Bool, true, false, length, Option, None, Some}
use Rattle.std.specs.Option.{option_copied}
use denote.Ref.{Bor}
use Rattle.bson_model.specs.Proper.{DoLeafOptionsAscend}
use Rattle.raw_view.specs.Document.{bytes_of}
use Rattle.raw_view.specs.Frame.ElementSteps.{frame_of}
use Rattle.raw_view.specs.Frame.{IsFrame}
use Rattle.raw_view.specs.Meaning.{RawValue, Meaning, Means, value}
use Rattle.raw_view.specs.Meaning as raw
use Rattle.raw_view.specs.declared.element.RawElement.{RawElement}
use Rattle.raw_tree.specs.Canonical.{AreKeysCanonical, IsCanonicalUpTo}
use Rattle.key_set.specs.KeySets.{HasKeys}
use Rattle.key_set.specs.References.{texts}
use Rattle.raw_tree.specs.reader.Reading.{Sort, as_document, as_array, HoldsAs}
use Rattle.raw_tree.specs.declared.validator.breach.Cause.{Cause}
use Rattle.raw_tree.specs.declared.validator.keys_so_far.KeysSoFar.{KeysSoFar}
use Rattle.raw_tree.specs.declared.validator.keys_so_far.KeysSoFar.TheVariants as kept
use Rattle.raw_tree.specs.walk.Barriers.{steps_of}
use Rattle.raw_tree.specs.walk.Places.{Step}
use Rattle.raw_tree.specs.validator.Violations.{Violation, too_deep, breach_of, BreachesHere, BreachesItself, BreachesKeys, FirstViolationTo}
use Rattle.raw_tree.specs.walk.Walks.{IsBehind}
use Rattle.raw_tree.specs.declared.validator.step.Held.{Held}
use Rattle.raw_tree.specs.declared.validator.step.Held.TheVariants as held
use Rattle.raw_tree.specs.declared.validator.step.Validated.{Validated}
use Rattle.raw_tree.specs.declared.validator.step.Validated.TheVariants as validated
use Rattle.raw_tree.specs.declared.validator.within.Found.{Found}
use Rattle.raw_tree.specs.declared.walk.WalkError.{WalkError}
use Rattle.raw_tree.specs.declared.walk.WalkError.TheVariants as error

-- a level of this sort has these own keys so far; the list begins with the keys of the outer levels
abbrev pub HasKeysSoFar : KeysSoFar → List (Bor (List ℕ)) → Sort → List (List ℕ) → List (List ℕ) → Type 0
HasKeysSoFar kept.Numbers listed sort below own = (sort ≡ as_array) × (texts listed ≡ below)
HasKeysSoFar (kept.Distinct set) listed sort below own = (sort ≡ as_document) × HasKeys set listed below own

-- these are the keys of some level, and are canonical
abbrev pub AreOpenKeys : KeysSoFar → List (Bor (List ℕ)) → Type 0
AreOpenKeys k listed = (sort : Sort) × (below : List (List ℕ)) × (own : List (List ℕ)) × HasKeysSoFar k listed sort below own × AreKeysCanonical sort own

-- the key is added after these keys, and all are canonical; or it is a breach
abbrev pub TellsOpenKey : Sort → List (List ℕ) → List (List ℕ) → List ℕ → KeysSoFar → List (Bor (List ℕ)) → Option Cause → Type 0
TellsOpenKey sort below own key k listed None = HasKeysSoFar k listed sort below (own ++ key ∷ []) × AreKeysCanonical sort (own ++ key ∷ [])
TellsOpenKey sort below own key k listed (Some why) = BreachesKeys sort own key why

-- this holds whatever the keys of the level are
abbrev pub AddsOpenKey : KeysSoFar → List (Bor (List ℕ)) → ℕ → List ℕ → KeysSoFar → List (Bor (List ℕ)) → Option Cause → Type 0
AddsOpenKey old before number key new after answer =
    (sort : Sort) (below own : List (List ℕ)) → HasKeysSoFar old before sort below own → AreKeysCanonical sort own → number ≡ length own
    → TellsOpenKey sort below own key new after answer

-- the level's own keys are removed from the list
abbrev pub LeavesOpenKeys : KeysSoFar → List (Bor (List ℕ)) → List (Bor (List ℕ)) → Type 0
LeavesOpenKeys k before after = (sort : Sort) (below own : List (List ℕ)) → HasKeysSoFar k before sort below own → texts after ≡ below

-- the sort of a level, by whether it is an array
abbrev pub array_sort : Bool → Sort
array_sort true = as_array
array_sort false = as_document

-- the value holds no nested bytes; its options, if it has any, ascend or descend
abbrev pub IsSingleWith : (Type 0 → Type 0) → RawValue → Type 0
IsSingleWith P (raw.single l) = P (DoLeafOptionsAscend l)
IsSingleWith P (raw.document d) = ⊥
IsSingleWith P (raw.array d) = ⊥
IsSingleWith P (raw.scoped code d) = ⊥

-- the value holds what `held_by` says
abbrev pub HoldsAsTold : RawValue → Held → Type 0
HoldsAsTold v held.Nothing = IsSingleWith (λ A. A) v
HoldsAsTold v held.Descending = IsSingleWith (λ A. ¬ A) v
HoldsAsTold v (held.Level inner is_array) = HoldsAs v (array_sort is_array) (bytes_of inner)

-- how a level continues after an element with a canonical key, by the meaning of the element
abbrev pub TellsValue : RawElement → Validated → Type 0
TellsValue e validated.End = ⊥
TellsValue e (validated.Whole same) = (same ≡ e) × (v : RawValue) × Means (frame_of e) (value v) × IsSingleWith (λ A. A) v
TellsValue e (validated.Inside same inner is_array) = (same ≡ e) × (v : RawValue) × Means (frame_of e) (value v) × HoldsAs v (array_sort is_array) (bytes_of inner)
TellsValue e (validated.Breach key why) = (option_copied key ≡ Some (frame_of e).key) × (m : Meaning) × Means (frame_of e) m × BreachesItself m why

-- how k and the list continue, if they are those of a level with its own keys so far
abbrev pub TellsValidated : Sort → List (List ℕ) → List (List ℕ) → List ℕ → Option (List ℕ) → KeysSoFar → List (Bor (List ℕ)) → Validated → Type 0
TellsValidated sort below own s new k listed validated.End = (s ≡ 0 ∷ []) × HasKeysSoFar k listed sort below own
TellsValidated sort below own s new k listed (validated.Whole e) =
    (r : List ℕ) × (v : RawValue) × IsFrame s (frame_of e) r × Means (frame_of e) (value v) × (new ≡ Some r)
    × HasKeysSoFar k listed sort below (own ++ (frame_of e).key ∷ []) × AreKeysCanonical sort (own ++ (frame_of e).key ∷ []) × IsSingleWith (λ A. A) v
TellsValidated sort below own s new k listed (validated.Inside e inner is_array) =
    (r : List ℕ) × (v : RawValue) × IsFrame s (frame_of e) r × Means (frame_of e) (value v) × (new ≡ Some r)
    × HasKeysSoFar k listed sort below (own ++ (frame_of e).key ∷ []) × AreKeysCanonical sort (own ++ (frame_of e).key ∷ []) × HoldsAs v (array_sort is_array) (bytes_of inner)
TellsValidated sort below own s new k listed (validated.Breach key why) = BreachesHere sort own s (option_copied key) why

-- this holds whatever the level is
abbrev pub Validates : Option (List ℕ) → KeysSoFar → List (Bor (List ℕ)) → ℕ → Option (List ℕ) → KeysSoFar → List (Bor (List ℕ)) → Validated → Type 0
Validates None keys before number new k after answer = Unit {0}
Validates (Some s) keys before number new k after answer =
    (sort : Sort) (below own : List (List ℕ)) → HasKeysSoFar keys before sort below own → AreKeysCanonical sort own → number ≡ length own
    → TellsValidated sort below own s new k after answer

-- what was found within a depth
abbrev pub violation_of : Option Cause → Violation
violation_of None = too_deep
violation_of (Some why) = breach_of why

-- what a validation of the document b to a depth returns: nothing if b is canonical, otherwise its first violation and
-- where it is
abbrev pub TellsFound : ℕ → List ℕ → Option Found → Type 0
TellsFound depth b None = IsCanonicalUpTo depth as_document b
TellsFound depth b (Some found) = FirstViolationTo depth as_document b (violation_of found.cause) (steps_of found.place) found.place.offset

-- what is found is a level that is too deep, at its place, in the element that begins here
abbrev pub EndsTooDeep : (outermost : ℕ) → WalkError → Option Found → Type 0
EndsTooDeep outermost (error.Barrier b) (Some found) = (found.cause ≡ None) × (found.place ≡ b.place) × (found.outermost ≡ outermost)
EndsTooDeep outermost other found = ⊥

-- the number of the first step; without a step, that of the first element
abbrev pub first_number : List Step → ℕ
first_number [] = 0
first_number (step ∷ steps) = step.number

-- what was found is at or inside the element of the outermost level that begins here
abbrev pub TellsOutermost : List ℕ → Option Found → Type 0
TellsOutermost b None = Unit {0}
TellsOutermost b (Some found) = IsBehind b (first_number (steps_of found.place)) found.outermost
