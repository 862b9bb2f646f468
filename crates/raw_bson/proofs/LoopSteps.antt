-- Steps of a caller's loop, by what `next` returned and how it was matched.
use Rattle.std.proofs.Common.{◌≡◌, ◌++◌, ◌∷◌, [], ℕ, List, Option, Some, Result, Ok, Err, drop, subst}
use denote.Ref.{Bor}
use Rattle.raw_view.specs.Errors.{TellsFault}
use Rattle.raw_view.specs.Errors.Answers.{Says, TellsItem, TellsValue, StepsItems}
use Rattle.raw_view.specs.Frame.ElementSteps.{StepsElement, frame_of, HasRead, HasReadItems}
use Rattle.raw_view.specs.Frame.{Frame, Fault, Stopped, IsWalk}
use Rattle.raw_view.specs.Meaning.Item.{Item, entry, HasFirstFault}
use Rattle.raw_view.specs.Meaning.{KeyedFault, value}
use Rattle.raw_view.specs.Meaning.Value.{value_of}
use Rattle.raw_view.specs.declared.bson_ref.RawBsonRef.{RawBsonRef}
use Rattle.raw_view.specs.declared.element.RawElement.{RawElement}
use Rattle.raw_view.specs.declared.error.Error.{Error}
use Rattle.raw_view.proofs.Face as view

module _ (s : List ℕ) (read : List Frame) (old new : Option (List ℕ)) {out : Result RawElement Error} where
  -- one more element
  pub HasRead-more : {e : RawElement} → HasRead s read old → StepsElement old (Some out) new → out ≡ Ok e → HasRead s (read ++ frame_of e ∷ []) new
  HasRead-more {e = e} h st was = view.HasRead-more s read old new e h (subst (λ (x : Result RawElement Error). StepsElement old (Some x) new) was st)

  -- the walk stops
  pub HasRead-stop : {e : Error} → HasRead s read old → StepsElement old (Some out) new → out ≡ Err e
      → (fault : Fault) × (key : Option (List ℕ)) × IsWalk s read (Stopped fault key) × TellsFault e fault key
  HasRead-stop {e = e} h st was = view.HasRead-stop s read old new e h (subst (λ (x : Result RawElement Error). StepsElement old (Some x) new) was st)

module _ {s : List ℕ} {items : List Item} {old new : Option (List ℕ)} {out : Result (Bor (List ℕ) × RawBsonRef) Error} where
  -- one more key and value
  pub HasReadItems-pair : {p : Bor (List ℕ) × RawBsonRef} → HasReadItems s items old → StepsItems TellsItem old (Some out) new → out ≡ Ok p
      → HasReadItems s (items ++ entry p.0.now (value (value_of p.1)) ∷ []) new
  HasReadItems-pair {p = p} h st was = view.HasReadItems-pair s items old new p h (subst (λ (x : Result (Bor (List ℕ) × RawBsonRef) Error). StepsItems TellsItem old (Some x) new) was st)

module _ (b : List ℕ) {items : List Item} {old : Option (List ℕ)} (new : Option (List ℕ)) {out : Result (Bor (List ℕ) × RawBsonRef) Error} where
  -- the first fault of the document b comes
  pub HasReadItems-pair_fault : {e : Error} → HasReadItems (drop 4 b) items old → StepsItems TellsItem old (Some out) new → out ≡ Err e
      → (fault : KeyedFault) × HasFirstFault b fault × Says e fault
  HasReadItems-pair_fault {e = e} h st was =
      view.HasReadItems-pair_fault b items old new e h (subst (λ (x : Result (Bor (List ℕ) × RawBsonRef) Error). StepsItems TellsItem old (Some x) new) was st)

module _ {s : List ℕ} {items : List Item} {old new : Option (List ℕ)} {out : Result RawBsonRef Error} where
  -- one more value of an array, under some key
  pub HasReadItems-value : {v : RawBsonRef} → HasReadItems s items old → StepsItems TellsValue old (Some out) new → out ≡ Ok v
      → (key : List ℕ) × HasReadItems s (items ++ entry key (value (value_of v)) ∷ []) new
  HasReadItems-value {v = v} h st was = view.HasReadItems-value s items old new v h (subst (λ (x : Result RawBsonRef Error). StepsItems TellsValue old (Some x) new) was st)

module _ (b : List ℕ) {items : List Item} {old : Option (List ℕ)} (new : Option (List ℕ)) {out : Result RawBsonRef Error} where
  -- the first fault of the array b comes
  pub HasReadItems-value_fault : {e : Error} → HasReadItems (drop 4 b) items old → StepsItems TellsValue old (Some out) new → out ≡ Err e
      → (fault : KeyedFault) × HasFirstFault b fault × Says e fault
  HasReadItems-value_fault {e = e} h st was =
      view.HasReadItems-value_fault b items old new e h (subst (λ (x : Result RawBsonRef Error). StepsItems TellsValue old (Some x) new) was st)
