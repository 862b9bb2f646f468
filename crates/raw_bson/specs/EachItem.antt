-- What holds of each item of a document or an array, or of one; the first item of which it doesn't hold; and what a call returns that looks
-- up a key first.
use Rattle.std.specs.Prelude.{◌≡◌, ◌⊎◌, ℕ, List, [], ◌∷◌, ◌++◌, Bool, true, false, Option, Some, None, Result, Ok, Err, drop, option_map}
use Rattle.raw_view.specs.Errors.Answers.{Says}
use Rattle.raw_view.specs.Frame.ElementSteps.{HasReadItems}
use Rattle.raw_view.specs.Meaning.Item.{Item, entry, stopped, AreItems}
use Rattle.raw_view.specs.LookUp.{LooksUp}
use Rattle.raw_view.specs.Meaning.{RawValue, KeyedFault, value, faulty}
use Rattle.raw_view.specs.Meaning.Value.{value_of}
use Rattle.raw_view.specs.declared.bson_ref.RawBsonRef.{RawBsonRef}
use Rattle.raw_view.specs.declared.error.Error.{Error}

-- each of these items is a key with a value of which P holds, and none is a fault
abbrev pub EachItem : (List ℕ → RawValue → Type 0) → List Item → Type 0
EachItem P [] = Unit {0}
EachItem P (entry key (value v) ∷ items) = P key v × EachItem P items
EachItem P (_ ∷ items) = ⊥

-- one of these items is a key with a value of which P holds
abbrev pub OneItem : (List ℕ → RawValue → Type 0) → List Item → Type 0
OneItem P [] = ⊥
OneItem P (entry key (value v) ∷ items) = P key v ⊎ OneItem P items
OneItem P (_ ∷ items) = OneItem P items

-- P holds of each item of the document b
pub record HoldsOfEach (P : List ℕ → RawValue → Type 0) (b : List ℕ) : Type 0 where
  pub items : List Item
  pub are_items : AreItems b items
  pub each : EachItem P items

-- P holds of one item of the document b
pub record HoldsOfOne (P : List ℕ → RawValue → Type 0) (b : List ℕ) : Type 0 where
  pub items : List Item
  pub are_items : AreItems b items
  pub one : OneItem P items

-- the document b has this item, and P holds of each item before it
pub record ComesTo (P : List ℕ → RawValue → Type 0) (b : List ℕ) (item : Item) : Type 0 where
  pub before : List Item
  pub after : List Item
  pub are_items : AreItems b (before ++ item ∷ after)
  pub each : EachItem P before

-- the same of a fault: of a value, or the stop
abbrev pub ComesToFault : (List ℕ → RawValue → Type 0) → List ℕ → KeyedFault → Type 0
ComesToFault P b fault = ((key : List ℕ) × ComesTo P b (entry key (faulty fault))) ⊎ ComesTo P b (stopped fault)

-- items of the document b were read, P holds of each, and their frames lead to the remaining bytes
pub record HasReadEach (P : List ℕ → RawValue → Type 0) (b : List ℕ) (left : Option (List ℕ)) : Type 0 where
  pub items : List Item
  pub read : HasReadItems (drop 4 b) items left
  pub each : EachItem P items

-- the error says the fault, as the caller wraps it
abbrev pub WrapsFault : {E : Type 0} → (Error → E) → KeyedFault → E → Type 0
WrapsFault wrap fault e = (inner : Error) × Says inner fault × (e ≡ wrap inner)

-- Loops that end at the first error. `Answers` says what the call for a key and a value returns; an error of the library is wrapped.
module _ {E : Type 0} (wrap : Error → E) (Answers : List ℕ → RawValue → Result (Unit {0}) E → Type 0) where
  -- What such a loop over the document b returns: Ok if the call returns Ok for each item; otherwise the error of the first item for which
  -- it doesn't, or of a fault before which all are Ok.
  abbrev pub TriesEach : List ℕ → Result (Unit {0}) E → Type 0
  TriesEach b (Ok _) = HoldsOfEach (λ key v. Answers key v (Ok tt)) b
  TriesEach b (Err e) =
      ((key : List ℕ) × (v : RawValue) × ComesTo (λ k w. Answers k w (Ok tt)) b (entry key (value v)) × Answers key v (Err e))
      ⊎ ((fault : KeyedFault) × ComesToFault (λ k w. Answers k w (Ok tt)) b fault × WrapsFault wrap fault e)

-- What a search for an item of which P holds returns in the document b: whether there is one; or the error of a fault before which there is
-- none.
module _ {E : Type 0} (wrap : Error → E) (P : List ℕ → RawValue → Type 0) where
  -- the result of the search
  abbrev pub SeeksOne : List ℕ → Result Bool E → Type 0
  SeeksOne b (Ok true) = (key : List ℕ) × (v : RawValue) × ComesTo (λ k w. ¬ P k w) b (entry key (value v)) × P key v
  SeeksOne b (Ok false) = HoldsOfEach (λ k w. ¬ P k w) b
  SeeksOne b (Err e) = (fault : KeyedFault) × ComesToFault (λ k w. ¬ P k w) b fault × WrapsFault wrap fault e

-- the value that was found
abbrev pub value_in : Option RawBsonRef → Option RawValue
value_in None = None
value_in (Some v) = Some (value_of v)

-- What a call returns that looks up a key in the document b first: what `Answers` says of the value, or of nothing; or the error of the
-- fault that is found.
pub record AsksUnder {T E : Type 0} (wrap : Error → E) (Answers : Option RawValue → Result T E → Type 0) (b key : List ℕ) (r : Result T E) : Type 0 where
  pub told :
      ((found : Option RawValue) × LooksUp b key (option_map value found) × Answers found r)
      ⊎ ((fault : KeyedFault) × LooksUp b key (Some (faulty fault)) × (e : E) × WrapsFault wrap fault e × (r ≡ Err e))
