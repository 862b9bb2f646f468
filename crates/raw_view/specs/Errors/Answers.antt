-- What calls return, in terms of the definitions.
use Rattle.std.specs.Prelude.{◌≡◌, ◌⊎◌, ℕ, Bool, true, false, List, [], ◌∷◌, Option, None, Some, Result, Ok, Err}
use denote.Ref.{Bor}
use Rattle.raw_view.specs.declared.bson_ref.RawBsonRef.{RawBsonRef}
use Rattle.raw_view.specs.declared.error.Error.{Error}
use Rattle.raw_view.specs.Frame.{Frame, IsFrame, IsStop, Done, Stopped}
use Rattle.raw_view.specs.Errors.{TellsFault}
use Rattle.raw_view.specs.Meaning.{KeyedFault, Meaning, value, faulty, Means}
use Rattle.raw_view.specs.Meaning.Item.{Item, entry, stopped}
use Rattle.raw_view.specs.LookUp.{KeyAnswer, present, absent}
use Rattle.raw_view.specs.Meaning.Value.{value_of}

-- the error says the fault with its key; if the fault has a key, the error may be out of memory instead
abbrev pub Says : Error → KeyedFault → Type 0
Says e fault = TellsFault e fault.fault fault.key

-- the result is the value that is meant, or the fault
abbrev pub TellsMeaning : Result RawBsonRef Error → Meaning → Type 0
TellsMeaning (Ok v) (value w) = value_of v ≡ w
TellsMeaning (Ok v) (faulty fault) = ⊥
TellsMeaning (Err e) (value w) = ⊥
TellsMeaning (Err e) (faulty fault) = Says e fault

-- the result is what a look-up finds: a value, a fault, or nothing
abbrev pub TellsFound : Result (Option RawBsonRef) Error → Option Meaning → Type 0
TellsFound (Ok None) found = found ≡ None
TellsFound (Ok (Some v)) found = found ≡ Some (value (value_of v))
TellsFound (Err e) None = ⊥
TellsFound (Err e) (Some (value w)) = ⊥
TellsFound (Err e) (Some (faulty fault)) = Says e fault

-- the result is whether a key is there: it is; or it isn't, and the walk ends at the final 0; or the stop
abbrev pub TellsKey : Result Bool Error → KeyAnswer → Type 0
TellsKey (Ok true) answer = answer ≡ present
TellsKey (Ok false) answer = answer ≡ absent Done
TellsKey (Err e) present = ⊥
TellsKey (Err e) (absent Done) = ⊥
TellsKey (Err e) (absent (Stopped fault key)) = TellsFault e fault key

-- the result is a key and its value, or the fault
abbrev pub TellsItem : Result (Bor (List ℕ) × RawBsonRef) Error → Item → Type 0
TellsItem (Ok p) (entry key (value v)) = (p.0.now ≡ key) × (value_of p.1 ≡ v)
TellsItem (Ok p) (entry key (faulty fault)) = ⊥
TellsItem (Ok p) (stopped fault) = ⊥
TellsItem (Err e) (entry key (value v)) = ⊥
TellsItem (Err e) (entry key (faulty fault)) = Says e fault
TellsItem (Err e) (stopped fault) = Says e fault

-- the result is a value, or the fault; the key of the frame is left out
abbrev pub TellsValue : Result RawBsonRef Error → Item → Type 0
TellsValue out (entry key m) = TellsMeaning out m
TellsValue (Ok x) (stopped fault) = ⊥
TellsValue (Err e) (stopped fault) = Says e fault

-- The same for lists of results and for the steps that return them. `Tells` relates one result to one item.
module _ {X : Type 0} (Tells : Result X Error → Item → Type 0) where
  -- each result is its item, and there are as many results as items
  abbrev pub TellsEach : List (Result X Error) → List Item → Type 0
  TellsEach [] [] = Unit {0}
  TellsEach [] (item ∷ items) = ⊥
  TellsEach (out ∷ outs) [] = ⊥
  TellsEach (out ∷ outs) (item ∷ items) = Tells out item × TellsEach outs items

  -- The steps from the remaining bytes s; t is what remains after the step.

  -- at the final 0 nothing is returned, and the 0 remains
  abbrev pub StepsAtFinal : List ℕ → Option (List ℕ) → Type 0
  StepsAtFinal s t = (s ≡ 0 ∷ []) × (t ≡ Some s)

  -- over a frame: its meaning is returned, even a fault, and what follows the frame remains
  pub record StepsOverFrame (s : List ℕ) (out : Result X Error) (t : Option (List ℕ)) : Type 0 where
    pub frame : Frame
    pub rest : List ℕ
    pub meaning : Meaning
    pub in_front : IsFrame s frame rest
    pub means : Means frame meaning
    pub told : Tells out (entry frame.key meaning)
    pub left : t ≡ Some rest

  -- to the stop: its fault is returned, and nothing remains
  pub record StepsToStop (s : List ℕ) (out : Result X Error) (t : Option (List ℕ)) : Type 0 where
    pub fault : KeyedFault
    pub stops : IsStop s fault.fault fault.key
    pub told : Tells out (stopped fault)
    pub left : t ≡ None

  -- What a call of `next` returns. The state is the remaining bytes, and nothing after a stop.
  abbrev pub StepsItems : Option (List ℕ) → Option (Result X Error) → Option (List ℕ) → Type 0
  StepsItems None out t = (out ≡ None) × (t ≡ None)
  StepsItems (Some s) None t = StepsAtFinal s t
  StepsItems (Some s) (Some out) t = StepsOverFrame s out t ⊎ StepsToStop s out t
