-- Buffers that are filled from iterators, by one append or push for each item.
use Rattle.std.specs.Prelude.{◌≡◌, ◌⊎◌, ℕ, ◌+◌, List, [], ◌∷◌, ◌++◌, Option, Result, Ok, Err, decimal}
use Rattle.std.specs.Iterator.{Yields, Drains}
use denote.Ref.{Bor}
use Rattle.raw_view.specs.Errors.{IsOutOfMemory}
use Rattle.raw_view.specs.Frame.{Frame}
use Rattle.raw_view.specs.declared.error.Error.{Error}
use Rattle.raw_bson.specs.Append.{Appends, value_frame}
use Rattle.raw_bson.specs.Count.{ArrayBytes, Pushes}
use Rattle.raw_bson.specs.Owned.{owned_value}
use Rattle.raw_bson.specs.declared.bson.RawBson.{RawBson}

-- the bytes of the document without elements
abbrev pub empty_document : List ℕ
empty_document = 5 ∷ 0 ∷ 0 ∷ 0 ∷ 0 ∷ []

-- the array without values
abbrev pub empty_array : ArrayBytes
empty_array = record { bytes = empty_document; count = 0 }

-- `Takes` says what one item returns and what the buffer is after it. X is what is seen of a buffer, and A an item.
module _ {X A : Type 0} (Takes : X → A → Result (Unit {0}) Error → X → Type 0) where
  -- each item in order is taken, and the next is taken by the buffer after it
  abbrev pub TakesEach : X → List A → X → Type 0
  TakesEach b [] left = left ≡ b
  TakesEach b (x ∷ xs) left = (mid : X) × Takes b x (Ok tt) mid × TakesEach mid xs left

  -- the iterator yields these items and then none, and the buffer `empty` takes each
  pub record TakesAll {S : Type 0} (empty : X) (next_gives : S → Option A → S → Type 0) (s : S) (full : X) : Type 0 where
    pub items : List A
    pub given : Drains next_gives s items
    pub taken : TakesEach empty items full

  -- the iterator yields items that the buffer `empty` takes, and then one that fails with this error
  pub record FailsAtOne {S : Type 0} (empty : X) (next_gives : S → Option A → S → Type 0) (s : S) (e : Error) : Type 0 where
    pub items : List A
    pub last : A
    pub after : S
    pub left : X
    pub given : Yields next_gives s (items ++ last ∷ []) after
    pub taken : TakesEach empty items left
    pub failed : Takes left last (Err e) left

  -- What filling the buffer `empty` from an iterator returns: all items taken in order; or the error of the first one that fails, or out of
  -- memory for the empty buffer. `next_gives` says what the calls of the iterator return.
  abbrev pub Fills : {S : Type 0} → X → (S → Option A → S → Type 0) → S → Result X Error → Type 0
  Fills empty next_gives s (Ok full) = TakesAll empty next_gives s full
  Fills empty next_gives s (Err e) = IsOutOfMemory e ⊎ FailsAtOne empty next_gives s e

-- an append of a key and a value
abbrev pub TakesPair : List ℕ → Bor (List ℕ) × RawBson → Result (Unit {0}) Error → List ℕ → Type 0
TakesPair b pair result left = Appends b pair.0.now (owned_value pair.1) result left

-- a push of a value
abbrev pub TakesValue : ArrayBytes → RawBson → Result (Unit {0}) Error → ArrayBytes → Type 0
TakesValue a v result left = Pushes a (owned_value v) result left

-- the frames of these pairs
abbrev pub frames_of_pairs : List (Bor (List ℕ) × RawBson) → List Frame
frames_of_pairs [] = []
frames_of_pairs (pair ∷ pairs) = value_frame pair.0.now (owned_value pair.1) ∷ frames_of_pairs pairs

-- the frames of these values, with the decimals from n on as keys
abbrev pub frames_from : ℕ → List RawBson → List Frame
frames_from n [] = []
frames_from n (v ∷ values) = value_frame (decimal n) (owned_value v) ∷ frames_from (n + 1) values
