-- Rows of appends of keys and values to a new document.
use Rattle.std.specs.Prelude.{◌≡◌, ◌⊎◌, ℕ, List, [], ◌∷◌, ◌++◌}
use Rattle.raw_view.specs.Errors.{IsOutOfMemory}
use Rattle.raw_view.specs.Frame.{Frame}
use Rattle.raw_view.specs.Meaning.{RawValue, Means, value}
use Rattle.raw_view.specs.declared.error.Error.{Error}
use Rattle.raw_bson.specs.Append.{HoldsFrames, RefusesAppend, value_frame}

-- the frames of these keys and values
abbrev pub frames_of_row : List (List ℕ × RawValue) → List Frame
frames_of_row [] = []
frames_of_row (p ∷ pairs) = value_frame p.0 p.1 ∷ frames_of_row pairs

-- each of these frames means its value
abbrev pub MeanTheirValues : List (List ℕ × RawValue) → Type 0
MeanTheirValues [] = Unit {0}
MeanTheirValues (p ∷ pairs) = Means (value_frame p.0 p.1) (value p.1) × MeanTheirValues pairs

-- the document b holds these keys and values, in order, and nothing else
pub record HoldsRow (b : List ℕ) (pairs : List (List ℕ × RawValue)) : Type 0 where
  pub frames : HoldsFrames b (frames_of_row pairs)
  pub means : MeanTheirValues pairs

-- Why not all of these are appended to a new document: memory ran out for the new one; or an append failed, when the document held those
-- before it.
abbrev pub RefusesRow : List (List ℕ × RawValue) → Error → Type 0
RefusesRow pairs e =
    IsOutOfMemory e
    ⊎ ((b key : List ℕ) × (v : RawValue) × (done todo : List (List ℕ × RawValue)) × (pairs ≡ done ++ (key, v) ∷ todo) × HoldsRow b done × RefusesAppend b key v e.kind)
