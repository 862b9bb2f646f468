-- A document with another value under some keys, one inside the other.
use Rattle.std.specs.Prelude.{◌≡◌, ◌≢◌, ◌⊎◌, ◌<◌, ℕ, List, [], ◌∷◌, length, Option, Some, None}
use Rattle.raw_bson.specs.Append.{value_frame}
use Rattle.raw_bson.specs.Copying.{EndsCopy, IsCopy}
use Rattle.raw_bson.specs.Document.{bytes_of}
use Rattle.raw_bson.specs.Error.{Error}
use Rattle.raw_bson.specs.Frame.{Frame}
use Rattle.raw_bson.specs.Meaning.{RawValue, Means, value, document}
use Rattle.raw_bson.specs.RawDocument.{RawDocument}
use Rattle.bson_uses.specs.Path.{keys_of}
use Rattle.bson_uses.specs.declared.update.Change.{Change}
use Rattle.bson_uses.specs.declared.update.Change.TheVariants as change

-- the document that a frame means, or that it means none
abbrev pub TellsInside : Frame → Option RawDocument → Type 0
TellsInside f (Some d) = Means f (value (document (bytes_of d)))
TellsInside f None = (inside : List ℕ) → ¬ Means f (value (document inside))

-- a frame that means a document becomes one with what `Gives` says of the inside; any other frame stays
abbrev pub GoesInside : (Frame → List Frame → Type 0) → Frame → List Frame → Type 0
GoesInside Gives f given =
    ((inside set : List ℕ) × Means f (value (document inside)) × IsCopy Gives inside set × (given ≡ value_frame f.key (document set) ∷ []))
    ⊎ (((inside : List ℕ) → ¬ Means f (value (document inside))) × (given ≡ f ∷ []))

-- What a frame becomes if v is set under these keys: under the last key v; under an earlier key the document in which v is set under the
-- other keys. Any other frame stays.
abbrev pub Sets : List (List ℕ) → RawValue → Frame → List Frame → Type 0
Sets [] v f given = given ≡ f ∷ []
Sets (key ∷ []) v f given = ((f.key ≡ key) × (given ≡ value_frame f.key v ∷ [])) ⊎ ((f.key ≢ key) × (given ≡ f ∷ []))
Sets (key ∷ next ∷ keys) v f given = ((f.key ≡ key) × GoesInside (Sets (next ∷ keys) v) f given) ⊎ ((f.key ≢ key) × (given ≡ f ∷ []))

-- why v isn't set in the document that a frame under the first key means
abbrev pub RefusesInside : List (List ℕ) → RawValue → Frame → Error → Type 0
RefusesInside [] v f e = ⊥
RefusesInside (key ∷ keys) v f e =
    (f.key ≡ key) × (inside : List ℕ) × Means f (value (document inside)) × EndsCopy (Sets keys v) (RefusesInside keys v) inside e

-- why no copy of the document b is made in which v is set under these keys
abbrev pub RefusesSet : List (List ℕ) → RawValue → List ℕ → Error → Type 0
RefusesSet path v b e = EndsCopy (Sets path v) (RefusesInside path v) b e

-- What becomes of a frame, whatever the value is: it stays; it gets the value; or it gets the document in which the value is set under
-- these keys, or fails as that does.
abbrev pub IsChange : List (List ℕ) → Frame → Change → Type 0
IsChange path f change.Keep = (v : RawValue) → Sets path v f (f ∷ [])
IsChange path f change.Put = (v : RawValue) → Sets path v f (value_frame f.key v ∷ [])
IsChange path f (change.Below d keys) =
    (length keys.now < length path)
    × ((v : RawValue) (set : List ℕ) → IsCopy (Sets (keys_of keys.now) v) (bytes_of d) set → Sets path v f (value_frame f.key (document set) ∷ []))
    × ((v : RawValue) (e : Error) → RefusesSet (keys_of keys.now) v (bytes_of d) e → RefusesInside path v f e)
