-- The number of items of a document.
use Rattle.std.proofs.Common.{◌≡◌, arith, ℕ, ◌+◌, List, [], ◌∷◌, length, Result, Ok, Err, refl, ◌∙◌}
use Rattle.raw_view.specs.Frame.ElementSteps.{ListsWalk}
use Rattle.raw_view.specs.Frame.{Frame, End, Done, Stopped, IsWalk}
use Rattle.raw_view.specs.Meaning.Item.{Item, entry, stopped, ItemsOf}
use Rattle.bson_model.specs.Bytes.{AreBytes}
use Rattle.raw_view.specs.declared.element.RawElement.{RawElement}
use Rattle.raw_view.specs.declared.error.Error.{Error}
use Rattle.raw_view.proofs.Face.{has_meaning, AreBytes-rest}

-- the stop is an item
abbrev stops : End → ℕ
stops Done = 0
stops (Stopped fault key) = 1

-- a list of n items, one for each frame and one for the stop
abbrev pub ItemsIn : List Frame → End → ℕ → Type 0
ItemsIn fs end count = (items : List Item) × ItemsOf fs end items × (count ≡ length items)

items_of_walk : (s : List ℕ) (fs : List Frame) (end : End) → AreBytes s → IsWalk s fs end → ItemsIn fs end (length fs + stops end)
items_of_walk s [] Done b w = ([], refl, refl)
items_of_walk s [] (Stopped fault key) b w = (stopped (record { fault = fault; key = key }) ∷ [], refl, refl)
items_of_walk s (f ∷ fs) end b w =
    let m = has_meaning f w.0 s b w.1 in
    let rest = items_of_walk w.0 fs end (AreBytes-rest s f w.0 w.1 b) w.2 in
    (entry f.key m.0 ∷ rest.0, (m.0, rest.0, m.1, refl, rest.1), omega (arith, rest.2))

listed_len : (xs : List (Result RawElement Error)) (fs : List Frame) (end : End) → ListsWalk xs fs end → length xs ≡ length fs + stops end
listed_len [] [] Done l = refl
listed_len [] [] (Stopped fault key) l = absurd l
listed_len [] (f ∷ fs) end l = absurd l
listed_len (Ok e ∷ xs) [] end l = absurd l
listed_len (Ok e ∷ xs) (f ∷ fs) end l = omega (arith, listed_len xs fs end l.1)
listed_len (Err e ∷ []) [] Done l = absurd l
listed_len (Err e ∷ []) [] (Stopped fault key) l = refl
listed_len (Err e ∷ []) (f ∷ fs) end l = absurd l
listed_len (Err e ∷ x ∷ xs) fs end l = absurd l

-- what a listing of the walk counts
pub items_listed : (s : List ℕ) (xs : List (Result RawElement Error)) (fs : List Frame) (end : End) → AreBytes s → IsWalk s fs end → ListsWalk xs fs end → ItemsIn fs end (length xs)
items_listed s xs fs end b w l =
    let items = items_of_walk s fs end b w in
    (items.0, items.1, listed_len xs fs end l ∙ items.2)
