-- Items in a room.
use Rattle.std.proofs.Common.{rules, ◌≡◌, ◌<◌, ◌≤◌, ◌+◌, ◌-◌, ◌++◌, ◌∷◌, [], ℕ, zero, suc, List, Some, length, map, slice_get, arith, ap, refl, subst, set}
use Rattle.raw_tree.proofs.walk.Common.{PathStep, Step, filled_from, last_key, option_copied, step_of}

pub filled_none : {X : Type 0} (n : ℕ) (room : List X) → filled_from n room [] ≡ room
filled_none n [] = refl
filled_none zero (x ∷ room) = refl
filled_none (suc n) (x ∷ room) = ap (λ (r : List _). x ∷ r) (filled_none n room)

-- one item
pub filled_one : {X : Type 0} (n : ℕ) (room : List X) (item : X) → n < length room → set room n item ≡ filled_from n room (item ∷ [])
filled_one n [] item h = absurd (omega (arith, h))
filled_one zero (x ∷ []) item h = refl
filled_one zero (x ∷ y ∷ room) item h = refl
filled_one (suc n) (x ∷ room) item h = ap (λ (r : List _). x ∷ r) (filled_one n room item (omega (arith, h)))

pub filled_past : {X : Type 0} (n : ℕ) (room : List X) (item : X) → length room ≤ n → room ≡ filled_from n room (item ∷ [])
filled_past n [] item h = refl
filled_past zero (x ∷ room) item h = absurd (omega (arith, h))
filled_past (suc n) (x ∷ room) item h = ap (λ (r : List _). x ∷ r) (filled_past n room item (omega (arith, h)))

-- items after others
pub filled_more : {X : Type 0} (n m : ℕ) (room ts us : List X) → m ≡ n + length ts → filled_from m (filled_from n room ts) us ≡ filled_from n room (ts ++ us)
filled_more n m [] ts us is = refl
filled_more zero m (x ∷ room) [] us is = rw is refl
filled_more zero m (x ∷ room) (t ∷ ts) us is =
    let more : m ≡ suc (length ts) = omega (arith, is) in
    rw more (ap (λ (r : List _). t ∷ r) (filled_more zero (length ts) room ts us (omega arith)))
filled_more (suc n) m (x ∷ room) ts us is =
    let more : m ≡ suc (n + length ts) = omega (arith, is) in
    rw more (ap (λ (r : List _). x ∷ r) (filled_more n (n + length ts) room ts us refl))

-- steps of a path

pub numbers_of : (path : List PathStep) → map (λ (step : PathStep). step.number) path ≡ map (λ (step : Step). step.number) (map step_of path)
numbers_of [] = refl
numbers_of (p ∷ path) = ap (λ (ns : List ℕ). p.number ∷ ns) (numbers_of path)

pub last_at : (path : List PathStep) (p : PathStep) → slice_get path (length path - 1) ≡ Some p → last_key (map step_of path) ≡ option_copied p.key
last_at [] p is = search rules
last_at (x ∷ []) p is = search rules
last_at (x ∷ y ∷ path) p is =
    let same : length (x ∷ y ∷ path) - 1 ≡ suc (length (y ∷ path) - 1) = omega arith in
    last_at (y ∷ path) p (subst (λ (n : ℕ). slice_get (x ∷ y ∷ path) n ≡ Some p) same is)
