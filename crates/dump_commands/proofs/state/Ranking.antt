-- The place of a document among the longest ones.
use Rattle.std.proofs.Common.{◌≡◌, ◌∙◌, ◌+◌, ◌<◌, ◌++◌, ◌∷◌, ℕ, Bool, true, false, List, ap, arith, cond, drop, get_or, length, map, not, sym, take}
use Rattle.std.specs.List.{insert, position_or_len}
use Rattle.std.proofs.lemmas.List.{at_drop_more, drop-map, map-append, take-map}

pub map_inserted : {X Y : Type 0} (f : X → Y) (xs : List X) (i : ℕ) (x : X) → map f (insert xs i x) ≡ insert (map f xs) i (f x)
map_inserted {X} {Y} f xs i x =
    map-append f (take i xs) (x ∷ drop i xs) ∙ ap (λ (ys : List Y). ys ++ f x ∷ map f (drop i xs)) (sym (take-map f i xs))
    ∙ ap (λ (ys : List Y). take i (map f xs) ++ f x ∷ ys) (sym (drop-map f i xs))

pub passes_one : {X : Type 0} (t : X → Bool) (xs : List X) (i k : ℕ) (x : X) → i < length xs → t (get_or xs i x) ≡ false → i + position_or_len t (drop i xs) ≡ k
    → i + 1 + position_or_len t (drop (i + 1) xs) ≡ k
passes_one {X} t xs i k x less fails before =
    let y = get_or xs i x in
    let rest = position_or_len t (drop (i + 1) xs) in
    let here : position_or_len t (drop i xs) ≡ position_or_len t (y ∷ drop (i + 1) xs) = at_drop_more (position_or_len t) xs i x less in
    let more : position_or_len t (y ∷ drop (i + 1) xs) ≡ 1 + rest = ap (λ (b : Bool). cond (not b) (1 + rest) 0) fails in
    omega (arith, before, here, more)

pub stays_there : {X : Type 0} (t : X → Bool) (xs : List X) (i k : ℕ) (x : X) → i < length xs → t (get_or xs i x) ≡ true → i + position_or_len t (drop i xs) ≡ k → i ≡ k
stays_there {X} t xs i k x less holds before =
    let y = get_or xs i x in
    let rest = position_or_len t (drop (i + 1) xs) in
    let here : position_or_len t (drop i xs) ≡ position_or_len t (y ∷ drop (i + 1) xs) = at_drop_more (position_or_len t) xs i x less in
    let none : position_or_len t (y ∷ drop (i + 1) xs) ≡ 0 = ap (λ (b : Bool). cond (not b) (1 + rest) 0) holds in
    omega (arith, before, here, none)
