-- How the levels around elements follow one another, where the path of the last element begins with what theirs begin with.
use Rattle.std.proofs.Common.{◌≡◌, ◌-◌, ◌<◌, ◌≤◌, ◌∙◌, ℕ, zero, suc, List, [], ◌∷◌, ◌++◌, Bool, ap, arith, codes, cond, false, get_or, length, map, nat_eq, nat_lt, refl, subst, sym, take}
use Rattle.std.proofs.lemmas.Bool.{lt-ltb}
use Rattle.std.proofs.lemmas.List.{length-append, length-map, length-take-le, map_push, take-map}
use Rattle.std.specs.List.{AllByRecursion}
use Rattle.dump_commands.specs.state.Fields.{AreLevels, AreWithin, Around, IsAscending, innermost, inside_of, level_of, levels_of, outermost}
use Rattle.dump_commands.specs.declared.state.fields.Level.{Level}
use Rattle.dump_commands.proofs.state.Tabled.{all_at, front_taken}

module _ {X : Type 0} where
  take_less : (k m : ℕ) (xs : List X) → k ≤ m → take k (take m xs) ≡ take k xs
  take_less zero m xs less = refl
  take_less (suc k) zero xs less = absurd (omega (arith, less))
  take_less (suc k) (suc m) [] less = refl
  take_less (suc k) (suc m) (x ∷ xs) less = ap (λ (l : List X). x ∷ l) (take_less k m xs (omega (arith, less)))

  takes_whole : (xs : List X) → take (length xs) xs ≡ xs
  takes_whole [] = refl
  takes_whole (x ∷ xs) = ap (λ (l : List X). x ∷ l) (takes_whole xs)

module _ {X : Type 0} (P : X → Type 0) where
  -- of an item that may be there
  all_or : (xs : List X) (i : ℕ) (d : X) → P d → AllByRecursion P xs → P (get_or xs i d)
  all_or [] i d other all = other
  all_or (x ∷ xs) zero d other all = all.0
  all_or (x ∷ xs) (suc i) d other all = all_or xs i d other all.1

  all_take : (n : ℕ) (xs : List X) → AllByRecursion P xs → AllByRecursion P (take n xs)
  all_take zero xs all = tt
  all_take (suc n) [] all = tt
  all_take (suc n) (x ∷ xs) all = (all.0, all_take n xs all.1)

  all_push : (xs : List X) (x : X) → AllByRecursion P xs → P x → AllByRecursion P (xs ++ x ∷ [])
  all_push [] x all one = (one, tt)
  all_push (y ∷ ys) x all one = (all.0, all_push ys x all.1 one)

-- the innermost of levels
abbrev pub last_of : List Level → Level
last_of levels = get_or levels (length levels - 1) (record { prefix = 0; in_array = false })

last_behind : (x y : Level) (ys : List Level) → last_of (x ∷ y ∷ ys) ≡ last_of (y ∷ ys)
last_behind x y ys =
    let outer : Level = record { prefix = 0; in_array = false } in
    let whole : suc (suc (length ys)) - 1 ≡ suc (length ys) = omega arith in
    let rest : suc (length ys) - 1 ≡ length ys = omega arith in
    ap (λ (n : ℕ). get_or (x ∷ y ∷ ys) n outer) whole ∙ sym (ap (λ (n : ℕ). get_or (y ∷ ys) n outer) rest)

-- what the elements of each level begin with is in front of what those of the last one do
up_to_last : (levels : List Level) → IsAscending levels → AreWithin (last_of levels).prefix levels
up_to_last [] ascending = tt
up_to_last (x ∷ []) ascending = (omega arith, tt)
up_to_last (x ∷ y ∷ ys) (above, ascending) =
    let outer : Level = record { prefix = 0; in_array = false } in
    let first : x.prefix ≤ (last_of (y ∷ ys)).prefix = all_at (λ (l : Level). x.prefix ≤ l.prefix) (y ∷ ys) (length (y ∷ ys) - 1) outer above (omega arith) in
    subst (λ (l : Level). AreWithin l.prefix (x ∷ y ∷ ys)) (sym (last_behind x y ys)) (first, up_to_last (y ∷ ys) ascending)

ascending_take : (n : ℕ) (levels : List Level) → IsAscending levels → IsAscending (take n levels)
ascending_take zero levels ascending = tt
ascending_take (suc n) [] ascending = tt
ascending_take (suc n) (x ∷ xs) (above, ascending) = (all_take (λ (l : Level). x.prefix ≤ l.prefix) n xs above, ascending_take n xs ascending)

ascending_push : (levels : List Level) (x : Level) → IsAscending levels → AreWithin x.prefix levels → IsAscending (levels ++ x ∷ [])
ascending_push [] x ascending within = (tt, tt)
ascending_push (y ∷ ys) x (above, ascending) (first, within) = (all_push (λ (l : Level). y.prefix ≤ l.prefix) ys x above first, ascending_push ys x ascending within)

within_more : (m n : ℕ) (levels : List Level) → m ≤ n → AreWithin m levels → AreWithin n levels
within_more m n [] more within = tt
within_more m n (x ∷ xs) more (first, within) = (omega (arith, first, more), within_more m n xs more within)

-- what is after that changes no level
same_levels : (m : ℕ) (path path' : List ℕ) (levels : List Level) → take m path' ≡ take m path → AreWithin m levels → levels_of path' levels ≡ levels_of path levels
same_levels m path path' [] same within = refl
same_levels m path path' (x ∷ xs) same (first, within) =
    let one : take x.prefix path' ≡ take x.prefix path =
    sym (take_less x.prefix m path' first) ∙ ap (take x.prefix) same ∙ take_less x.prefix m path first in
    let rest = same_levels m path path' xs same within in
    λ i. record { prefix = one i; in_array = x.in_array } ∷ rest i

get_or_map : {X Y : Type 0} (f : X → Y) (xs : List X) (i : ℕ) (d : X) → get_or (map f xs) i (f d) ≡ f (get_or xs i d)
get_or_map f [] i d = refl
get_or_map f (x ∷ xs) zero d = refl
get_or_map f (x ∷ xs) (suc i) d = get_or_map f xs i d

-- the innermost of the levels that are left
pub innermost_left : (path : List ℕ) (levels few : List Level) (level : Level) (n : ℕ) → few ≡ take n levels → level ≡ last_of few
    → innermost (take n (levels_of path levels)) ≡ level_of path level
innermost_left path levels few level n left is =
    let all : take n (levels_of path levels) ≡ levels_of path few = take-map (level_of path) n levels ∙ ap (levels_of path) (sym left) in
    let outer : Level = record { prefix = 0; in_array = false } in
    ap innermost all ∙ ap (λ (k : ℕ). get_or (levels_of path few) (k - 1) outermost) (length-map few (level_of path)) ∙ get_or_map (level_of path) few (length few - 1) outer
    ∙ ap (level_of path) (sym is)

-- levels are left, and the last step of a path is put after the prefix of the innermost that is left
pub gone_on : (path path' cut step : List ℕ) (levels few : List Level) {level : Level} (n : ℕ) → AreLevels path levels → few ≡ take n levels → level ≡ last_of few
    → cut ≡ take level.prefix path → path' ≡ cut ++ step → (levels_of path' few ≡ take n (levels_of path levels)) × AreLevels path' few
gone_on path path' cut step levels few {level = level} n (ascending, within) left last front is =
    let m = level.prefix in
    let outer : Level = record { prefix = 0; in_array = false } in
    let those : AreWithin (length path) few = subst (AreWithin (length path)) (sym left) (all_take (λ (l : Level). l.prefix ≤ length path) n levels within) in
    let order : IsAscending few = subst IsAscending (sym left) (ascending_take n levels ascending) in
    let short : m ≤ length path =
    subst (λ (l : Level). l.prefix ≤ length path) (sym last) (all_or (λ (l : Level). l.prefix ≤ length path) few (length few - 1) outer (omega arith) those) in
    let size : length (take m path) ≡ m = length-take-le m path short in
    let whole : path' ≡ take m path ++ step = is ∙ ap (λ (l : List ℕ). l ++ step) front in
    let same : take m path' ≡ take m path = ap (take m) whole ∙ subst (λ (k : ℕ). take k (take m path ++ step) ≡ take m path) size (front_taken (take m path) step) in
    let up : AreWithin m few = subst (λ (l : Level). AreWithin l.prefix few) (sym last) (up_to_last few order) in
    let more : m ≤ length path' = omega (arith, ap length whole, length-append (take m path) step, size) in (
      same_levels m path path' few same up ∙ ap (levels_of path) left ∙ sym (take-map (level_of path) n levels),
      (order, within_more m (length path') few more up),
    )

-- the level inside an element is entered
pub went_in : (path path' : List ℕ) (levels levels' : List Level) (inside tag : ℕ) → AreLevels path levels → path' ≡ path ++ codes "."
    → levels' ≡ levels ++ record { prefix = length path'; in_array = nat_eq tag 4 } ∷ [] → 0 < inside
    → (levels_of path' levels' ≡ cond (nat_lt 0 inside) (levels_of path levels ++ inside_of path tag ∷ []) (levels_of path levels)) × AreLevels path' levels'
went_in path path' levels levels' inside tag (ascending, within) is more some =
    let x : Level = record { prefix = length path'; in_array = nat_eq tag 4 } in
    let len : length path ≤ length path' = omega (arith, ap length is, length-append path (codes ".")) in
    let same : take (length path) path' ≡ take (length path) path = ap (take (length path)) is ∙ front_taken path (codes ".") ∙ sym (takes_whole path) in
    let old = same_levels (length path) path path' levels same within in
    let whole : take (length path') path' ≡ path ++ codes "." = takes_whole path' ∙ is in
    let new : level_of path' x ≡ inside_of path tag = λ i. record { prefix = whole i; in_array = nat_eq tag 4 } in
    let all : levels_of path' levels' ≡ levels_of path levels ++ inside_of path tag ∷ [] =
    ap (levels_of path') more ∙ map_push (level_of path') levels x ∙ ap (λ (l : List Around). l ++ level_of path' x ∷ []) old
    ∙ ap (λ (a : Around). levels_of path levels ++ a ∷ []) new in
    let up = within_more (length path) (length path') levels len within in (
      all ∙ sym (ap (λ (b : Bool). cond b (levels_of path levels ++ inside_of path tag ∷ []) (levels_of path levels)) (lt-ltb 0 inside some)),
      subst (AreLevels path') (sym more) (ascending_push levels x ascending up, all_push (λ (l : Level). l.prefix ≤ length path') levels x up (omega arith)),
    )
