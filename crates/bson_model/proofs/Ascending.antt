-- Lists of numbers in ascending order.
use Rattle.std.proofs.Common.{◌≡◌, ℕ, zero, suc, ◌+◌, ◌≤◌, ◌<◌, Bool, true, false, cond, List, [], ◌∷◌, length, get_or, refl, ap, sym, ◌∙◌, arith, eq-eqb}
use Rattle.std.proofs.Math.Dec.{leb, eqb}
use Rattle.std.proofs.lemmas.Bool.{leb-true, leb-false, eqb-true}
use Rattle.std.proofs.lemmas.List.Recursion.{is_count_by}
use Rattle.std.specs.List.{AllByRecursion, count_by}
use Rattle.std.specs.List.Sorted.{IsPermutation, IsNonDecreasing}
use Rattle.std.proofs.lemmas.List.Sorted.{IsPermutation-refl, IsPermutation-sym, IsPermutation-cons, IsPermutation-trans, IsPermutation-middle, sum_by-IsPermutation}
use Rattle.bson_model.specs.Options.{put_in_order, ascending}

-- each number is at most those after it
abbrev Rises : List ℕ → Type 0
Rises [] = Unit {0}
Rises (x ∷ xs) = AllByRecursion (λ y. x ≤ y) xs × Rises xs

all_above : (c d : ℕ) (ds : List ℕ) → c ≤ d → AllByRecursion (λ y. d ≤ y) ds → AllByRecursion (λ y. c ≤ y) ds
all_above c d [] le h = tt
all_above c d (e ∷ es) le h = (omega (arith, h.0), all_above c d es le h.1)

all_put : (b c : ℕ) (ds : List ℕ) → b ≤ c → AllByRecursion (λ y. b ≤ y) ds → AllByRecursion (λ y. b ≤ y) (put_in_order c ds)
all_put b c [] le h = (le, tt)
all_put b c (d ∷ ds) le h =
    elim (leb c d) as (λ t. AllByRecursion (λ y. b ≤ y) (cond t (c ∷ d ∷ ds) (d ∷ put_in_order c ds))) [
      | true ↦ (le, h)
      | false ↦ (h.0, all_put b c ds le h.1)
    ]

Rises-put_in_order : (c : ℕ) (ds : List ℕ) → Rises ds → Rises (put_in_order c ds)
Rises-put_in_order c [] h = (tt, tt)
Rises-put_in_order c (d ∷ ds) h =
    elim (leb c d) as (λ t. leb c d ≡ t → Rises (cond t (c ∷ d ∷ ds) (d ∷ put_in_order c ds))) [
      | true ↦ λ e. let le = leb-true c d e in ((le, all_above c d ds le h.0), h)
      | false ↦ λ e. let lt = leb-false c d e in (all_put d c ds (omega arith) h.0, Rises-put_in_order c ds h.1)
    ] refl

Rises-ascending : (cs : List ℕ) → Rises (ascending cs)
Rises-ascending [] = tt
Rises-ascending (c ∷ cs) = Rises-put_in_order c (ascending cs) (Rises-ascending cs)

IsPermutation-put_in_order : (c : ℕ) (ds : List ℕ) → IsPermutation (c ∷ ds) (put_in_order c ds)
IsPermutation-put_in_order c [] = IsPermutation-refl (c ∷ [])
IsPermutation-put_in_order c (d ∷ ds) =
    elim (leb c d) as (λ t. IsPermutation (c ∷ d ∷ ds) (cond t (c ∷ d ∷ ds) (d ∷ put_in_order c ds))) [
      | true ↦ IsPermutation-refl (c ∷ d ∷ ds)
      | false ↦ (let swapped : IsPermutation (c ∷ d ∷ ds) (d ∷ c ∷ ds) = IsPermutation-sym (d ∷ c ∷ ds) (c ∷ d ∷ ds) (IsPermutation-middle (d ∷ []) c ds) in
          IsPermutation-trans (c ∷ d ∷ ds) (d ∷ c ∷ ds) (d ∷ put_in_order c ds) swapped (IsPermutation-cons d (c ∷ ds) (put_in_order c ds) (IsPermutation-put_in_order c ds)))
    ]

-- sorting only moves the numbers
pub IsPermutation-ascending : (cs : List ℕ) → IsPermutation cs (ascending cs)
IsPermutation-ascending [] = IsPermutation-refl []
IsPermutation-ascending (c ∷ cs) =
    IsPermutation-trans (c ∷ cs) (c ∷ ascending cs) (ascending (c ∷ cs)) (IsPermutation-cons c cs (ascending cs) (IsPermutation-ascending cs)) (IsPermutation-put_in_order c (ascending cs))

abbrev count : ℕ → List ℕ → ℕ
count c [] = 0
count c (x ∷ xs) = cond (eqb x c) (1 + count c xs) (count c xs)

least : (c x : ℕ) (xs : List ℕ) → AllByRecursion (λ y. x ≤ y) xs → 0 < count c xs → x ≤ c
least c x [] h some = absurd (omega arith)
least c x (y ∷ ys) h some =
    elim (eqb y c) as (λ t. eqb y c ≡ t → 0 < cond t (1 + count c ys) (count c ys) → x ≤ c) [
      | true ↦ λ e some'. let at = h.0 in let same : y ≡ c = eqb-true y c e in omega arith
      | false ↦ λ e some'. least c x ys h.1 some'
    ] refl some

counted : (x : ℕ) (xs : List ℕ) → 0 < count x (x ∷ xs)
counted x xs = let same : eqb x x ≡ true = eq-eqb x x refl in rw same (omega arith)

first_le : (x y : ℕ) (xs ys : List ℕ) → Rises (x ∷ xs) → ((c : ℕ) → count c (x ∷ xs) ≡ count c (y ∷ ys)) → x ≤ y
first_le x y xs ys h same = least y x (x ∷ xs) (omega arith, h.0) (rw (same y) (counted y ys))

uncounted : (b : Bool) (m n : ℕ) → cond b (1 + m) m ≡ cond b (1 + n) n → m ≡ n
uncounted true m n e = omega arith
uncounted false m n e = e

rising_same : (xs ys : List ℕ) → Rises xs → Rises ys → ((c : ℕ) → count c xs ≡ count c ys) → xs ≡ ys
rising_same [] [] h k same = refl
rising_same [] (y ∷ ys) h k same = absurd (let n = counted y ys in let z = same y in omega arith)
rising_same (x ∷ xs) [] h k same = absurd (let n = counted x xs in let z = same x in omega arith)
rising_same (x ∷ xs) (y ∷ ys) h k same =
    let below = first_le x y xs ys h same in
    let above = first_le y x ys xs k (λ c. sym (same c)) in
    let head : y ≡ x = omega arith in
    let tail : xs ≡ ys = rising_same xs ys h.1 k.1 (λ c. uncounted (eqb x c) (count c xs) (count c ys) (same c ∙ ap (λ z. cond (eqb z c) (1 + count c ys) (count c ys)) head)) in
    cc

count_by-count : (c : ℕ) (xs : List ℕ) → count c xs ≡ count_by (λ x. eqb x c) xs
count_by-count c xs = is_count_by (count c) (λ x. eqb x c) refl (λ x ys. refl) xs

count-IsPermutation : (c : ℕ) (xs ys : List ℕ) → IsPermutation xs ys → count c ys ≡ count c xs
count-IsPermutation c xs ys moved = count_by-count c ys ∙ (sum_by-IsPermutation (λ x. cond (eqb x c) 1 0) xs ys moved ∙ sym (count_by-count c xs))

bounds-from_index : (x : ℕ) (xs : List ℕ) → ((j : ℕ) → j < length xs → x ≤ get_or xs j 0) → AllByRecursion (λ y. x ≤ y) xs
bounds-from_index x [] h = tt
bounds-from_index x (y ∷ ys) h = (h 0 (omega arith), bounds-from_index x ys (λ j lt. h (suc j) (omega arith)))

Rises-from_index : (xs : List ℕ) → IsNonDecreasing xs → Rises xs
Rises-from_index [] h = tt
Rises-from_index (x ∷ xs) h =
    (bounds-from_index x xs (λ j lt. h 0 (suc j) 0 (omega arith) (omega arith)), Rises-from_index xs (λ i j d le lt. h (suc i) (suc j) d (omega arith) (omega arith)))

above_at : (x : ℕ) (xs : List ℕ) (j d : ℕ) → AllByRecursion (λ y. x ≤ y) xs → j < length xs → x ≤ get_or xs j d
above_at x [] j d h lt = absurd (omega arith)
above_at x (y ∷ ys) zero d h lt = h.0
above_at x (y ∷ ys) (suc j) d h lt = above_at x ys j d h.1 (omega arith)

IsNonDecreasing-from_rises : (xs : List ℕ) → Rises xs → IsNonDecreasing xs
IsNonDecreasing-from_rises [] h i j d le lt = absurd (omega arith)
IsNonDecreasing-from_rises (x ∷ xs) h zero zero d le lt = omega arith
IsNonDecreasing-from_rises (x ∷ xs) h zero (suc j) d le lt = above_at x xs j d h.0 (omega arith)
IsNonDecreasing-from_rises (x ∷ xs) h (suc i) zero d le lt = absurd (omega arith)
IsNonDecreasing-from_rises (x ∷ xs) h (suc i) (suc j) d le lt = IsNonDecreasing-from_rises xs h.1 i j d (omega arith) (omega arith)

-- the sorted numbers ascend
pub IsNonDecreasing-ascending : (cs : List ℕ) → IsNonDecreasing (ascending cs)
IsNonDecreasing-ascending cs = IsNonDecreasing-from_rises (ascending cs) (Rises-ascending cs)

-- no other order of the same numbers ascends
pub ascending_unique : (cs ds : List ℕ) → IsPermutation cs ds → IsNonDecreasing ds → ds ≡ ascending cs
ascending_unique cs ds moved rises =
    rising_same ds (ascending cs) (Rises-from_index ds rises) (Rises-ascending cs)
    (λ c. count-IsPermutation c cs ds moved ∙ sym (count-IsPermutation c cs (ascending cs) (IsPermutation-ascending cs)))

-- numbers that ascend stay as they are
pub ascending_same : (cs : List ℕ) → IsNonDecreasing cs → ascending cs ≡ cs
ascending_same cs rises = sym (ascending_unique cs cs (IsPermutation-refl cs) rises)
