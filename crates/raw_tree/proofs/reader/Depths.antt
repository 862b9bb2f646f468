-- Depths: all bytes with an envelope have exactly one depth. Bytes are read within n levels if and only if they are read and are at most n
-- deep.
use Rattle.std.proofs.Common.{◌≡◌, ◌≤◌, ◌∷◌, [], ℕ, max, zero, suc, List, length, arith, refl, sym, ◌∙◌}
use Rattle.raw_tree.proofs.Common.{le-max_left, le-max_right, max-le, Tree, Frame, Done, RawValue, value, AllHaveOneDepth, HasInside}
use Rattle.raw_tree.proofs.Common.{IsGreatestDepth, HasDepthUpTo, HasDepth, Sort, StandsFor, StandForEach, ReadsUpTo, ReadsAs}
use Rattle.raw_view.proofs.Face.{one_walk, one_meaning}
use Rattle.raw_tree.proofs.reader.FrameCounts.{AgreeOn, counts_same, has_measures}
use Rattle.raw_tree.proofs.reader.Loops.{reads_up_to, stand_each_on, stands_on}

-- what is read within n levels is at most n deep

-- each tree that nested bytes are read as gives a depth of at most n, within which it is read
abbrev pub AreShallow : ℕ → (Sort → List ℕ → Tree → Type 0) → Type 0
AreShallow n N = (sort : Sort) (d : List ℕ) (t : Tree) → N sort d t → (k : ℕ) × HasDepthUpTo n d k × (k ≤ n) × ReadsUpTo k sort d t

value_shallow : (n : ℕ) → AreShallow n (ReadsUpTo n) → (v : RawValue) (t : Tree) → StandsFor (ReadsUpTo n) v t
    → (k : ℕ) × HasInside (HasDepthUpTo n) (value v) k × (k ≤ n) × StandsFor (ReadsUpTo k) v t
value_shallow n nested v t h = grind arith

each_shallow : (n : ℕ) → AreShallow n (ReadsUpTo n) → (fs : List Frame) (pairs : List (List ℕ × Tree)) → StandForEach (ReadsUpTo n) fs pairs
    → (k : ℕ) × IsGreatestDepth (HasDepthUpTo n) fs k × (k ≤ n) × StandForEach (ReadsUpTo k) fs pairs
each_shallow n nested [] pairs h = (0, refl, omega arith, h)
each_shallow n nested (f ∷ fs) pairs h =
    let first = value_shallow n nested h.0 h.1 h.4 in
    let others = each_shallow n nested fs h.2 h.6 in
    let k : ℕ = max first.0 others.0 in
    let here : StandsFor (ReadsUpTo k) h.0 h.1 = stands_on (ReadsUpTo first.0) (ReadsUpTo k) (reads_up_to first.0 k (le-max_left first.0 others.0)) h.0 h.1 first.3 in
    let behind : StandForEach (ReadsUpTo k) fs h.2 = stand_each_on (ReadsUpTo others.0) (ReadsUpTo k) (reads_up_to others.0 k (le-max_right first.0 others.0)) fs h.2 others.3 in
    (k, (value h.0, first.0, others.0, h.3, first.1, others.1, refl), max-le first.2 others.2, (h.0, h.1, h.2, h.3, here, h.5, behind))

pub shallow_within : (n : ℕ) → AreShallow n (ReadsUpTo n)
shallow_within zero sort b t h = absurd h
shallow_within (suc n) sort b t h =
    let each = each_shallow n (shallow_within n) h.1.0 h.0 h.1.2 in
    (suc each.0, (h.1.0, Done, each.0, h.1.1, each.1, omega arith), omega (arith, each.2), (h.0, (h.1.0, h.1.1, each.3), h.2))

-- one depth at most

greatest_same : (N M : List ℕ → ℕ → Type 0) → AgreeOn N M → (fs : List Frame) (k j : ℕ) → IsGreatestDepth N fs k → IsGreatestDepth M fs j → k ≡ j
greatest_same N M same [] k j h i = h ∙ sym i
greatest_same N M same (f ∷ fs) k j h i = grind (arith, one_meaning, counts_same, greatest_same N M same fs)

one_depth_within : (n m : ℕ) → AgreeOn (HasDepthUpTo n) (HasDepthUpTo m)
one_depth_within zero m b k j h i = absurd h
one_depth_within (suc n) zero b k j h i = absurd i
one_depth_within (suc n) (suc m) b k j h i = grind (arith, greatest_same, one_walk, one_depth_within n m)

-- so what is read and is at most n deep is read within n levels
pub read_to_depth : (n : ℕ) (sort : Sort) (b : List ℕ) (t : Tree) (k : ℕ) → ReadsAs sort b t → HasDepth b k → k ≤ n → ReadsUpTo n sort b t
read_to_depth n sort b t k h deep few =
    let least = shallow_within h.0 sort b t h.1 in
    reads_up_to least.0 n (omega (arith, one_depth_within h.0 deep.0 b least.0 k least.1 deep.1, few)) sort b t least.3

-- and there is one depth
pub one_depth : AllHaveOneDepth
one_depth b env =
    let k = (has_measures (length b) b (omega arith) env).1 in
    (k.0, (length b, k.1), λ other h. one_depth_within h.0 (length b) b other k.0 h.1 k.1)
