-- Bytes are read as at most one tree, and a frame means at most one value or fault.
use Rattle.std.proofs.Common.{◌≡◌, ◌++◌, ◌∷◌, [], ℕ, zero, suc, List, sym, ◌∙◌, arith}
use Rattle.raw_tree.proofs.Common.{Tree, Frame, IsStop, RawValue, KeyedFault, Means, value, faulty, Barrier, fault_of, IsFaultWith, Sort, StandsFor, StandForEach, ReadsUpTo, ReadsAs, Holds}
use Rattle.raw_view.proofs.Face.{one_stop, one_walk, one_meaning}

-- values

-- a frame means at most one value
pub one_value_of : (f : Frame) (v w : RawValue) → Means f (value v) → Means f (value w) → v ≡ w
one_value_of f v w a b = let same : value v ≡ value w = one_meaning f (value v) (value w) a b in cc

-- at most one fault
pub one_fault_of : (f : Frame) (x y : KeyedFault) → Means f (faulty x) → Means f (faulty y) → x ≡ y
one_fault_of f x y a b = let same : faulty x ≡ faulty y = one_meaning f (faulty x) (faulty y) a b in cc

-- and never both
pub value_nor_fault : (f : Frame) (v : RawValue) (x : KeyedFault) → Means f (value v) → Means f (faulty x) → ⊥
value_nor_fault f v x a b = let same : value v ≡ faulty x = one_meaning f (value v) (faulty x) a b in cc

-- a value holds at most one list of nested bytes
pub one_nested : (v : RawValue) (d e : List ℕ) → Holds v d → Holds v e → d ≡ e
one_nested v d e a b = grind arith

-- trees

-- bytes that are read in one way and in another are read as one tree
abbrev pub AgreeOn : (Sort → List ℕ → Tree → Type 0) → (Sort → List ℕ → Tree → Type 0) → Type 0
AgreeOn N M = (sort : Sort) (b : List ℕ) (t u : Tree) → N sort b t → M sort b u → t ≡ u

-- then a value stands for one tree
pub stands_same : (N M : Sort → List ℕ → Tree → Type 0) → AgreeOn N M → (v : RawValue) (t u : Tree) → StandsFor N v t → StandsFor M v u → t ≡ u
stands_same N M same v t u h k = grind arith

-- and frames for one list of pairs
stand_each_same : (N M : Sort → List ℕ → Tree → Type 0) → AgreeOn N M → (fs : List Frame) (ps qs : List (List ℕ × Tree)) → StandForEach N fs ps → StandForEach M fs qs → ps ≡ qs
stand_each_same N M same [] ps qs h k = h ∙ sym k
stand_each_same N M same (f ∷ fs) ps qs h k =
    let there : StandsFor M h.0 k.1 = rw (one_value_of f k.0 h.0 k.3 h.3) at k.4 in
    h.5 ∙ rw (stands_same N M same h.0 h.1 k.1 h.4 there, stand_each_same N M same fs h.2 k.2 h.6 k.6) (sym k.5)

-- one tree within any levels
one_tree_within : (n m : ℕ) → AgreeOn (ReadsUpTo n) (ReadsUpTo m)
one_tree_within zero m sort b t u h k = absurd h
one_tree_within (suc n) zero sort b t u h k = absurd k
one_tree_within (suc n) (suc m) sort b t u h k = grind (arith, one_walk, stand_each_same, one_tree_within n m)

-- bytes are read as at most one tree
pub one_tree : (sort : Sort) (b : List ℕ) (t u : Tree) → ReadsAs sort b t → ReadsAs sort b u → t ≡ u
one_tree sort b t u h k = one_tree_within h.0 k.0 sort b t u h.1 k.1

-- passed frames

-- they stand for trees
abbrev pub AreRead : (Sort → List ℕ → Tree → Type 0) → List Frame → Type 0
AreRead N fs = (pairs : List (List ℕ × Tree)) × StandForEach N fs pairs

pub read_among : (N : Sort → List ℕ → Tree → Type 0) (ps : List Frame) (f : Frame) (more : List Frame) (pairs : List (List ℕ × Tree)) → StandForEach N (ps ++ f ∷ more) pairs
    → (v : RawValue) × (t : Tree) × Means f (value v) × StandsFor N v t
read_among N [] f more pairs h = (h.0, h.1, h.3, h.4)
read_among N (g ∷ ps) f more pairs h = read_among N ps f more h.2 h.6

-- barriers

-- a barrier that is a fault with a property
pub some_fault : (P : KeyedFault → Type 0) (x : Barrier) → IsFaultWith P x → (fault : KeyedFault) × P fault × (x ≡ fault_of fault)
some_fault P x h = grind arith

pub stop_same : (s : List ℕ) (a c : KeyedFault) → IsStop s a.fault a.key → IsStop s c.fault c.key → a ≡ c
stop_same s a c h k = let stops = one_stop s a.fault c.fault a.key c.key h k in (λ i. record { fault = stops.0 i; key = stops.1 i })
