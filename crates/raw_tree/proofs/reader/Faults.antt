-- First faults and first barriers. Bytes have at most one, and none if they are read as a tree. To a depth greater than the length nothing is
-- too deep.
use Rattle.std.proofs.Common.{◌≡◌, inl, inr, ◌≤◌, ◌+◌, ◌++◌, ◌∷◌, [], ℕ, zero, suc, List, Option, None, Some, length, arith, refl}
use Rattle.raw_tree.proofs.Common.{Barrier, FailsAt, FirstFault, FirstFaultOfFrame, FirstFaultOfValue, FirstFaultWithin, Frame, Holds, HoldsAs, IsFaultWith, IsFrame, KeyedFault, Means, RawValue, ReadsAs, ReadsUpTo, Sort}
use Rattle.raw_tree.proofs.Common.{StandsFor, Tree, as_document, barriers, fault_of, too_deep, too_many_bytes, value}
use Rattle.raw_tree.proofs.walk.Common.{IsFirst, IsOffsetOf, Step}
use Rattle.raw_view.proofs.Face.{no_frame_at_final, no_frame_at_stop, no_stop_at_final, one_frame}
use Rattle.raw_tree.proofs.reader.Loops.{reads_up_to, stand_each_on}
use Rattle.raw_tree.proofs.reader.OneTree.{AreRead, one_fault_of, one_nested, one_value_of, read_among, some_fault, stop_same, value_nor_fault}
use Rattle.raw_tree.proofs.walk.First.{IsFront, IsPassed, IsUnique, apart, deeper, held_some, one_first}
use Rattle.raw_tree.proofs.walk.First as first
use Rattle.raw_tree.proofs.walk.OneEnd.{IsBlocked}

-- what is read is passed

read_passed : (n : ℕ) (sort : Sort) (b : List ℕ) (t : Tree) → ReadsUpTo n sort b t → IsPassed barriers n sort b
read_passed zero sort b t h = absurd h
read_passed (suc n) sort b t (pairs, (frames, walk, each), same) = (frames, walk, (pairs, each))

held_read : (N : Sort → List ℕ → Tree → Type 0) (v : RawValue) (t : Tree) (sort : Sort) (d : List ℕ) → StandsFor N v t → HoldsAs v sort d → (u : Tree) × N sort d u
held_read N v t sort d h holds = grind arith

-- no fault is at the final 0

fails_over : (s : List ℕ) (key : Option (List ℕ)) (fault : KeyedFault) → s ≡ 0 ∷ [] → ¬ FailsAt s key fault
fails_over s None fault e stop = no_stop_at_final s fault.fault fault.key e stop
fails_over s (Some key) fault e (f, r, at, means, key_is) = no_frame_at_final s e f r at

fails_same : (s : List ℕ) (key other : Option (List ℕ)) (a c : KeyedFault) → FailsAt s key a → FailsAt s other c → (other ≡ key) × (c ≡ a)
fails_same s None None a c h g = (refl, stop_same s c a g h)
fails_same s None (Some other) a c h (g, q, there, n, other_is) = absurd (no_frame_at_stop s a.fault a.key h g q there)
fails_same s (Some key) None a c (f, r, at, m, key_is) g = absurd (no_frame_at_stop s c.fault c.key g f r at)
fails_same s (Some key) (Some other) a c (f, r, at, m, key_is) (g, q, there, n, other_is) =
    let same = (one_frame s g f q r there at).0 in
    (rw (key_is, other_is, same) refl, one_fault_of f c a (rw same at n) m)

-- no fault is at a frame that means a value
not_fails : (s : List ℕ) (f : Frame) (r : List ℕ) (v : RawValue) → IsFrame s f r → Means f (value v) → (key : Option (List ℕ)) (fault : KeyedFault) → ¬ FailsAt s key fault
not_fails s f r v at means None fault h = no_frame_at_stop s fault.fault fault.key h f r at
not_fails s f r v at means (Some key) fault (g, q, there, m, key_is) = value_nor_fault f v fault means (rw ((one_frame s g f q r there at).0) at m)

fails_block : (N : Sort → List ℕ → Tree → Type 0) (ps : List Frame) (s : List ℕ) (key : Option (List ℕ)) (fault : KeyedFault) → FailsAt s key fault → IsBlocked (AreRead N) ps s
fails_block N ps s key fault h f r more at (pairs, each) = let (v, t, means, stands) = read_among N ps f more pairs each in not_fails s f r v at means key fault h

barriers_same : (s : List ℕ) (key other : Option (List ℕ)) (x y : Barrier) → IsFaultWith (λ fault. FailsAt s key fault) x → IsFaultWith (λ fault. FailsAt s other fault) y → (other ≡ key) × (y ≡ x)
barriers_same s key other x y h g =
    let (a, fails, x_is) = some_fault _ x h in
    let (c, others, y_is) = some_fault _ y g in
    let (key_is, same) = fails_same s key other a c fails others in
    (key_is, rw (x_is, y_is, same) refl)

pub barriers_unique : IsUnique barriers
barriers_unique = record {
  over = λ sort ps s key x e h. let fault = some_fault _ x h in fails_over s key fault.0 e fault.1;
  one = λ sort ps s key other x y h g. barriers_same s key other x y h g;
  blocks = λ n sort ps s key x h. let fault = some_fault _ x h in fails_block (ReadsUpTo n) ps s key fault.0 fault.1;
  inside = λ n sort ps f more v held_as d passed means holds.
      let (w, t, also, stands) = read_among (ReadsUpTo n) ps f more passed.0 passed.1 in
      let (u, read) = held_read (ReadsUpTo n) v t held_as d (rw (one_value_of f w v also means) at stands) holds in
      read_passed n held_as d u read;
}

-- barriers

-- barriers don't depend on the sort
any_sort : (n : ℕ) (sort other : Sort) (b : List ℕ) (x : Barrier) (path : List Step) (offset : ℕ) → IsFirst barriers n sort b x path offset → IsFirst barriers n other b x path offset
any_sort zero sort other b x path offset h = h
any_sort (suc n) sort other b x path offset h = h

-- the nested bytes of a frame at the front have a barrier
pub bars_inside : (n : ℕ) (b : List ℕ) (frames : List Frame) (v : RawValue) (d : List ℕ) (x : Barrier) (steps : List Step) (inside offset : ℕ) {s : List ℕ} {f : Frame} {r : List ℕ}
    → IsFrame s f r × Means f (value v) × Holds v d → IsFirst barriers n as_document d x steps inside → IsOffsetOf b s (d ++ r) steps inside offset
    → IsFront barriers n as_document frames b s x (record { number = length frames; key = Some f.key } ∷ steps) offset
bars_inside n b frames v d x steps inside offset {s} {f} {r} (frame, means, holds) bars there =
    let (held_as, held) = held_some v d holds in
    let none = λ (key : Option (List ℕ)) (y : Barrier) (h : IsFaultWith (λ fault. FailsAt s key fault) y). let fault = some_fault _ y h in not_fails s f r v frame means key fault.0 fault.1 in
    inr (none, (f, r, v, held_as, d, steps, inside, frame, means, held, any_sort n as_document held_as d x steps inside bars, refl, there))

pub apart_within : (n : ℕ) (sort : Sort) (b : List ℕ) (t : Tree) (x : Barrier) → ReadsUpTo n sort b t → FirstFaultWithin n b x → ⊥
apart_within n sort b t x h (path, offset, bars) = apart barriers_unique n sort b x path offset (any_sort n as_document sort b x path offset bars) (read_passed n sort b t h)

-- a level that is too deep needs at least as many bytes as levels are allowed
pub deep_long : (n : ℕ) (b : List ℕ) → FirstFaultWithin n b too_deep → n ≤ length b
deep_long n b (path, offset, h) = first.deep_long barriers (λ sort ps s key bad. bad) n as_document b path offset h

-- the bytes aren't counted within a depth
many_nowhere : (n : ℕ) (sort : Sort) (b : List ℕ) (path : List Step) (offset : ℕ) → IsFirst barriers n sort b too_many_bytes path offset → ⊥
many_nowhere zero sort b path offset h = let bad : too_many_bytes ≡ too_deep = h.0 in cc
many_nowhere (suc n) sort b path offset (ps, s, leads, before, inl (key, here, path_is, begins)) = here
many_nowhere (suc n) sort b path offset (ps, s, leads, before, inr (none, (f, q, v, held_as, d, steps, inside, frame, means, holds, nested, path_is, there))) =
    many_nowhere n held_as d steps inside nested

pub never_too_many : (n : ℕ) (b : List ℕ) → FirstFaultWithin n b too_many_bytes → ⊥
never_too_many n b (path, offset, h) = many_nowhere n as_document b path offset h

-- faults

fault_deeper : (n m : ℕ) → n ≤ m → (b : List ℕ) (fault : KeyedFault) (path : List Step) (offset : ℕ) → IsFirst barriers n as_document b (fault_of fault) path offset
    → IsFirst barriers m as_document b (fault_of fault) path offset
fault_deeper n m l b fault path offset h =
    deeper barriers (λ i j few sort ps passed. (passed.0, stand_each_on (ReadsUpTo i) (ReadsUpTo j) (reads_up_to i j few) ps passed.0 passed.1))
    n m l as_document b (fault_of fault) path offset (λ bad. let same : fault_of fault ≡ too_deep = bad in cc) h

-- bytes are not both read as a tree and at fault
pub tree_or_fault : (sort : Sort) (b : List ℕ) (t : Tree) (fault : KeyedFault) → ReadsAs sort b t → FirstFault b fault → ⊥
tree_or_fault sort b t fault (m, h) (n, path, offset, bad) =
    apart_within (n + m) sort b t (fault_of fault) (reads_up_to m (n + m) (omega arith) sort b t h) (path, offset, fault_deeper n (n + m) (omega arith) b fault path offset bad)

-- and no value both stands for a tree and has a first fault
pub tree_or_fault_of_value : (v : RawValue) (t : Tree) (fault : KeyedFault) → StandsFor ReadsAs v t → FirstFaultOfValue v fault → ⊥
tree_or_fault_of_value v t fault h (d, holds, bad) =
    let (sort, held) = held_some v d holds in
    let (u, read) = held_read ReadsAs v t sort d h held in
    tree_or_fault sort d u fault read bad

-- bytes have at most one first fault
pub one_first_fault : (b : List ℕ) (x y : KeyedFault) → FirstFault b x → FirstFault b y → x ≡ y
one_first_fault b x y (n, path, offset, h) (m, other, at, g) =
    let (same, path_is, offset_is) = one_first barriers_unique (n + m) as_document b (fault_of x) (fault_of y) path other offset at (fault_deeper n (n + m) (omega arith) b x path offset h)
    (fault_deeper m (n + m) (omega arith) b y other at g) in
    cc

-- a value has at most one first fault
pub one_first_fault_of_value : (v : RawValue) (x y : KeyedFault) → FirstFaultOfValue v x → FirstFaultOfValue v y → x ≡ y
one_first_fault_of_value v x y h k = one_first_fault h.0 x y h.2 (rw (one_nested v k.0 h.0 k.1 h.1) at k.2)

-- after frames that stand for trees

-- a frame with a fault isn't passed
pub front_blocks : (fs : List Frame) (s : List ℕ) (g : Frame) (q : List ℕ) (fault : KeyedFault) → IsFrame s g q → FirstFaultOfFrame g fault → IsBlocked (AreRead ReadsAs) fs s
front_blocks fs s g q fault there (inl means) f r more at passed = fails_block ReadsAs fs s (Some g.key) fault (g, q, there, means, refl) f r more at passed
front_blocks fs s g q fault there (inr (w, means, bad)) f r more at (pairs, each) =
    let (v, t, also, stands) = read_among ReadsAs fs f more pairs each in
    let same = one_value_of f w v (rw ((one_frame s g f q r there at).0) at means) also in
    tree_or_fault_of_value v t fault stands (rw same at bad)
