-- What a loop over levels knows of the bytes. Each level has passed frames that stand for the pairs that it has drafted. Each but the
-- innermost waits for the value of the frame after those.
use Rattle.std.proofs.Common.{◌≡◌, Option, None, Some, ◌+◌, ◌∷◌, [], ℕ, suc, List, length, arith, ap, refl, map, Bor, zip}
use Rattle.raw_tree.proofs.Common.{length-map, nil_from_length, Tree, code_with_scope, entries, tree_of, with_trees, pairs_of, Bson, Document, bytes_of, Frame, RawValue}
use Rattle.raw_tree.proofs.Common.{HoldsAs, sort_of, held_value, holding, AreDrafted, ClosesAs, Barrier, Holds, Contents, Draft, Holder, Level, Nested, Waiting}
use Rattle.raw_tree.specs.declared.reader.levels.Contents.TheVariants as contents
use Rattle.raw_tree.proofs.reader.Decides.{HasOutcome, IsAhead, IsOutcome, Passed, barred_inside, comes_inside, outcome_from}

-- contents

-- nothing is drafted
pub drafted_none : (h : Holder) (d : Draft) → d.keys.items ≡ [] → d.values.items ≡ [] → AreDrafted h d []
drafted_none h d k v = grind arith

pub no_trees : (pairs : List (List ℕ × Tree)) → [] ≡ map (λ (p : List ℕ × Tree). p.1) pairs → pairs ≡ []
no_trees pairs h = nil_from_length pairs (omega (arith, simp length-map at (ap length h)))

-- pairs that are taken apart
pub zip_pairs : (pairs : List (List ℕ × Tree)) → zip (map (λ (p : List ℕ × Tree). p.0) pairs) (map (λ (p : List ℕ × Tree). p.1) pairs) ≡ pairs
zip_pairs [] = refl
zip_pairs (p ∷ ps) = ap (λ l. p ∷ l) (zip_pairs ps)

-- the value of a code and the contents of its scope
pub closes_scope : (c : Contents) (held : Option (Bor (List ℕ))) (code : Bor (List ℕ)) (d : Document) (t : Bson) → c ≡ contents.Document held d
    → held ≡ Some code → tree_of t ≡ code_with_scope code.now (entries (with_trees (pairs_of d))) → ClosesAs c t
closes_scope c held code d t is some same = grind arith

pub held_holds : (h : Holder) (d : List ℕ) → Holds (holding h d) d
held_holds h d = grind arith

pub held_as : (h : Holder) (d : List ℕ) → HoldsAs (holding h d) (sort_of h) d
held_as h d = grind arith

-- a level

-- A level that reads the nested bytes; the pair has the number of frames of the outermost bytes that are counted before them. The level has
-- passed frames that stand for the pairs that it has drafted; n frames are counted up to there.
pub record IsReading (inside : ℕ) (i : Nested × ℕ) (level : Level) (n : ℕ) : Type 0 where
  pub pairs : List (List ℕ × Tree)
  pub rest : List ℕ
  pub here : ℕ
  pub left : level.elements ≡ Some rest
  pub passed : Passed inside (bytes_of i.0.document) rest pairs here
  pub drafted : AreDrafted level.holder level.draft pairs
  pub held : level.holder ≡ i.0.holder
  pub total : n ≡ i.1 + here

-- the level with these elements left
abbrev pub with_left : Level → Option (List ℕ) → Level
with_left level new = record { elements = new; holder = level.holder; draft = level.draft }

-- the frame is at the front of s and means the value, and these elements are left after it
abbrev pub Front : List ℕ → Frame → RawValue → Option (List ℕ) → Type 0
Front s f v new = (r : List ℕ) × IsAhead s f v r × (new ≡ Some r)

-- the level waits after a frame that isn't drafted yet: its value holds the nested bytes of the next level
pub record IsWaiting (inside : ℕ) (o : Nested × ℕ) (w : Waiting) (i : Nested × ℕ) : Type 0 where
  pub left : Option (List ℕ)
  pub n : ℕ
  pub reading : IsReading inside o (with_left w.level left) n
  pub frame : Frame
  pub front : Front reading.rest frame (held_value i.0) w.level.elements
  pub key_is : w.key.now ≡ frame.key
  pub total : i.1 ≡ n + 1

-- Nested bytes have this first barrier; or they have an outcome after at least this many frames. The frames are counted from the outermost
-- bytes.
abbrev pub IsTold : Option Barrier → ℕ → ℕ → Nested × ℕ → Type 0
IsTold None n depth i = (m : ℕ) × (n ≡ i.1 + m) × HasOutcome depth (sort_of i.0.holder) (bytes_of i.0.document) m
IsTold (Some x) n depth i = (m : ℕ) × (n ≡ i.1 + m) × IsOutcome depth (sort_of i.0.holder) (bytes_of i.0.document) (Some x) m

-- what holds of nested bytes at the front of a level holds of its bytes
pub told_inside : {inside n : ℕ} {o : Nested × ℕ} {level : Level} (is : IsReading inside o level n) (i : Nested × ℕ) {f : Frame} {new : Option (List ℕ)} → Front is.rest f (held_value i.0) new
    → i.1 ≡ n + 1 → (x : Option Barrier) (all : ℕ) → IsTold x all inside i → IsTold x all (suc inside) o
told_inside {o = o} is (v, before) front more None all (m, same, h) =
    let d = bytes_of v.document in
    let sort = sort_of o.0.holder in
    (is.here + 1 + m, omega (arith, same, more, is.total), comes_inside is.passed front.1 sort (sort_of v.holder) d m (held_as v.holder d) h (λ rest k on. outcome_from sort on))
told_inside {o = o} is (v, before) front more (Some x) all (m, same, h) =
    let d = bytes_of v.document in
    (is.here + 1 + m, omega (arith, same, more, is.total), barred_inside is.passed front.1 (sort_of o.0.holder) (sort_of v.holder) d x m (held_holds v.holder d) h)

-- The waiting levels, the innermost first: each waits for the one before it, and the first waits for i, inside of which `inside` levels may
-- be. The outermost is o.
abbrev pub AreWaiting : (inside : ℕ) → Nested × ℕ → List Waiting → Nested × ℕ → Type 0
AreWaiting inside o [] i = o ≡ i
AreWaiting inside o (w ∷ ws) i = (m : Nested × ℕ) × IsWaiting (suc inside) m w i × AreWaiting (suc inside) o ws m

-- so what holds of the innermost bytes holds of the outermost
pub told_outward : (x : Option Barrier) (all inside depth : ℕ) (o : Nested × ℕ) (ws : List Waiting) (i : Nested × ℕ) → suc (length ws + inside) ≡ depth → AreWaiting inside o ws i
    → IsTold x all (suc inside) i → IsTold x all depth o
told_outward x all inside depth o [] i levels same h = let one : depth ≡ suc inside = omega (arith, levels) in rw (same, one) h
told_outward x all inside depth o (w ∷ ws) i levels (m, link, held) h =
    told_outward x all (suc inside) depth o ws m (omega (arith, levels)) held (told_inside link.reading i link.front link.total x all h)
