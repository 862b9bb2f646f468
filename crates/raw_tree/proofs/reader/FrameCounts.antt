-- The number of frames in bytes. All bytes with an envelope have exactly one, as they have exactly one depth, and at most one up to the
-- first fault.
use Rattle.std.proofs.Common.{◌≡◌, ◌≤◌, ◌+◌, ◌*◌, ◌++◌, ◌∷◌, [], ℕ, max, zero, suc, List, length, drop, arith, refl, sym, ◌∙◌, length-drop}
use Rattle.raw_tree.proofs.Common.{AreBytes, IsEnvelope, Frame, IsFrame, IsWalk, End, Meaning, Means, AllHaveOneFrameCount, HasInside, CountsFrames, HasFrameCountUpTo}
use Rattle.raw_tree.proofs.Common.{HasFrameCount, CountsFront, HasFramesUntilUpTo, HasFramesUntilFault, IsGreatestDepth, HasDepthUpTo, ReadsAs}
use Rattle.raw_tree.specs.reader.FrameCount.{over, at_fault}
use Rattle.bson_model.proofs.Face.{AreBytes-drop}
use Rattle.raw_view.proofs.Face.{IsFrame-shorter, AreBytes-rest, document_has_walk, has_meaning, one_frame, one_walk, one_meaning}
use Rattle.raw_tree.proofs.reader.Loops.{nested_envelope, nested_beside, nested_shorter}
use Rattle.raw_tree.proofs.reader.Faults.{front_blocks}
use Rattle.raw_tree.proofs.reader.OneTree.{AreRead}
use Rattle.raw_tree.proofs.walk.OneEnd.{IsBlocked, passed_once}

-- counts

-- if other bytes have the same counts, n frames are in what a frame means
counts_on : (N M : List ℕ → ℕ → Type 0) → ((b : List ℕ) (n : ℕ) → N b n → M b n) → (m : Meaning) (n : ℕ) → HasInside N m n → HasInside M m n
counts_on N M on m n h = grind arith

-- n is the number of the frames
counts_each_on : (N M : List ℕ → ℕ → Type 0) → ((b : List ℕ) (n : ℕ) → N b n → M b n) → (fs : List Frame) (n : ℕ) → CountsFrames N fs n → CountsFrames M fs n
counts_each_on N M on [] n h = h
counts_each_on N M on (f ∷ fs) n h = (h.0, h.1, h.2, h.3, counts_on N M on h.0 h.1 h.4, counts_each_on N M on fs h.2 h.5, h.6)

-- what is counted within some levels is counted
pub each_counted : (levels : ℕ) (fs : List Frame) (n : ℕ) → CountsFrames (HasFrameCountUpTo levels) fs n → CountsFrames HasFrameCount fs n
each_counted levels fs n h = counts_each_on (HasFrameCountUpTo levels) HasFrameCount (λ b k count. (levels, count)) fs n h

-- one more frame
pub counts_more : (N : List ℕ → ℕ → Type 0) (fs : List Frame) (n : ℕ) (f : Frame) (m : Meaning) (inside : ℕ) → CountsFrames N fs n → Means f m
    → HasInside N m inside → CountsFrames N (fs ++ f ∷ []) (n + 1 + inside)
counts_more N [] n f m inside h is c = (m, inside, 0, is, c, refl, omega (arith, h))
counts_more N (g ∷ fs) n f m inside h is c = (h.0, h.1, h.2 + 1 + inside, h.3, h.4, counts_more N fs h.2 f m inside h.5 is c, omega (arith, h.6))

-- a count exists

-- shorter bytes with an envelope have a count, of which this holds together with their length
abbrev HaveWithin : ℕ → (List ℕ → ℕ → Type 0) → Type 0
HaveWithin n N = (d : List ℕ) → length d ≤ n → IsEnvelope d → (k : ℕ) × N d k

-- they have this many frames, at most half their bytes
abbrev IsSmallCount : ℕ → List ℕ → ℕ → Type 0
IsSmallCount levels b n = HasFrameCountUpTo levels b n × (2 * n + 4 ≤ length b)

-- and so has what a frame means
meaning_counted : (n : ℕ) (N : List ℕ → ℕ → Type 0) → HaveWithin n N → (s : List ℕ) (f : Frame) (r : List ℕ) (m : Meaning) → length s ≤ n + 1 → IsFrame s f r → Means f m → (k : ℕ) × HasInside N m k
meaning_counted n N shorter s f r m size at is = grind (arith, nested_envelope, nested_shorter)

meaning_small : (n : ℕ) (s : List ℕ) (f : Frame) (r : List ℕ) (m : Meaning) (k : ℕ) → IsFrame s f r → Means f m → HasInside (IsSmallCount n) m k
    → HasInside (HasFrameCountUpTo n) m k × (2 * k + length r + 2 ≤ length s)
meaning_small n s f r m k at is h = grind (arith, nested_beside, IsFrame-shorter)

-- and so have the frames of a walk
walk_measured : (n : ℕ) → HaveWithin n (IsSmallCount n) → HaveWithin n (HasDepthUpTo n) → (s : List ℕ) (frames : List Frame) (end : End) → AreBytes s → length s ≤ n + 1 → IsWalk s frames end
    → ((k : ℕ) × CountsFrames (HasFrameCountUpTo n) frames k × (2 * k ≤ length s)) × ((k : ℕ) × IsGreatestDepth (HasDepthUpTo n) frames k)
walk_measured n counts depths s [] end bytes size w = ((0, refl, omega arith), (0, refl))
walk_measured n counts depths s (f ∷ fs) end bytes size w =
    let m = has_meaning f w.0 s bytes w.1 in
    let inside = meaning_counted n (IsSmallCount n) counts s f w.0 m.0 size w.1 m.1 in
    let small = meaning_small n s f w.0 m.0 inside.0 w.1 m.1 inside.1 in
    let deep = meaning_counted n (HasDepthUpTo n) depths s f w.0 m.0 size w.1 m.1 in
    let others = walk_measured n counts depths w.0 fs end (AreBytes-rest s f w.0 w.1 bytes) (omega (arith, IsFrame-shorter s f w.0 w.1)) w.2 in (
      (1 + inside.0 + others.0.0, (m.0, inside.0, others.0.0, m.1, small.0, others.0.1, refl), omega (arith, small.1, others.0.2)),
      (max deep.0 others.1.0, (m.0, deep.0, others.1.0, m.1, deep.1, others.1.1, refl)),
    )

pub has_measures : (n : ℕ) (b : List ℕ) → length b ≤ n → IsEnvelope b → ((k : ℕ) × IsSmallCount n b k) × ((k : ℕ) × HasDepthUpTo n b k)
has_measures zero b l env = absurd (omega (arith, env.enough))
has_measures (suc n) b l env =
    let w = document_has_walk b env in
    let k = walk_measured n (λ d l e. (has_measures n d l e).0) (λ d l e. (has_measures n d l e).1) (drop 4 b) w.0 w.1 (AreBytes-drop 4 b env.bytes) (omega (arith, length-drop 4 b)) w.2 in
    ((k.0.0, ((w.0, w.1, w.2, k.0.1), omega (arith, length-drop 4 b, env.enough, k.0.2))), (1 + k.1.0, (w.0, w.1, k.1.0, w.2, k.1.1, refl)))

-- and only one

-- bytes that are counted in one way and in another have one count
abbrev pub AgreeOn : (List ℕ → ℕ → Type 0) → (List ℕ → ℕ → Type 0) → Type 0
AgreeOn N M = (b : List ℕ) (j k : ℕ) → N b j → M b k → j ≡ k

pub counts_same : (N M : List ℕ → ℕ → Type 0) → AgreeOn N M → (m : Meaning) (j k : ℕ) → HasInside N m j → HasInside M m k → j ≡ k
counts_same N M same m j k h i = grind arith

counts_each_same : (N M : List ℕ → ℕ → Type 0) → AgreeOn N M → (fs : List Frame) (j k : ℕ) → CountsFrames N fs j → CountsFrames M fs k → j ≡ k
counts_each_same N M same [] j k h i = h ∙ sym i
counts_each_same N M same (f ∷ fs) j k h i = grind (arith, counts_same, one_meaning, counts_each_same N M same fs)

one_count_within : (n m : ℕ) → AgreeOn (HasFrameCountUpTo n) (HasFrameCountUpTo m)
one_count_within zero m b j k h i = absurd h
one_count_within (suc n) zero b j k h i = absurd i
one_count_within (suc n) (suc m) b j k h i = grind (arith, counts_each_same, one_walk, one_count_within n m)

-- bytes have one frame count at most
one_count : AgreeOn HasFrameCount HasFrameCount
one_count b j k h i = one_count_within h.0 i.0 b j k h.1 i.1

-- and exactly one
pub one_frame_count : AllHaveOneFrameCount
one_frame_count b env =
    let k = (has_measures (length b) b (omega arith) env).0 in
    (k.0, (length b, k.1.0), omega (arith, k.1.1), λ other h. one_count b other k.0 h (length b, k.1.0))

-- up to the first fault

-- no frame is passed where a count ends
front_counted : (N : List ℕ → ℕ → Type 0) (fs : List Frame) (r : List ℕ) (n : ℕ) → CountsFront N r n → IsBlocked (AreRead ReadsAs) fs r
front_counted N fs r n (over none is) g p more there passed = none g p there
front_counted N fs r n (at_fault f q m fault inside at means first h is) g p more there passed = front_blocks fs r f q fault at first g p more there passed

front_same : (N M : List ℕ → ℕ → Type 0) → AgreeOn N M → (r : List ℕ) (j k : ℕ) → CountsFront N r j → CountsFront M r k → j ≡ k
front_same N M same r j k (over none a) (over other b) = a ∙ sym b
front_same N M same r j k (over none a) (at_fault g p l y inner there is behind i b) = absurd (none g p there)
front_same N M same r j k (at_fault f q m x inside at means first h a) (over none b) = absurd (none f q at)
front_same N M same r j k (at_fault f q m x inside at means first h a) (at_fault g p l y inner there is behind i b) =
    let l_is = one_meaning f l m (rw (one_frame r g f p q there at).0 at is) means in
    omega (arith, a, b, counts_same N M same m inside inner h (rw l_is at i))

to_fault_same : (n m : ℕ) → AgreeOn (HasFramesUntilUpTo n) (HasFramesUntilUpTo m)
to_fault_same zero m b j k h i = absurd h
to_fault_same (suc n) zero b j k h i = absurd i
to_fault_same (suc n) (suc m) b j k h i =
    let same = passed_once (AreRead ReadsAs) (drop 4 b) h.0 i.0 h.2 i.2 h.5 (h.1, h.6) (front_counted (HasFramesUntilUpTo n) h.0 h.2 h.4 h.8)
    i.5 (i.1, i.6) (front_counted (HasFramesUntilUpTo m) i.0 i.2 i.4 i.8) in
    let before : i.3 ≡ h.3 = counts_each_same HasFrameCount HasFrameCount one_count h.0 i.3 h.3 (rw same.0 at i.7) h.7 in
    omega (arith, h.9, i.9, before, front_same (HasFramesUntilUpTo n) (HasFramesUntilUpTo m) (to_fault_same n m) h.2 h.4 i.4 h.8 (rw same.1 at i.8))

-- bytes have at most one number of frames up to the first fault
pub one_until : (b : List ℕ) (j k : ℕ) → HasFramesUntilFault b j → HasFramesUntilFault b k → j ≡ k
one_until b j k h i = to_fault_same h.0 i.0 b j k h.1 i.1
