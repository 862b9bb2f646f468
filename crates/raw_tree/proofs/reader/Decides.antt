-- The outcome of bytes with an envelope to a depth: a tree, or a first barrier; and how many frames are in them, or come before the fault.
use Rattle.std.proofs.Common.{◌≡◌, ◌⊎◌, inl, inr, ◌≤◌, ◌<◌, ◌+◌, ◌-◌, ◌*◌, ◌++◌, ◌∷◌, [], ℕ, zero, suc, List, Option, None, Some, length, drop, arith, refl, length-drop}
use Rattle.raw_tree.proofs.Common.{AreBytes, Tree, IsEnvelope, Frame, IsFrame, IsStop, IsWalk, End, Done, Stopped, LeadsTo, RawValue, KeyedFault, Means, Meaning, value, faulty, Barrier, FirstFaultWithin}
use Rattle.raw_tree.proofs.Common.{fault_of, too_deep, too_many_bytes, HasInside, CountsFrames, CountsFront, HasFrameCountUpTo, HasFramesUntilFault, HasFramesUntilUpTo, HoldsAs, IsSingle}
use Rattle.raw_tree.proofs.Common.{Sort, as_document, as_array, code_with_scope, leaf, leaf_in_order, tree_of_pairs, StandsFor, StandForEach, ReadsUpTo, ReadsAs, Holds, FailsAt, FirstFault, FirstFaultOfValue}
use Rattle.raw_tree.specs.reader.FrameCount.{over, at_fault}
use Rattle.bson_model.proofs.Face.{AreBytes-drop}
use Rattle.raw_view.specs.Meaning as raw
use Rattle.raw_view.proofs.Face.{LeadsTo-walk, LeadsTo-more, IsFrame-shorter, has_meaning, AreBytes-rest, document_has_walk, one_frame, no_frame_at_stop, no_frame_at_final}
use Rattle.raw_tree.proofs.reader.FrameCounts.{counts_more, each_counted, one_until}
use Rattle.raw_tree.proofs.reader.Loops.{document_read, each_read, holds_bytes, value_read, nested_envelope, nested_beside, stand_more}
use Rattle.raw_tree.proofs.reader.Faults.{bars_inside, deep_long, never_too_many}
use Rattle.raw_tree.proofs.walk.First.{some_offset}

-- passed frames

-- a walk goes through s
abbrev HasWalk : List ℕ → Type 0
HasWalk s = (frames : List Frame) × (end : End) × IsWalk s frames end

-- The frames of the bytes b before s were passed. They stand for the pairs, with at most `inside` levels inside, and are n with all frames
-- inside them. The walk continues.
pub record Passed (inside : ℕ) (b s : List ℕ) (pairs : List (List ℕ × Tree)) (n : ℕ) : Type 0 where
  pub frames : List Frame
  pub leads : LeadsTo (drop 4 b) frames s
  pub each : StandForEach (ReadsUpTo inside) frames pairs
  pub counts : CountsFrames (HasFrameCountUpTo inside) frames n
  pub small : 2 * n + length s + 4 ≤ length b
  pub bytes : AreBytes s
  pub walk : HasWalk s

pub none_passed : (inside : ℕ) (b : List ℕ) → IsEnvelope b → Passed inside b (drop 4 b) [] 0
none_passed inside b env = record {
  frames = [];
  leads = refl;
  each = refl;
  counts = refl;
  small = omega (arith, length-drop 4 b, env.enough);
  bytes = AreBytes-drop 4 b env.bytes;
  walk = document_has_walk b env;
}

-- the walk continues after a frame
walk_behind : (s : List ℕ) (f : Frame) (r : List ℕ) → HasWalk s → IsFrame s f r → HasWalk r
walk_behind s f r ([], Done, w) at = absurd (no_frame_at_final s w f r at)
walk_behind s f r ([], Stopped fault key, w) at = absurd (no_frame_at_stop s fault key w f r at)
walk_behind s f r (g ∷ gs, end, w) at = (gs, end, rw (one_frame s g f w.0 r w.1 at).1 at w.2)

-- the outcome of bytes

-- to this depth bytes are read as a tree and n frames are in them; or they have this first barrier, and n frames up to it if it is a fault
abbrev pub IsOutcome : ℕ → Sort → List ℕ → Option Barrier → ℕ → Type 0
IsOutcome depth sort b None n = (t : Tree) × ReadsUpTo depth sort b t × HasFrameCountUpTo depth b n × HasFramesUntilFault b n
IsOutcome depth sort b (Some x) n = FirstFaultWithin depth b x × ((fault : KeyedFault) → x ≡ fault_of fault → HasFramesUntilFault b n)

-- the bytes have an outcome, after at least this many frames
pub record HasOutcome (depth : ℕ) (sort : Sort) (b : List ℕ) (least : ℕ) : Type 0 where
  pub x : Option Barrier
  pub n : ℕ
  pub more : least ≤ n
  pub small : 2 * n + 4 ≤ length b
  pub is : IsOutcome depth sort b x n

-- an outcome after at least m frames is one after at least k, which is less
at_least : {depth : ℕ} {sort : Sort} {b : List ℕ} {m : ℕ} (k : ℕ) → k ≤ m → HasOutcome depth sort b m → HasOutcome depth sort b k
at_least k l h = record { x = h.x; n = h.n; more = omega (arith, l, h.more); small = h.small; is = h.is }

-- the value that holds bytes which are read stands for a tree
pub held_stands : (depth : ℕ) (v : RawValue) (sort : Sort) (d : List ℕ) (t : Tree) → HoldsAs v sort d → ReadsUpTo depth sort d t → (u : Tree) × StandsFor (ReadsUpTo depth) v u
held_stands depth (raw.single l) sort d t h read = absurd h
held_stands depth (raw.document e) sort d t (s, same) read = (t, rw (s, same) at read)
held_stands depth (raw.array e) sort d t (s, same) read = (t, rw (s, same) at read)
held_stands depth (raw.scoped code e) sort d t (s, same) read =
    let whole : ReadsUpTo depth as_document e t = rw (s, same) at read in
    let scope = document_read e t (depth, whole) in
    (code_with_scope code scope.0, (scope.0, rw scope.1 at whole, refl))

held_counts : (N : List ℕ → ℕ → Type 0) (v : RawValue) (d : List ℕ) (n : ℕ) → Holds v d → N d n → HasInside N (value v) n
held_counts N v d n holds count = grind arith

-- a value without nested bytes stands for the same tree to any depth, and no frame is in it
none_inside : (inside : ℕ) (v : RawValue) (t : Tree) → IsSingle v → StandsFor ReadsAs v t → StandsFor (ReadsUpTo inside) v t × HasInside (HasFrameCountUpTo inside) (value v) 0
none_inside inside v t none h = grind arith

-- a value stands for a tree and holds no frames; or it holds nested bytes
single_or_nested : (v : RawValue) → (IsSingle v × ((t : Tree) × StandsFor ReadsAs v t)) ⊎ ((sort : Sort) × (d : List ℕ) × HoldsAs v sort d)
single_or_nested (raw.single l) = inl (tt, (leaf (leaf_in_order l), refl))
single_or_nested (raw.document d) = inr (as_document, d, (refl, refl))
single_or_nested (raw.array d) = inr (as_array, d, (refl, refl))
single_or_nested (raw.scoped code d) = inr (as_document, d, (refl, refl))

-- the value of the frame at the front of s, which r follows
pub record IsAhead (s : List ℕ) (f : Frame) (v : RawValue) (r : List ℕ) : Type 0 where
  pub frame : IsFrame s f r
  pub means : Means f (value v)

-- the value stands for the tree, and m frames are in it; the frame has at least two bytes for each of these and for itself
pub record Stands (inside : ℕ) (s : List ℕ) (v : RawValue) (r : List ℕ) (t : Tree) (m : ℕ) : Type 0 where
  pub tree : StandsFor (ReadsUpTo inside) v t
  pub counts : HasInside (HasFrameCountUpTo inside) (value v) m
  pub small : 2 * m + length r + 2 ≤ length s

-- a value with nested bytes stands for a tree
pub nested_stands : {inside : ℕ} {s : List ℕ} {f : Frame} {v : RawValue} {r : List ℕ} (at : IsAhead s f v r) (sort : Sort) (d : List ℕ) (t : Tree) (m : ℕ) → HoldsAs v sort d
    → StandsFor (ReadsUpTo inside) v t → HasFrameCountUpTo inside d m → 2 * m + 4 ≤ length d → Stands inside s v r t m
nested_stands {inside} {s} {f} {v} {r} at sort d t m holds stands count small = record {
  tree = stands;
  counts = held_counts (HasFrameCountUpTo inside) v d m (holds_bytes v sort d holds) count;
  small = omega (arith, small, nested_beside s f r v d at.frame at.means (holds_bytes v sort d holds));
}

-- a value without nested bytes stands for a tree
pub single_stands : {inside : ℕ} {s : List ℕ} {f : Frame} {v : RawValue} {r : List ℕ} (at : IsAhead s f v r) (t : Tree) → IsSingle v → StandsFor ReadsAs v t → Stands inside s v r t 0
single_stands {inside} {s} {f} {v} {r} at t single stands =
    let none = none_inside inside v t single stands in
    record { tree = none.0; counts = none.1; small = omega (arith, IsFrame-shorter s f r at.frame) }

module _ {inside n : ℕ} {b s : List ℕ} {pairs : List (List ℕ × Tree)} (is : Passed inside b s pairs n) where
  counts_to : (levels m k : ℕ) → CountsFront (HasFramesUntilUpTo levels) s k → m ≡ n + k → HasFramesUntilFault b m
  counts_to levels m k at sum = (suc levels, (is.frames, pairs, s, n, k, is.leads, each_read inside is.frames pairs is.each, each_counted inside is.frames n is.counts, at, sum))

  -- the walk ends, and the bytes are read
  pub ends : (sort : Sort) → s ≡ 0 ∷ [] → ReadsUpTo (suc inside) sort b (tree_of_pairs sort pairs) × HasFrameCountUpTo (suc inside) b n × HasFramesUntilFault b n
  ends sort final =
      let walk = LeadsTo-walk (drop 4 b) is.frames s Done is.leads final in
      ((pairs, (is.frames, walk, is.each), refl), (is.frames, Done, walk, is.counts), counts_to 0 n 0 (over (no_frame_at_final s final) refl) (omega arith))

  -- or the walk fails there
  fails : (key : Option (List ℕ)) (fault : KeyedFault) → FailsAt s key fault → FirstFaultWithin (suc inside) b (fault_of fault)
  fails key fault at = (record { number = length is.frames; key = key } ∷ [], length b - length s, (is.frames, s, is.leads, (pairs, is.each), inl (key, at, refl, omega (arith, is.small))))

  pub stops : (sort : Sort) (fault : KeyedFault) → IsStop s fault.fault fault.key → IsOutcome (suc inside) sort b (Some (fault_of fault)) n
  stops sort fault at = (fails None fault at, λ g e. counts_to 0 n 0 (over (no_frame_at_stop s fault.fault fault.key at) refl) (omega arith))

  pub means_fault : (sort : Sort) (fault : KeyedFault) (f : Frame) (r : List ℕ) → IsFrame s f r → Means f (faulty fault) → IsOutcome (suc inside) sort b (Some (fault_of fault)) (n + 1)
  means_fault sort fault f r at m = (fails (Some f.key) fault (f, r, at, m, refl), λ g e. counts_to 0 (n + 1) 1 (at_fault f r (faulty fault) fault 0 at m (inl m) refl refl) refl)

  module _ {f : Frame} {v : RawValue} {r : List ℕ} (at : IsAhead s f v r) where
    -- or the nested bytes of a frame have a barrier
    pub barred_inside : (sort of : Sort) (d : List ℕ) (x : Barrier) (m : ℕ) → Holds v d → IsOutcome inside of d (Some x) m → IsOutcome (suc inside) sort b (Some x) (n + 1 + m)
    barred_inside sort of d x m holds ((path, within, bars), until) =
        let beside = nested_beside s f r v d at.frame at.means holds in
        let (offset, there) = some_offset b s d r path within (omega (arith, is.small)) (omega (arith, beside)) in
        let to = λ (fault : KeyedFault) (e : x ≡ fault_of fault).
        counts_to (until fault e).0 (n + 1 + m) (1 + m) (at_fault f r (value v) fault m at.frame at.means (inr (v, at.means, (d, holds, (inside, path, within, rw e at bars))))
        (held_counts (HasFramesUntilUpTo (until fault e).0) v d m holds (until fault e).1) refl) (omega arith) in
        let front = bars_inside inside b is.frames v d x path within offset (at.frame, at.means, holds) bars there in
        ((record { number = length is.frames; key = Some f.key } ∷ path, offset, (is.frames, s, is.leads, (pairs, is.each), front)), to)

    -- or the frame is passed
    pub passed_more : (t : Tree) (m : ℕ) → Stands inside s v r t m → Passed inside b r (pairs ++ (f.key, t) ∷ []) (n + 1 + m)
    passed_more t m stands =
        record {
          frames = is.frames ++ f ∷ [];
          leads = LeadsTo-more (drop 4 b) is.frames s f r is.leads at.frame;
          each = stand_more (ReadsUpTo inside) is.frames pairs f v t is.each at.means stands.tree;
          counts = counts_more (HasFrameCountUpTo inside) is.frames n f (value v) m is.counts at.means stands.counts;
          small = omega (arith, is.small, stands.small);
          bytes = AreBytes-rest s f r at.frame is.bytes;
          walk = walk_behind s f r is.walk at.frame;
        }

    -- if the nested bytes have an outcome, so have these: what follows the frame is looked at if the frame is passed
    pub comes_inside : (sort of : Sort) (d : List ℕ) (m : ℕ) → HoldsAs v of d → HasOutcome inside of d m
        → ((more : List (List ℕ × Tree)) (k : ℕ) → Passed inside b r more k → HasOutcome (suc inside) sort b k) → HasOutcome (suc inside) sort b (n + 1 + m)
    comes_inside sort of d m holds h on = from h.x h.is
      where
        shorter : length d + length r + 2 ≤ length s
        shorter = nested_beside s f r v d at.frame at.means (holds_bytes v of d holds)

        from : (x : Option Barrier) → IsOutcome inside of d x h.n → HasOutcome (suc inside) sort b (n + 1 + m)
        from None (t, read, count, whole) =
            let (u, stands) = held_stands inside v of d t holds read in
            at_least (n + 1 + m) (omega (arith, h.more)) (on _ _ (passed_more u h.n (nested_stands at of d u h.n holds stands count h.small)))
        from (Some x) bars =
            let out = barred_inside sort of d x h.n (holds_bytes v of d holds) bars in
            record { x = Some x; n = n + 1 + h.n; more = omega (arith, h.more); small = omega (arith, is.small, h.small, shorter); is = out }

-- all bytes with an envelope have an outcome
abbrev AllComeTo : ℕ → Type 0
AllComeTo depth = (sort : Sort) (d : List ℕ) → IsEnvelope d → HasOutcome depth sort d 0

module _ (inside : ℕ) (nested : AllComeTo inside) (sort : Sort) where
  -- a frame is at the front
  behind_frame : {b s : List ℕ} {pairs : List (List ℕ × Tree)} {n : ℕ} (is : Passed inside b s pairs n) (f : Frame) (r : List ℕ) → IsFrame s f r
      → ((more : List (List ℕ × Tree)) (k : ℕ) → Passed inside b r more k → HasOutcome (suc inside) sort b k) → HasOutcome (suc inside) sort b (n + 1)
  behind_frame {b = b} {s = s} {n = n} is f r at on = from (has_meaning f r s is.bytes at)
    where
      from : (m : Meaning) × Means f m → HasOutcome (suc inside) sort b (n + 1)
      from (faulty fault, means) =
          record { x = Some (fault_of fault); n = n + 1; more = omega arith; small = omega (arith, is.small, IsFrame-shorter s f r at); is = means_fault is sort fault f r at means }
      from (value v, means) =
          let ahead : IsAhead s f v r = record { frame = at; means = means } in
          elim (single_or_nested v) [
            | inl one ↦ at_least (n + 1) (omega arith) (on _ _ (passed_more is ahead one.1.0 0 (single_stands ahead one.1.0 one.0 one.1.1)))
            | inr more ↦ (
                let env = nested_envelope s f r v more.1 at means (holds_bytes v more.0 more.1 more.2) in
                at_least (n + 1) (omega arith) (comes_inside is ahead sort more.0 more.1 0 more.2 (nested more.0 more.1 env) on))
          ]

  -- along a walk
  along : (others : List Frame) (end : End) {b s : List ℕ} {pairs : List (List ℕ × Tree)} {n : ℕ} (is : Passed inside b s pairs n) → IsWalk s others end → HasOutcome (suc inside) sort b n
  along [] Done {pairs = pairs} {n = n} is w =
      let (read, counts, until) = ends is sort w in
      record { x = None; n = n; more = omega arith; small = omega (arith, is.small); is = (tree_of_pairs sort pairs, read, counts, until) }
  along [] (Stopped fault key) {n = n} is w =
      let bad : KeyedFault = record { fault = fault; key = key } in
      record { x = Some (fault_of bad); n = n; more = omega arith; small = omega (arith, is.small); is = stops is sort bad w }
  along (f ∷ others) end {n = n} is w = at_least n (omega arith) (behind_frame is f w.0 w.1 (λ more k on. along others end on w.2))

come_to : (depth : ℕ) → AllComeTo depth
come_to zero sort b env = record { x = Some too_deep; n = 0; more = omega arith; small = omega (arith, env.enough); is = (([], 0, (refl, refl, refl)), λ fault e. cc) }
come_to (suc depth) sort b env =
    let none = none_passed depth b env in
    along depth (come_to depth) sort none.walk.0 none.walk.1 none none.walk.2

-- after passed frames and one more frame, too
module _ (sort : Sort) {inside n : ℕ} {b s : List ℕ} {pairs : List (List ℕ × Tree)} (is : Passed inside b s pairs n) where
  pub outcome_from : HasOutcome (suc inside) sort b n
  outcome_from = along inside (come_to inside) sort is.walk.0 is.walk.1 is is.walk.2

  pub outcome_behind : (f : Frame) (r : List ℕ) → IsFrame s f r → HasOutcome (suc inside) sort b (n + 1)
  outcome_behind f r at = behind_frame inside (come_to inside) sort is f r at (λ more k on. along inside (come_to inside) sort on.walk.0 on.walk.1 on on.walk.2)

-- what follows from an outcome

-- a level is too deep, or this is the number of frames up to the first fault
pub outcome_until : (depth : ℕ) (sort : Sort) (b : List ℕ) (x : Option Barrier) (n : ℕ) → IsOutcome depth sort b x n → FirstFaultWithin depth b too_deep ⊎ HasFramesUntilFault b n
outcome_until depth sort b None n (t, read, count, until) = inr until
outcome_until depth sort b (Some (fault_of fault)) n h = inr (h.1 fault refl)
outcome_until depth sort b (Some too_deep) n h = inl h.0
outcome_until depth sort b (Some too_many_bytes) n h = absurd (never_too_many depth b h.0)

pub decided_within : (depth : ℕ) (sort : Sort) (b : List ℕ) → IsEnvelope b → ((t : Tree) × ReadsUpTo depth sort b t) ⊎ ((x : Barrier) × FirstFaultWithin depth b x)
decided_within depth sort b env = let h = come_to depth sort b env in from h.x h.n h.is
  where
    from : (x : Option Barrier) (n : ℕ) → IsOutcome depth sort b x n → ((t : Tree) × ReadsUpTo depth sort b t) ⊎ ((x : Barrier) × FirstFaultWithin depth b x)
    from None n (t, read, counts, until) = inl (t, read)
    from (Some x) n (bars, until) = inr (x, bars)

-- no level is deeper than the number of bytes
fault_found : (n : ℕ) (b : List ℕ) (x : Barrier) → length b < n → FirstFaultWithin n b x → (fault : KeyedFault) × FirstFault b fault
fault_found n b (fault_of fault) more h = (fault, (n, h.0, h.1, h.2))
fault_found n b too_deep more h = absurd (omega (arith, more, deep_long n b h))
fault_found n b too_many_bytes more h = absurd (never_too_many n b h)

pub decided : (sort : Sort) (b : List ℕ) → IsEnvelope b → ((t : Tree) × ReadsAs sort b t) ⊎ ((fault : KeyedFault) × FirstFault b fault)
decided sort b env =
    elim (decided_within (suc (length b)) sort b env) [
      | inl t ↦ inl (t.0, (suc (length b), t.1))
      | inr bad ↦ inr (fault_found (suc (length b)) b bad.0 (omega arith) bad.1)
    ]

pub counted : (b : List ℕ) → IsEnvelope b → (n : ℕ) × (2 * n + 4 ≤ length b) × HasFramesUntilFault b n
counted b env =
    let h = come_to (suc (length b)) as_document b env in
    elim (outcome_until (suc (length b)) as_document b h.x h.n h.is) [
      | inl deep ↦ absurd (omega (arith, deep_long (suc (length b)) b deep))
      | inr until ↦ (h.n, h.small, until)
    ]

pub until_small : (b : List ℕ) (n : ℕ) → IsEnvelope b → HasFramesUntilFault b n → 2 * n + 4 ≤ length b
until_small b n env h = let c = counted b env in omega (arith, one_until b n c.0 h c.2, c.1)

-- a value stands for a tree or has a first fault, if its nested bytes have an envelope
pub value_decided : (v : RawValue) → ((d : List ℕ) → Holds v d → IsEnvelope d) → ((t : Tree) × StandsFor ReadsAs v t) ⊎ ((fault : KeyedFault) × FirstFaultOfValue v fault)
value_decided v env =
    elim (single_or_nested v) [
      | inl one ↦ inl one.1
      | inr more ↦ (
          let holds = holds_bytes v more.0 more.1 more.2 in
          elim (decided more.0 more.1 (env more.1 holds)) [
            | inl t ↦ (let u = held_stands t.1.0 v more.0 more.1 t.0 more.2 t.1.1 in inl (u.0, value_read t.1.0 v u.0 u.1))
            | inr bad ↦ inr (bad.0, (more.1, holds, bad.1))
          ])
    ]
