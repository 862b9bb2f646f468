-- The steps of a loop over levels: an element is put, or its level waits for it; a level that was read goes to the one that waits; a fault,
-- out of memory or the end is returned; and less remains.
use Rattle.std.proofs.Common.{◌≡◌, inl, inr, ◌<◌, ◌≤◌, ◌+◌, ◌-◌, ◌/◌, take, length-take, ◌++◌, ◌∷◌, [], ℕ, suc, List, Option, None, Some, Result, Ok, Err, IfOk, IfErr, length, drop, arith, ap, refl, ◌∙◌, subst, length-drop, length-append, sum_by, reverse, Bor}
use Rattle.std.proofs.lemmas.List.{length-reverse, reverse-append}
use Rattle.raw_tree.proofs.Common.{sum_by_push, Tree, tree_of, Bson, IsEnvelope, bytes_of, frame_of, IsOutOfMemory, Frame, RawValue, BorrowedError, Barrier, max_length, value_of}
use Rattle.raw_tree.proofs.Common.{RawBsonRef, RawElement, Error, HasFrameCount, TellsFrames, sort_of, held_value, holding, tree_of_contents, IsOneMore, IsUnread, IsSingle, Finishes, DraftsTree, PutsLevel, PutsValue}
use Rattle.raw_tree.proofs.Common.{TellsReading, fault_of, too_deep, SaysBarrier, Sort, tree_of_pairs, StandsFor, ReadsUpTo, Contents, Holder, Level, Nested, Waiting, left_of}
use Rattle.raw_tree.proofs.walk.Common.{Finds, frames_in, option_copied}
use Rattle.raw_view.specs.Errors.{HasKeyCopy}
use Rattle.raw_view.proofs.Face.{IsFrame-shorter, told_fault}
use Rattle.raw_tree.specs.declared.walk.level.Next.TheVariants as seen
use Rattle.raw_tree.proofs.reader.Decides.{Stands, ends, means_fault, nested_stands, none_passed, outcome_behind, outcome_from, outcome_until, passed_more, single_stands, stops, until_small}
use Rattle.raw_tree.proofs.reader.Stacks.{AreWaiting, Front, IsTold, drafted_none, held_as, held_holds, IsReading, IsWaiting, told_inside, told_outward, with_left}
use Rattle.raw_tree.proofs.reader.Loops.{nested_beside}

-- a level

level_begins : (inside n : ℕ) (u : Nested) (level : Level) → IsUnread u level → IsReading inside (u, n) level n
level_begins inside n u level is = record {
  pairs = [];
  rest = drop 4 (bytes_of u.document);
  here = 0;
  left = is.0;
  passed = none_passed inside (bytes_of u.document) u.document.envelope;
  drafted = drafted_none level.holder level.draft is.2 is.3;
  held = is.1;
  total = omega arith;
}

-- after the final 0, the value that is made of a level is the one that holds its bytes, within as many levels
level_stands : {inside n : ℕ} {i : Nested × ℕ} {level : Level} (is : IsReading inside i level n) → is.rest ≡ 0 ∷ [] → (t : Bson) → DraftsTree level.holder level.draft t
    → StandsFor (ReadsUpTo (suc inside)) (held_value i.0) (tree_of t)
level_stands {inside} {i = i} is end t drafts =
    let b = bytes_of i.0.document in
    let read = (ends is.passed (sort_of i.0.holder) end).0 in
    subst (λ (h : Holder). StandsFor (ReadsUpTo (suc inside)) (holding h b) (tree_of t)) is.held (drafts is.pairs (suc inside) b is.drafted (rw is.held read))

-- and the outermost level is the result
level_finished : {inside n : ℕ} {u : Nested} {level : Level} (is : IsReading inside (u, 0) level n) → is.rest ≡ 0 ∷ [] → (c : Contents) → Finishes level.holder level.draft c
    → TellsReading (suc inside) u (Ok c) n
level_finished {inside} {n} {u} is end c fin =
    let b = bytes_of u.document in
    let sort = sort_of u.holder in
    let (read, counts, until) = ends is.passed sort end in
    let tree : tree_of_contents c ≡ tree_of_pairs sort is.pairs = fin.1 is.pairs is.drafted ∙ ap (λ x. tree_of_pairs (sort_of x) is.pairs) is.held in
    let all : n ≡ is.here = omega (arith, is.total) in
    let count : HasFrameCount b n = rw all (suc inside, counts) in
    ((fin.0 ∙ is.held, rw tree read), tt, inr (rw all until, count))

-- a level that continues with the value at the front, which stands for a tree
level_put : {inside n all : ℕ} {i : Nested × ℕ} {left : Option (List ℕ)} (level on : Level) {f : Frame} (is : IsReading inside i (with_left level left) n) (v : RawValue) (t : Tree) (m : ℕ)
    (front : Front is.rest f v level.elements) → Stands inside is.rest v front.0 t m → IsOneMore level f.key t on → all ≡ n + 1 + m → IsReading inside i on all
level_put level on {f = f} is v t m front stands more grown = record {
  pairs = is.pairs ++ (f.key, t) ∷ [];
  rest = front.0;
  here = is.here + 1 + m;
  left = more.0 ∙ front.2;
  passed = passed_more is.passed front.1 t m stands;
  drafted = rw more.1 (more.2 is.pairs is.drafted);
  held = more.1 ∙ is.held;
  total = omega (arith, grown, is.total);
}

-- what a look says of a value at the front of the rest of a level
module _ {s : List ℕ} {old : Option (List ℕ)} (left : old ≡ Some s) (new : Option (List ℕ)) (e : RawElement) where
  pub front_whole : (v : RawBsonRef) → Finds old new (seen.Whole e v) → Front s (frame_of e) (value_of v) new × IsSingle (value_of v)
  front_whole v looked = let at = rw left at looked in ((at.0, record { frame = at.1; means = at.2 }, at.4), at.3)

  pub front_inside : (v : Nested) → Finds old new (seen.Inside e v) → Front s (frame_of e) (held_value v) new
  front_inside v looked = let at = rw left at looked in (at.0, record { frame = at.1; means = at.2 }, at.3)

-- the levels

-- The state of the loop. It reads the nested bytes u to a depth; some levels wait, and the innermost one is read. They have passed n
-- frames.
pub record AreReading (depth : ℕ) (u : Nested) (ws : List Waiting) (level : Level) (n : ℕ) : Type 0 where
  pub inside : ℕ
  pub inner : Nested × ℕ
  pub waiting : AreWaiting inside (u, 0) (reverse ws) inner
  pub reading : IsReading inside inner level n
  pub levels : suc (length ws + inside) ≡ depth

pub levels_begin : {depth less : ℕ} {u : Nested} {ws : List Waiting} {level : Level} → suc less ≡ depth → ws ≡ [] → IsUnread u level → AreReading depth u ws level 0
levels_begin {less = less} {u = u} {level = level} d none unread =
    record { inside = less; inner = (u, 0); waiting = rw none refl; reading = level_begins less 0 u level unread; levels = omega (arith, ap length none, d) }

module _ (depth : ℕ) (u : Nested) {n : ℕ} (e : Error) where
  -- memory runs out after n frames
  memory_told : IsOutOfMemory e → IsTold None n depth (u, 0) → TellsReading depth u (Err e) n
  memory_told memory (m, same, h) =
      elim (outcome_until depth (sort_of u.holder) (bytes_of u.document) h.x h.n h.is) [
        | inl deep ↦ (tt, inl memory, inl deep)
        | inr until ↦ (tt, inl memory, inr (h.n, until, omega (arith, same, h.more), inl memory))
      ]

  -- or the first barrier comes after them
  barrier_told : (x : Barrier) → SaysBarrier e x → IsTold (Some x) n depth (u, 0) → TellsReading depth u (Err e) n
  barrier_told x says (m, same, h) =
      elim (outcome_until depth (sort_of u.holder) (bytes_of u.document) (Some x) m h) [
        | inl deep ↦ (tt, inr (x, h.0, says), inl deep)
        | inr until ↦ (tt, inr (x, h.0, says), inr (m, until, omega (arith, same), inr (omega (arith, same))))
      ]

module _ {depth n : ℕ} {u : Nested} {ws : List Waiting} {level : Level} (are : AreReading depth u ws level n) where
  -- what holds of the innermost level holds of the outermost
  told : (x : Option Barrier) (all : ℕ) → IsTold x all (suc are.inside) are.inner → IsTold x all depth (u, 0)
  told x all h = told_outward x all are.inside depth (u, 0) (reverse ws) are.inner (omega (arith, length-reverse ws, are.levels)) are.waiting h

  abbrev sort : Sort
  sort = sort_of are.inner.0.holder

  passed_told : IsTold None n depth (u, 0)
  passed_told = told None n (are.reading.here, are.reading.total, outcome_from sort are.reading.passed)

  -- the frames that were read are at most half of the bytes, so one more can be counted
  pub few_frames : n < max_length
  few_frames = let h = passed_told in omega (arith, h.1, h.2.more, h.2.small, u.document.envelope.header.fits)

  -- memory runs out
  pub ran_out : (e : Error) → IsOutOfMemory e → TellsReading depth u (Err e) n
  ran_out e memory = memory_told depth u e memory passed_told

  -- a look finds a stop, or the fault that an element means
  module _ (new : Option (List ℕ)) (e : BorrowedError) (answer : Error) (copy : HasKeyCopy e.kind (option_copied e.key) answer) where
    pub failed : (key : Option (Bor (List ℕ))) → Finds level.elements new (seen.Fault key e) → TellsReading depth u (Err answer) (n + frames_in (seen.Fault key e))
    failed None sees =
        let (fault, at, says) = rw are.reading.left at sees in
        barrier_told depth u answer (fault_of fault) (told_fault e fault answer says copy)
        (told (Some (fault_of fault)) (n + 0) (are.reading.here, omega (arith, are.reading.total), stops are.reading.passed sort fault at))
    failed (Some key) sees =
        let (fault, f, says) = rw are.reading.left at sees in
        barrier_told depth u answer (fault_of fault) (told_fault e fault answer says copy)
        (told (Some (fault_of fault)) (n + 1) (are.reading.here + 1, omega (arith, are.reading.total), means_fault are.reading.passed sort fault f.0 f.1 f.2 f.3))

  -- no element is left
  module _ (new : Option (List ℕ)) (sees : Finds level.elements new (seen.End)) where
    at_end : are.reading.rest ≡ 0 ∷ []
    at_end = rw are.reading.left at sees

    -- the outermost level ends
    pub finished : (result : Result Contents Error) → ws ≡ [] → IfOk result (Finishes level.holder level.draft) → IfErr result IsOutOfMemory → TellsReading depth u result n
    finished (Err e) none fin memory = ran_out e memory
    finished (Ok c) none fin memory =
        let same : (u, 0) ≡ are.inner = rw none at are.waiting in
        let is : IsReading are.inside (u, 0) level n = rw same are.reading in
        let levels : suc are.inside ≡ depth = omega (arith, are.levels, ap length none) in
        rw (← levels) (level_finished is (rw is.left at sees) c fin)

    -- or an inner level ends, and the level that waits for it continues
    pub popped : {less : List Waiting} (w on : Waiting) → ws ≡ less ++ w ∷ [] → PutsLevel level w on → AreReading depth u less on.level n
    popped {less} w on e (t, drafts, more) =
        let (outer, waits, linked) = rw (e, reverse-append less (w ∷ [])) at are.waiting in
        let holder = are.inner.0.holder in
        let d = bytes_of are.inner.0.document in
        let is = are.reading in
        let stands = nested_stands waits.front.1 sort d (tree_of t) is.here (held_as holder d) (level_stands is at_end t drafts) (ends is.passed sort at_end).1 (omega (arith, is.passed.small)) in
        record {
          inside = suc are.inside;
          inner = outer;
          waiting = linked;
          reading = level_put w.level on.level waits.reading (held_value are.inner.0) (tree_of t) is.here waits.front stands (rw waits.key_is at more) (omega (arith, is.total, waits.total));
          levels = omega (arith, are.levels, ap length e, length-append less (w ∷ []));
        }

  -- a value is at the front
  module _ {f : Frame} {new : Option (List ℕ)} (v : RawValue) (front : Front are.reading.rest f v new) where
    -- memory runs out
    pub ran_out_behind : (e : Error) → IsOutOfMemory e → TellsReading depth u (Err e) (n + 1)
    ran_out_behind e memory =
        memory_told depth u e memory (told None (n + 1) (are.reading.here + 1, omega (arith, are.reading.total), outcome_behind sort are.reading.passed f front.0 front.1.frame))

    -- the value holds no nested bytes, and is appended
    pub put_whole : (on : Level) → IsSingle v → PutsValue v (with_left level new) f.key on → AreReading depth u ws on (n + 1)
    put_whole on single (t, stands, more) =
        let put = level_put {left = level.elements} (with_left level new) on are.reading v t 0 front (single_stands front.1 t single stands) more (omega arith) in
        record { inside = are.inside; inner = are.inner; waiting = are.waiting; reading = put; levels = are.levels }

  -- nested bytes are at the front
  module _ {f : Frame} {new : Option (List ℕ)} (v : Nested) (front : Front are.reading.rest f (held_value v) new) where
    -- and as many levels wait as are allowed
    pub too_deep_inside : (e : Error) → depth ≤ suc (length ws) → SaysBarrier e too_deep → TellsReading depth u (Err e) (n + 1)
    too_deep_inside e many says =
        let none : are.inside ≡ 0 = omega (arith, many, are.levels) in
        let entered : IsTold (Some too_deep) (n + 1) are.inside (v, n + 1) = rw none (0, omega arith, (([], 0, (refl, refl, refl)), λ fault e. cc)) in
        barrier_told depth u e too_deep says (told (Some too_deep) (n + 1) (told_inside are.reading (v, n + 1) front refl (Some too_deep) (n + 1) entered))

    -- or they are the next level, and this one waits for them
    pub went_in : {more : List Waiting} {inner : Level} (key : Bor (List ℕ)) → key.now ≡ f.key → suc (length ws) < depth → more ≡ ws ++ record { level = with_left level new; key = key } ∷ []
        → IsUnread v inner → AreReading depth u more inner (n + 1)
    went_in {inner = inner} key k few e unread =
        let less : ℕ = are.inside - 1 in
        let one : are.inside ≡ suc less = omega (arith, few, are.levels) in
        let w : Waiting = record { level = with_left level new; key = key } in
        let waits : IsWaiting are.inside are.inner w (v, n + 1) = record { left = level.elements; n = n; reading = are.reading; frame = f; front = front; key_is = k; total = refl } in
        record {
          inside = less;
          inner = (v, n + 1);
          waiting = rw (e, reverse-append ws (w ∷ [])) (are.inner, rw one at waits, rw one at are.waiting);
          reading = level_begins less (n + 1) v inner unread;
          levels = omega (arith, one, are.levels, ap length e, length-append ws (w ∷ []));
        }

pub tells_half : {X : Type 0} (b : List ℕ) (result : Result X Error) (n : ℕ) → IsEnvelope b → TellsFrames b result n → n ≤ (length b - 4) / 2
tells_half b (Ok x) n env h = omega (arith, until_small b n env h.0)
tells_half b (Err e) n env h = omega (arith, until_small b h.0 env h.1, h.2)

-- if nothing is popped, nothing waits
pub no_more : (n : ℕ) (old new : List Waiting) → length old ≡ n → old ≡ new ++ [] → new ≡ take (n - 1) old → old ≡ []
no_more n [] new l e f = refl
no_more n (w ∷ ws) new l e f = absurd (omega (arith, l, ap length e, ap length f, length-append new [], length-take (n - 1) (w ∷ ws)))

-- what is left

-- what is left in the waiting levels, and the number of these levels
abbrev pub left_in : List Waiting → ℕ
left_in ws = sum_by (λ w. left_of w.level.elements + 1) ws

-- an element takes some bytes
pub step_smaller : {s : List ℕ} {f : Frame} (v : RawValue) (old new : Option (List ℕ)) (n : ℕ) → old ≡ Some s → Front s f v new → left_of new + n < left_of old + n
step_smaller {s} {f} v old new n left front = rw (left, front.2) (omega (arith, IsFrame-shorter s f front.0 front.1.frame))

-- it takes more than its nested bytes, so less remains when its level begins to wait
pub inward_smaller : {s : List ℕ} {f : Frame} (old inner : Level) (ws more : List Waiting) (w : Waiting) (v : Nested) → old.elements ≡ Some s → Front s f (held_value v) w.level.elements
    → more ≡ ws ++ w ∷ [] → IsUnread v inner → left_of inner.elements + left_in more < left_of old.elements + left_in ws
inward_smaller {s} {f} old inner ws more w v left front e unread =
    let d = bytes_of v.document in
    let push = sum_by_push (λ (x : Waiting). left_of x.level.elements + 1) ws w in
    let beside = nested_beside s f front.0 (held_value v) d front.1.frame front.1.means (held_holds v.holder d) in
    rw (unread.0, e, left) (omega (arith, push, ap left_of front.2, length-drop 4 d, beside))

-- less remains when a waiting level continues
pub outward_smaller : (n : ℕ) (ws less : List Waiting) (w : Waiting) → ws ≡ less ++ w ∷ [] → left_of w.level.elements + left_in less < n + left_in ws
outward_smaller n ws less w e =
    rw e (omega (arith, sum_by_push (λ (x : Waiting). left_of x.level.elements + 1) less w))
