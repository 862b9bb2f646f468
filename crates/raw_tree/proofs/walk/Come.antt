-- A walk that has come to some visits comes to one more, or to its end, or to a barrier.
use Rattle.std.proofs.Common.{◌≡◌, ◌≤◌, ◌<◌, ◌+◌, ◌-◌, ◌++◌, ◌∷◌, [], inl, ℕ, suc, List, Bor, Option, Some, length, drop, arith, ap, refl, sym, append-nil, length-append}
use Rattle.raw_tree.proofs.Common.{BorrowedError, FirstFaultAt, Frame, Holds, IsSingle, LeadsTo, Nested, RawBsonRef, RawElement, ReadsUpTo, Tree, as_document, barriers, bytes_of, fault_of, frame_of, held_value, too_deep, value_of}
use Rattle.raw_tree.proofs.walk.Common.{BeginsAt, ComesTo, Enters, GoesOn, HasCome, HasLooked, HasSeen, HasVisits, BarrierKind, IsBarrier, IsAt, IsBarrierAt, IsEntered, IsTooDeep, IsWithin, Leaves, Level, RawDocument, Span, Step}
use Rattle.raw_tree.proofs.walk.Common.{StoreSteps, TellsError, Visit, Waiting, Walk, WalkError, enter, leave, level_behind, option_copied, size_of, stored_level, whole, whole_span, with_left}
use Rattle.raw_tree.specs.reader.WithinLimits as within
use Rattle.raw_tree.specs.declared.walk.level.Next.{Next}
use Rattle.raw_tree.specs.declared.walk.level.Next.TheVariants as look
use Rattle.raw_tree.specs.declared.walk.barrier.BarrierKind.TheVariants as kind
use Rattle.raw_tree.specs.declared.walk.WalkError.TheVariants as error
use Rattle.raw_tree.specs.walk.Walks.{EndsWithin, IsThere}
use Rattle.raw_tree.proofs.reader.Stacks.{held_holds}
use Rattle.raw_tree.proofs.walk.First.{IsFront}
use Rattle.raw_tree.proofs.reader.Faults.{bars_inside}
use Rattle.raw_tree.proofs.walk.Levels.{IsNext, IsOutward, at_goes_on, at_inside, at_outside, at_path, at_resumed, at_steps, at_whole, at_within, front_outward, inside_fits, next_ends, next_within, none_inside, resumed_further}
use Rattle.raw_tree.proofs.walk.Visits.{frames_stand, seen_front, seen_outside, seen_single, seen_there, seen_whole, visits_read}

-- barriers in a level whose frames have visits

-- where the first barrier of a level is
abbrev BarsLevel : within.Barrier → ℕ → Span (List Visit) → List Step → ℕ → Type 0
BarsLevel x n i path offset = FirstFaultAt n i.bytes x path offset

front_bars : {seen : List Visit} {n : ℕ} {i : Span (List Visit)} {frames : List Frame} {s : List ℕ} (x : within.Barrier) (path : List Step) (offset : ℕ) → HasSeen seen n i frames
    → LeadsTo (drop 4 i.bytes) frames s → IsFront barriers n as_document frames i.bytes s x path offset → BarsLevel x (suc n) i path offset
front_bars {n = n} {i = i} {frames = frames} {s = s} x path offset is l bars = (frames, s, l, frames_stand n (i.start + 4) frames is.visits is.each, bars)

bars_outward : (b : List ℕ) (x : within.Barrier) → IsOutward IsEntered b (BarsLevel x)
bars_outward b x = record {
  out = λ n w i is first steps at place bars there.
      front_bars x (record { number = length w.frames; key = Some w.f.key } ∷ first ∷ steps) place is.knows.seen is.reaches
      (bars_inside n w.level.bytes w.frames w.v i.bytes x (first ∷ steps) at place (is.frame, is.means, is.holds) bars there);
}

-- a barrier with its place is the first of the document
told_at : (most : ℕ) (b : List ℕ) (path : List Step) (step : Step) (offset : ℕ) (k : BarrierKind) (x : within.Barrier) → IsBarrier k x → FirstFaultAt (suc most) b x (path ++ step ∷ []) offset
    → (e : WalkError) → IsBarrierAt path step offset k e → TellsError most b e × IsThere offset e
told_at most b path step offset k x is bars (error.Barrier answer) (kind_is, steps_is, offset_is) = ((x, rw kind_is is, rw (steps_is, offset_is) bars), offset_is)
told_at most b path step offset k x is bars error.OutOfMemory at = (tt, tt)

deep_told : (most : ℕ) (b : List ℕ) (walk : Walk) (from : Level) (path : List Step) (e : RawElement)
    → (walk.most_waiting ≤ length walk.waiting.items → FirstFaultAt (suc most) b too_deep (path ++ record { number = from.number; key = Some (frame_of e).key } ∷ []) from.offset)
    → (answer : WalkError) → IsTooDeep walk from path e answer → TellsError most b answer × IsThere from.offset answer
deep_told most b walk from path e bars (error.Barrier answer) (full, at) = told_at most b path _ from.offset kind.TooDeep too_deep refl (bars full) (error.Barrier answer) at
deep_told most b walk from path e bars error.OutOfMemory at = (tt, tt)

-- the walk is within the document, and no more levels wait than are allowed
pub come_within : {document : RawDocument} {most : ℕ} {walk : Walk} {level : Level} {seen : List Visit} → HasCome document most walk level seen
    → (level.offset ≤ length (bytes_of document)) × (length walk.waiting.items ≤ most)
come_within is = (omega (arith, (at_within is.at).0), (at_within is.at).1)

module _ {document : RawDocument} {most : ℕ} {walk : Walk} {level : Level} {seen : List Visit} (is : HasCome document most walk level seen) where
  -- the visits so far are the first of all visits
  pub come_front : (vs : List Visit) → HasVisits (suc most) 0 (bytes_of document) vs → (rest : List Visit) × (vs ≡ seen ++ rest)
  come_front vs has =
      let l = is.at.levels in
      seen_front (whole_span [] document) seen l.inside (suc most) l.waits l.here (omega (arith, l.many)) l.held
      (λ us own. let (rest, behind, same) = seen_there is.at.rest us is.at.knows is.at.reaches own in (rest, same)) vs has

  -- the walk is nearer to the document's end
  pub comes_nearer : {new : Walk} {to : Level} (x : Visit) → ComesTo document most level seen new to x → length (bytes_of document) - to.offset < length (bytes_of document) - level.offset
  comes_nearer x come = omega (arith, come.further, come.within)

  -- one more visit
  comes_to : {new : Walk} {to : Level} (x : Visit) → HasCome document most new to (seen ++ x ∷ []) → level.offset < to.offset → EndsWithin (bytes_of document) x
      → ComesTo document most level seen new to x
  comes_to x come further ends = record { come = come; further = further; within = (come_within come).0; ends = ends }

  -- a barrier at the front of the rest of the level is the first of the document
  front_told : (x : within.Barrier) (key : Option (List ℕ))
      → ((here : ℕ) → BeginsAt is.at.levels.here.bytes is.at.rest here → IsFront barriers is.at.levels.inside as_document is.at.frames is.at.levels.here.bytes is.at.rest x
      (record { number = length is.at.frames; key = key } ∷ []) here)
      → FirstFaultAt (suc most) (bytes_of document) x (at_path is.at ++ record { number = level.number; key = key } ∷ []) level.offset
  front_told x key front =
      let step : Step = record { number = length is.at.frames; key = key } in
      rw (is.at.number_is) (front_outward is.at (bars_outward (bytes_of document) x) step (λ here begins. front_bars x _ here is.at.knows is.at.reaches (front here begins)))

  -- what a look at the level found
  module _ {new : Option (List ℕ)} {x : Next} (looked : HasLooked level.elements new x) where
    module _ (e : RawElement) (v : RawBsonRef) (x_is : x ≡ look.Whole e v) where
      whole_next : IsNext is.at.rest e (value_of v) new × IsSingle (value_of v)
      whole_next =
          let (r, frame, means, single, new_is) = rw (x_is, is.at.left_is) at looked.finds in
          (record { r = r; frame = frame; means = means; new_is = new_is }, single)

      pub whole_within : IsWithin walk (with_left new level) e
      whole_within = next_within is.at whole_next.0

      -- an element is passed
      pub comes_whole : {to : Level} → to ≡ level_behind (with_left new level) e
          → ComesTo document most level seen walk to (whole level.offset (frame_of e) (value_of v)) × IsSingle (value_of v) × (to.number ≡ level.number + 1)
      comes_whole to_is =
          let (next, single) = whole_next in
          let seen = seen_single is.at.knows (frame_of e) (value_of v) next.means single is.at.offset_is in
          let come = comes_to _ (record { at = at_whole is.at next to_is seen }) (omega (arith, ap (λ (l : Level). l.offset) to_is)) (next_ends is.at next) in
          (come, single, ap (λ (l : Level). l.number) to_is)

    module _ (e : RawElement) (inner : Nested) (x_is : x ≡ look.Inside e inner) where
      inside_next : IsNext is.at.rest e (held_value inner) new
      inside_next =
          let (r, frame, means, new_is) = rw (x_is, is.at.left_is) at looked.finds in
          record { r = r; frame = frame; means = means; new_is = new_is }

      inside_holds : Holds (held_value inner) (bytes_of inner.document)
      inside_holds = held_holds inner.holder (bytes_of inner.document)

      pub inside_within : IsWithin walk (with_left new level) e × (length (bytes_of inner.document) ≤ size_of (frame_of e))
      inside_within = (next_within is.at inside_next, inside_fits is.at inside_next inner.document inside_holds)

      -- a level is entered
      pub comes_inside : {then : Walk} {to : Level} → Enters walk (with_left new level) then to e inner.document
          → ComesTo document most level seen then to (enter level.offset (frame_of e) (held_value inner)) × (to.number ≡ 0) × (length then.waiting.items ≡ suc (length walk.waiting.items))
      comes_inside {then} {to} enters =
          let all : List Visit = seen ++ enter level.offset (frame_of e) (held_value inner) ∷ [] in
          let at : IsAt IsEntered (HasSeen all) [] document most then to = at_inside is.at inside_next inner.document inside_holds all enters (λ n more. (
            record { before = seen; seen = rw more at is.at.knows; known_is = ap (λ (o : ℕ). seen ++ enter o (frame_of e) (held_value inner) ∷ []) is.at.offset_is },
            record { visits = []; each = refl; seen_is = sym (append-nil all) },
          )) in (
            comes_to _ (record { at = at }) (omega (arith, inside_within.1, ap (λ (l : Level). l.offset) enters.level_is)) (next_ends is.at inside_next),
            ap (λ (l : Level). l.number) enters.level_is,
            omega (arith, ap length enters.stored, length-append walk.waiting.items (stored_level level ∷ [])),
          )

      -- the level is too deep
      pub told_deep : (answer : WalkError) → ((path : List Step) → StoreSteps (bytes_of walk.document) walk.waiting.items path → IsTooDeep walk level path e answer)
          → TellsError most (bytes_of document) answer × IsThere level.offset answer
      told_deep answer ends = deep_told most (bytes_of document) walk level (at_path is.at) e (λ full.
          let next = inside_next in
          let deep : FirstFaultAt is.at.levels.inside (bytes_of inner.document) too_deep [] 0 = rw (none_inside is.at full) (refl, refl, refl) in
          front_told too_deep (Some (frame_of e).key) (λ here begins.
          bars_inside is.at.levels.inside is.at.levels.here.bytes is.at.frames (held_value inner) (bytes_of inner.document) too_deep [] 0 here (next.frame, next.means, inside_holds) deep begins))
          answer (ends (at_path is.at) (at_steps is.at))

    -- a fault is at the front
    pub told_fault : (key : Option (Bor (List ℕ))) (e : BorrowedError) → x ≡ look.Fault key e → (answer : WalkError) → ((path : List Step)
        → StoreSteps (bytes_of walk.document) walk.waiting.items path → IsBarrierAt path (record { number = level.number; key = option_copied key }) level.offset (kind.Fault e) answer)
        → TellsError most (bytes_of document) answer × IsThere level.offset answer
    told_fault key e x_is answer ends =
        let (fault, fails, tells) = rw (x_is, is.at.left_is) at looked.finds in
        told_at most (bytes_of document) (at_path is.at) _ level.offset (kind.Fault e) (fault_of fault) (fault, refl, tells)
        (front_told (fault_of fault) (option_copied key) (λ here begins. inl (option_copied key, fails, refl, begins)))
        answer (ends (at_path is.at) (at_steps is.at))

    module _ (x_is : x ≡ look.End) where
      final : is.at.rest ≡ 0 ∷ []
      final = rw (x_is, is.at.left_is) at looked.finds

      pub come_goes_on : (outer : List Waiting) (w : Waiting) → walk.waiting.items ≡ outer ++ w ∷ [] → GoesOn (bytes_of walk.document) w (level.offset + 1)
      come_goes_on = at_goes_on is.at final

      -- a level is left
      pub comes_outside : {then : Walk} {to : Level} → Leaves walk level.offset then to
          → ComesTo document most level seen then to leave × (0 < to.number) × (length walk.waiting.items ≡ suc (length then.waiting.items))
      comes_outside {then} leaves =
          let (far, more) = resumed_further is.at final leaves in
          let come = at_resumed is.at final leaves (λ w held. seen_outside held is.at.knows is.at.reaches final) in
          (comes_to leave (record { at = come }) (omega (arith, far)) tt, more, omega (arith, ap length leaves.stored, length-append then.waiting.items (leaves.w ∷ [])))

      -- the document has been read
      pub comes_end : walk.waiting.items ≡ []
          → HasVisits (suc most) 0 (bytes_of document) seen × ((t : Tree) × ReadsUpTo (suc most) as_document (bytes_of document) t) × (walk.waiting.items ≡ [])
      comes_end none =
          let (here_is, inside_is) = at_outside is.at none in
          let all : HasVisits (suc most) 0 (bytes_of document) is.at.knows.visits = rw (here_is, inside_is) at (seen_whole is.at.knows is.at.reaches final) in
          let same : seen ≡ is.at.knows.visits = rw here_is at is.at.knows.seen_is in
          (rw same all, visits_read (suc most) 0 as_document (bytes_of document) is.at.knows.visits all, none)
