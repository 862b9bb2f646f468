-- The levels of a walk, whatever is known of them: how they continue, and that what is at the front of the innermost is at the front of the
-- document.
use Rattle.std.proofs.Common.{◌≡◌, ◌∙◌, ◌≤◌, ◌<◌, ◌+◌, ◌-◌, ◌++◌, ◌∷◌, [], ℕ, suc, List, Option, Some, length, drop, append_assoc, arith, ap, refl, sym, subst, length-append, length-drop}
use Rattle.std.proofs.lemmas.List.{same_from_push}
use Rattle.raw_tree.proofs.Common.{Frame, Holds, IsFrame, LeadsTo, Means, RawElement, RawValue, bytes_of, frame_of, value}
use Rattle.raw_tree.proofs.walk.Common.{AreHeld, BeginsAt, Enters, GoesOn, IsAt, IsBehind, IsHeld, IsOffsetOf, IsWithin, Leaves, Level, LiesAt, RawDocument, Span, Step, StoreSteps, Wait, Waiting, Walk}
use Rattle.raw_tree.proofs.walk.Common.{all_stored, first_number, level_behind, offset_in, outermost_of, path_of, resumed_level, size_of, step_at, stored_at, whole_span, with_left}
use Rattle.raw_view.proofs.Face.{LeadsTo-more}
use Rattle.raw_tree.proofs.reader.Loops.{nested_beside}
use Rattle.raw_tree.proofs.walk.Frames.{end_behind, frame_size}
use Rattle.raw_tree.proofs.walk.Offsets.{IsPlaced, end_size, frame_more, left_there, nested_last, nested_lies, placed, stored_more}

-- waiting levels

module _ {K : Type 0} {Behind : ℕ → Wait K → Span K → Type 0} {b : List ℕ} {n : ℕ} {w : Wait K} {i : Span K} (is : IsHeld Behind b n w i) where
  held_placed : IsPlaced b w.level w.frames is.s
  held_placed = placed b w.level w.frames is.s is.lies is.reaches

  -- what is at this offset of the inner bytes and at that offset of the document is at this offset of the outer bytes
  held_place : (first : Step) (steps : List Step) (at offset : ℕ) → i.start + at ≡ offset
      → (place : ℕ) × IsOffsetOf w.level.bytes is.s (i.bytes ++ is.r) (first ∷ steps) at place × (w.level.start + place ≡ offset)
  held_place first steps at offset far =
      let p = held_placed in
      let start : ℕ = i.start - w.level.start in
      let size = frame_size is.s w.f is.r is.frame in
      let inside = nested_beside is.s w.f is.r w.v i.bytes is.frame is.means is.holds in
      (start + at, (start, omega (arith, p.ends, p.counted, size, inside, is.ends, length-append i.bytes is.r), refl), omega (arith, p.counted, size, inside, is.ends, far))

-- what holds of a level, with these steps and at an offset in it, holds of the outer level
pub record IsOutward {K : Type 0} (Behind : ℕ → Wait K → Span K → Type 0) (b : List ℕ) (Tells : ℕ → Span K → List Step → ℕ → Type 0) : Type 0 where
  pub out : (n : ℕ) (w : Wait K) (i : Span K) (is : IsHeld Behind b n w i) (first : Step) (steps : List Step) (at place : ℕ) → Tells n i (first ∷ steps) at
      → IsOffsetOf w.level.bytes is.s (i.bytes ++ is.r) (first ∷ steps) at place → Tells (suc n) w.level (step_at w ∷ first ∷ steps) place

first_outer : (path : List Step) (step last : Step) → first_number ((path ++ step ∷ []) ++ last ∷ []) ≡ first_number (path ++ step ∷ [])
first_outer [] step last = refl
first_outer (x ∷ path) step last = refl

outermost_outer : (ws : List Waiting) (w : Waiting) (offset : ℕ) → outermost_of (ws ++ w ∷ []) offset ≡ outermost_of ws w.element
outermost_outer [] w offset = refl
outermost_outer (x ∷ ws) w offset = refl

-- so it holds of the outermost

-- it holds of a level with these steps, at an offset in the level that is this offset of the document
abbrev IsToldAt : {K : Type 0} → (ℕ → Span K → List Step → ℕ → Type 0) → ℕ → ℕ → Span K → List Step → Type 0
IsToldAt Tells offset n i steps = (at : ℕ) × Tells n i steps at × (i.start + at ≡ offset)

outward : {K : Type 0} {Behind : ℕ → Wait K → Span K → Type 0} {document : Span K} {Tells : ℕ → Span K → List Step → ℕ → Type 0} → IsOutward Behind document.bytes Tells
    → (inside depth : ℕ) (ws : List (Wait K)) (i : Span K) (first : Step) (steps : List Step) (offset : ℕ) → suc (length ws + inside) ≡ depth
    → AreHeld Behind document inside ws i → IsToldAt Tells offset (suc inside) i (first ∷ steps) → IsToldAt Tells offset depth document (path_of ws ++ first ∷ steps)
outward is inside depth [] i first steps offset many same told =
    let all : depth ≡ suc inside = omega (arith, many) in
    rw (← same, all) told
outward is inside depth (w ∷ ws) i first steps offset many (held, more) (at, tells, far) =
    let (place, offset_is, there) = held_place held first steps at offset far in
    rw (append_assoc (path_of ws) (step_at w ∷ []) (first ∷ steps))
    (outward is (suc inside) depth ws w.level (step_at w) (first ∷ steps) offset (omega (arith, many)) more (place, is.out (suc inside) w i held first steps at place tells offset_is, there))

module _ {K : Type 0} (Behind : ℕ → Wait K → Span K → Type 0) (known : K) (document : RawDocument) where
  -- the steps at which levels wait are stored
  steps_stored : (inside : ℕ) (ws : List (Wait K)) (i : Span K) → AreHeld Behind (whole_span known document) inside ws i → StoreSteps (bytes_of document) (all_stored ws) (path_of ws)
  steps_stored inside [] i same = refl
  steps_stored inside (w ∷ ws) i (held, more) =
      let p = held_placed held in
      stored_more (bytes_of document) (all_stored ws) (stored_at w) (path_of ws) (step_at w) (steps_stored (suc inside) ws w.level more)
      (record { frame = w.f; rest = held.r ++ p.behind; at = rw (p.there) (frame_more held.s w.f held.r p.behind held.frame); first = omega (arith, p.counted); step_is = refl })

  -- where the element of the outermost level is
  outermost_behind : (inside : ℕ) (ws : List (Wait K)) (i : Span K) (frames : List Frame) (s : List ℕ) (step : Step)
      → AreHeld Behind (whole_span known document) inside ws i → LeadsTo (drop 4 i.bytes) frames s → step.number ≡ length frames
      → IsBehind (bytes_of document) (first_number (path_of ws ++ step ∷ [])) (outermost_of (all_stored ws) (offset_in i frames))
  outermost_behind inside [] i frames s step same reaches number_is =
      let l : LeadsTo (drop 4 (bytes_of document)) frames s = rw same at reaches in
      let ends = end_size 4 (drop 4 (bytes_of document)) frames s l in
      rw same (record { frames = frames; s = s; reaches = l; number_is = number_is; begins = omega (arith, ends, length-drop 4 (bytes_of document), document.envelope.enough) })
  outermost_behind inside (w ∷ ws) i frames s step (held, more) reaches number_is =
      rw (first_outer (path_of ws) (step_at w) step, outermost_outer (all_stored ws) (stored_at w) (offset_in i frames))
      (outermost_behind (suc inside) ws w.level w.frames held.s (step_at w) more held.reaches refl)

  none_held : (inside : ℕ) (ws : List (Wait K)) (i : Span K) → length ws ≡ 0 → AreHeld Behind (whole_span known document) inside ws i → i ≡ whole_span known document
  none_held inside [] i none held = held
  none_held inside (w ∷ ws) i none held = absurd (omega (arith, none))

-- the innermost of the waiting levels
last_held : {K : Type 0} {Behind : ℕ → Wait K → Span K → Type 0} {document : Span K} {inside : ℕ} {i : Span K} (ws : List (Wait K)) (outer : List Waiting) (x : Waiting)
    → all_stored ws ≡ outer ++ x ∷ [] → AreHeld Behind document inside ws i
    → (w : Wait K) × (others : List (Wait K)) × (ws ≡ w ∷ others) × (outer ≡ all_stored others) × (x ≡ stored_at w) × IsHeld Behind document.bytes (suc inside) w i
    × AreHeld Behind document (suc inside) others w.level
last_held [] outer x same held = absurd (omega (arith, ap length same, length-append outer (x ∷ [])))
last_held (w ∷ ws) outer x same held =
    let both = same_from_push outer (all_stored ws) x (stored_at w) (sym same) in
    (w, ws, refl, both.0, both.1, held.0, held.1)

as_many : {K : Type 0} (ws : List (Wait K)) → length (all_stored ws) ≡ length ws
as_many [] = refl
as_many (w ∷ ws) = omega (arith, as_many ws, length-append (all_stored ws) (stored_at w ∷ []))

-- the element e is at the front of s and means this value, and this is left after it
pub record IsNext (s : List ℕ) (e : RawElement) (v : RawValue) (new : Option (List ℕ)) : Type 0 where
  pub r : List ℕ
  pub frame : IsFrame s (frame_of e) r
  pub means : Means (frame_of e) (value v)
  pub new_is : new ≡ Some r

-- a walk is in a level
module _ {K : Type 0} {Behind : ℕ → Wait K → Span K → Type 0} {Fact : ℕ → Span K → List Frame → Type 0} {known : K} {document : RawDocument} {most : ℕ} {walk : Walk} {level : Level}
    (at : IsAt Behind Fact known document most walk level) where
  at_placed : IsPlaced (bytes_of document) at.levels.here at.frames at.rest
  at_placed = placed (bytes_of document) at.levels.here at.frames at.rest at.levels.lies at.reaches

  -- the rest of it is within the document, and no more levels wait than are allowed
  pub at_within : (level.offset + length at.rest ≤ length (bytes_of document)) × (length walk.waiting.items ≤ most)
  at_within = let p = at_placed in (omega (arith, p.ends, p.within, at.offset_is), omega (arith, ap length at.levels.stored, as_many at.levels.waits, at.levels.many))

  -- the steps at which levels wait
  abbrev pub at_path : List Step
  at_path = path_of at.levels.waits

  pub at_steps : StoreSteps (bytes_of walk.document) walk.waiting.items at_path
  at_steps = rw (at.levels.stored, at.levels.document_is) (steps_stored Behind known document at.levels.inside at.levels.waits at.levels.here at.levels.held)

  pub path_stored : (path : List Step) × StoreSteps (bytes_of walk.document) walk.waiting.items path
  path_stored = (at_path, at_steps)

  -- the element of the outermost level that holds the innermost one, or is next in it
  pub at_outermost : (key : Option (List ℕ)) → IsBehind (bytes_of document) (first_number (at_path ++ record { number = level.number; key = key } ∷ []))
      (outermost_of walk.waiting.items level.offset)
  at_outermost key =
      rw (at.levels.stored, at.offset_is) (outermost_behind Behind known document at.levels.inside at.levels.waits at.levels.here at.frames at.rest (record { number = level.number; key = key })
      at.levels.held at.reaches at.number_is)

  -- what is at the front of the rest of the innermost level is at the front of the document, at the offset of that rest
  pub front_outward : {Tells : ℕ → Span K → List Step → ℕ → Type 0} → IsOutward Behind (bytes_of document) Tells → (step : Step)
      → ((here : ℕ) → BeginsAt at.levels.here.bytes at.rest here → Tells (suc at.levels.inside) at.levels.here (step ∷ []) here)
      → Tells (suc most) (whole_span known document) (at_path ++ step ∷ []) level.offset
  front_outward {Tells = Tells} out step front =
      let p = at_placed in
      let here : ℕ = level.offset - level.start in
      let begins : BeginsAt at.levels.here.bytes at.rest here = omega (arith, p.ends, p.counted, at.offset_is, at.start_is) in
      let (place, told, far) = outward out at.levels.inside (suc most) at.levels.waits at.levels.here step [] level.offset (omega (arith, at.levels.many)) at.levels.held
      (here, front here begins, omega (arith, p.counted, at.offset_is, at.start_is)) in
      let same : place ≡ level.offset = omega (arith, far) in
      rw same at told

  module _ {e : RawElement} {v : RawValue} {new : Option (List ℕ)} (is : IsNext at.rest e v new) where
    pub next_ends : level.offset + size_of (frame_of e) ≤ length (bytes_of document)
    next_ends = omega (arith, frame_size at.rest (frame_of e) is.r is.frame, at_within.0)

    pub next_within : IsWithin walk (with_left new level) e
    next_within =
        let p = at_placed in
        record {
          ends = rw (at.levels.document_is) next_ends;
          number_within = omega (arith, p.counted, at.number_is, at.offset_is);
          start_within = omega (arith, p.counted, at.start_is, at.offset_is);
        }

    -- the level continues after the element
    pub at_whole : {Then : ℕ → Span K → List Frame → Type 0} {to : Level} → to ≡ level_behind (with_left new level) e → Then at.levels.inside at.levels.here (at.frames ++ frame_of e ∷ [])
        → IsAt Behind Then known document most walk to
    at_whole to_is knows = rw to_is (record {
      levels = at.levels;
      frames = at.frames ++ frame_of e ∷ [];
      rest = is.r;
      reaches = LeadsTo-more (drop 4 at.levels.here.bytes) at.frames at.rest (frame_of e) is.r at.reaches is.frame;
      left_is = is.new_is;
      number_is = omega (arith, at.number_is, length-append at.frames (frame_of e ∷ []));
      offset_is = ap (λ (n : ℕ). n + size_of (frame_of e)) at.offset_is ∙ sym (end_behind (at.levels.here.start + 4) at.frames (frame_of e));
      start_is = at.start_is;
      knows = knows;
    })

    -- the level waits for the one in the element's value
    module _ (inner : RawDocument) (holds : Holds v (bytes_of inner)) where
      pub inside_fits : length (bytes_of inner) ≤ size_of (frame_of e)
      inside_fits = omega (arith, nested_beside at.rest (frame_of e) is.r v (bytes_of inner) is.frame is.means holds, frame_size at.rest (frame_of e) is.r is.frame)

      abbrev pub wait_here : Wait K
      wait_here = record { level = at.levels.here; frames = at.frames; f = frame_of e; v = v }

      abbrev pub span_inside : K → Span K
      span_inside k = record { start = level.offset + size_of (frame_of e) - length (bytes_of inner); bytes = bytes_of inner; known = k }

      pub at_inside : {Then : ℕ → Span K → List Frame → Type 0} {then : Walk} {to : Level} (k : K) → Enters walk (with_left new level) then to e inner
          → ((n : ℕ) → at.levels.inside ≡ suc n → Behind (suc n) wait_here (span_inside k) × Then n (span_inside k) []) → IsAt Behind Then known document most then to
      at_inside k enters knows =
          let l = at.levels in
          let p = at_placed in
          let less : ℕ = l.inside - 1 in
          let more : l.inside ≡ suc less = omega (arith, l.many, enters.room, l.most_is, ap length l.stored, as_many l.waits) in
          let fits = inside_fits in
          let ends : (span_inside k).start + length (bytes_of inner) ≡ offset_in l.here at.frames + size_of (frame_of e) = omega (arith, fits, at.offset_is) in
          let both = knows less more in
          rw (enters.level_is) (record {
            levels = record {
              inside = less;
              waits = wait_here ∷ l.waits;
              here = span_inside k;
              document_is = enters.document_is ∙ l.document_is;
              most_is = enters.most_is ∙ l.most_is;
              many = omega (arith, l.many, more);
              stored = enters.stored ∙ (λ i. l.stored i ++ record { start = at.start_is i; element = at.offset_is i; number = at.number_is i } ∷ []);
              held = (
                record { s = at.rest; r = is.r; lies = l.lies; reaches = at.reaches; frame = is.frame; means = is.means; holds = holds; ends = ends; knows = both.0 },
                rw more at l.held,
              );
              lies = nested_lies (bytes_of inner) p.behind (offset_in l.here at.frames) (span_inside k).start p.there is.frame
                  (nested_last (frame_of e).kind (frame_of e).payload v (bytes_of inner) is.means holds) inner.envelope ends;
            };
            frames = [];
            rest = drop 4 (bytes_of inner);
            reaches = refl;
            left_is = refl;
            number_is = refl;
            offset_is = refl;
            start_is = refl;
            knows = both.1;
          })

  -- the final 0 is at the front of the rest
  module _ (final : at.rest ≡ 0 ∷ []) where
    pub at_goes_on : (outer : List Waiting) (x : Waiting) → walk.waiting.items ≡ outer ++ x ∷ [] → GoesOn (bytes_of walk.document) x (level.offset + 1)
    at_goes_on outer x items_are =
        let (w, others, all, outer_is, x_is, held, more) = last_held at.levels.waits outer x (sym at.levels.stored ∙ items_are) at.levels.held in
        let p = at_placed in
        let q = held_placed held in
        let size = frame_size held.s w.f held.r held.frame in
        rw (x_is, at.levels.document_is) (record {
          bytes = w.level.bytes;
          lies = held.lies;
          begins = omega (arith, p.ends, at.offset_is, ap length final, held.ends, q.counted);
          ends = omega (arith, p.ends, at.offset_is, ap length final, held.ends, q.ends, size);
        })

    -- the waiting level continues
    pub at_resumed : {Then : ℕ → Span K → List Frame → Type 0} {new : Walk} {to : Level} → Leaves walk level.offset new to
        → ((w : Wait K) → IsHeld Behind (bytes_of document) (suc at.levels.inside) w at.levels.here → Then (suc at.levels.inside) w.level (w.frames ++ w.f ∷ []))
        → IsAt Behind Then known document most new to
    at_resumed {new = new} {to} leaves knows =
        let (w, others, all, outer_is, x_is, held, more) = last_held at.levels.waits new.waiting.items leaves.w (sym at.levels.stored ∙ leaves.stored) at.levels.held in
        let there = subst (λ (y : Waiting). (d : List ℕ) → LiesAt (bytes_of walk.document) y.start d → to ≡ resumed_level y d (level.offset + 1)) x_is leaves.level_is w.level.bytes
        (rw (at.levels.document_is) (held.lies)) in
        let frames : List Frame = w.frames ++ w.f ∷ [] in
        let reaches = LeadsTo-more (drop 4 w.level.bytes) w.frames held.s w.f held.r held.reaches held.frame in
        let far : level.offset + 1 ≡ offset_in w.level frames = omega (arith, at_placed.ends, at.offset_is, ap length final, held.ends, end_behind (w.level.start + 4) w.frames w.f) in
        rw (there, far) (record {
          levels = record {
            inside = suc at.levels.inside;
            waits = others;
            here = w.level;
            document_is = leaves.document_is ∙ at.levels.document_is;
            most_is = leaves.most_is ∙ at.levels.most_is;
            many = omega (arith, at.levels.many, ap length all);
            stored = outer_is;
            held = more;
            lies = held.lies;
          };
          frames = frames;
          rest = held.r;
          reaches = reaches;
          left_is = ap Some (sym (left_there w.level frames held.r held.lies.envelope.enough reaches));
          number_is = omega (arith, length-append w.frames (w.f ∷ []));
          offset_is = refl;
          start_is = refl;
          knows = knows w held;
        })

    -- the resumed level is further on
    pub resumed_further : {new : Walk} {to : Level} → Leaves walk level.offset new to → (to.offset ≡ level.offset + 1) × (0 < to.number)
    resumed_further {new} leaves =
        let goes = at_goes_on new.waiting.items leaves.w leaves.stored in
        let there = leaves.level_is goes.bytes goes.lies in
        (ap (λ (l : Level). l.offset) there, omega (arith, ap (λ (l : Level). l.number) there))

  -- if no level waits, the level is the document
  pub at_outside : walk.waiting.items ≡ [] → (at.levels.here ≡ whole_span known document) × (at.levels.inside ≡ most)
  at_outside none =
      let few : length at.levels.waits ≡ 0 = omega (arith, as_many at.levels.waits, ap length at.levels.stored, ap length none) in
      (none_held Behind known document at.levels.inside at.levels.waits at.levels.here few at.levels.held, omega (arith, at.levels.many, few))

  -- if no more may wait, none may be inside
  pub none_inside : walk.most_waiting ≤ length walk.waiting.items → at.levels.inside ≡ 0
  none_inside full = omega (arith, full, at.levels.most_is, at.levels.many, as_many at.levels.waits, ap length at.levels.stored)
