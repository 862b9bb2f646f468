-- How a run over an input ends, and how it fails.
use Rattle.std.proofs.Common.{◌≡◌, ℕ, ◌+◌, ◌-◌, List, [], ◌∷◌, ◌++◌, Bool, true, false, Option, None, Some, IfSome, ap, append_assoc, arith, inl, inr, length, length-append, refl, subst, sym, ◌∙◌}
use Rattle.std.proofs.KnownBytes.{Consumes-nil}
use Rattle.std.specs.Io.KnownBytes.{Consumes, IsAtEnd}
use Rattle.std.specs.declared.io.Error.{Error}
use Rattle.raw_resync.specs.Seeking.{no_work}
use Rattle.dump_io.specs.input.Cut.{EndsWith}
use Rattle.dump_io.specs.input.Endings.{ending_line}
use Rattle.dump_io.specs.input.InFront.{IsAllInFront}
use Rattle.dump_io.specs.input.Reading.{GoesAhead, IsReadBehind, IsWindow, ahead_of, offset_of}
use Rattle.dump_io.specs.lines.Fronts.{HasFront}
use Rattle.dump_io.specs.lines.Origins.{Origin}
use Rattle.dump_io.specs.declared.input.ending.Ending.{Ending}
use Rattle.dump_io.specs.declared.input.rest.Rest.TheVariants as comes
use Rattle.dump_io.specs.declared.lines.failure.ReadFailure.{ReadFailure}
use Rattle.dump_runs.specs.declared.ends.Ended.{Ended}
use Rattle.dump_runs.specs.declared.ends.Ended.TheVariants as how
use Rattle.dump_io.specs.declared.lines.style.Style.{Style}
use Rattle.dump_commands.specs.Counting.{count_left}
use Rattle.dump_commands.specs.declared.counts.Counts.{Counts}
use Rattle.dump_commands.specs.declared.job.Job.{Job}
use Rattle.dump_runs.specs.dumps.Ends.{EndsAs, EndsRun, FailsAfter, events_of_rest}
use Rattle.dump_runs.specs.dumps.Halting.{Halts, IsNextFront}
use Rattle.dump_runs.specs.Plays.{Event, Held, Played}
use Rattle.dump_runs.specs.dumps.Portion.{IsChosen, IsEnough}
use Rattle.dump_runs.specs.Limits.{style_at}
use Rattle.dump_runs.specs.dumps.Run.{Passed, Point, after_all, bytes_of_parts, from, skipped, start_of}
use Rattle.dump_runs.specs.dumps.Steps.{EndsAt, FailsAt, HasFailed, HaltsLeaving, HaltsNext, Leaves, Looks, PassesAll, PassesSomeFront, Place, EndsParts, end_of, place_of}
use Rattle.dump_runs.specs.declared.dumps.run.Stop.{Stop}
use Rattle.dump_runs.specs.declared.dumps.run.Stop.TheVariants as stop
use Rattle.dump_runs.proofs.dumps.Choosing.{HasPassedPortion, chosen_front, in_front_none}
use Rattle.dump_runs.proofs.dumps.Passing.{counts_passed, has_front, name_behind, offset_of_parts, passed_ahead, passed_same, read_from}
use Rattle.dump_runs.proofs.Plays.{played_count, played_none, played_on}

-- what was read is in front of the input
read_front : (bytes x : List ℕ) (r r' : Option (List ℕ)) → Consumes r r' (bytes ++ x) → IfSome r (λ s. HasFront s bytes)
read_front bytes x None r' read = tt
read_front bytes x (Some s) None read = absurd read
read_front bytes x (Some s) (Some rest) read = (x ++ rest, read ∙ append_assoc bytes x rest)

-- so is the rest, of what is after the parts
rest_front : (r r' : Option (List ℕ)) (x : List ℕ) → Consumes r r' x → IfSome r (λ s. HasFront s x)
rest_front None r' x read = tt
rest_front (Some s) None x read = absurd read
rest_front (Some s) (Some t) x read = (t, read)

pub not_early : false ≡ true → ⊥
not_early same = let impossible : ⊥ = cc in absurd impossible

module _ {job : Job} {name : List ℕ} {input : Option (List ℕ)} where
  -- parts were passed, and of what is next a front is played
  pub halts_with : {left : Option (List ℕ)} {rest : List ℕ} {old mid new : Held} (h : Passed job name input left rest old mid) (front : List ℕ) → IsChosen job.portion job.limits.bytes input front h.ps
      → (es : List Event) → Played es mid new → IsNextFront job (from (length (bytes_of_parts h.ps)) input) (after_all job (start_of name old) h.ps) es → Halts job name input old new
  halts_with {left = left} {rest = rest} h front chosen es played next = record {
    ps = h.ps;
    in_front = read_front (bytes_of_parts h.ps) rest input left h.is_read;
    parts = h.parts;
    front = front;
    chosen = chosen;
    es = es;
    next = next;
    played = played_on h.played played;
  }

  -- nothing of it
  pub halts_here : {left : Option (List ℕ)} {rest : List ℕ} {old new : Held} (h : Passed job name input left rest old new) (front : List ℕ)
      → IsChosen job.portion job.limits.bytes input front h.ps → Halts job name input old new
  halts_here h front chosen = halts_with h front chosen [] (played_none refl) (inl refl)

  -- a front of what is next
  pub halts_next : {x : Place} {old mid new : Held} (h : HasPassedPortion job name input x old mid) → HaltsNext job x mid new → Halts job name input old new
  halts_next {x = x} {old = old} {mid = mid} h (es, played, front) =
      let p = h.has.passed in
      let bytes = bytes_of_parts p.ps in
      let read : Consumes (from (length bytes) input) x.left (ahead_of x.window) = read_from bytes (ahead_of x.window) input x.left p.is_read in
      halts_with p h.front h.chosen es played (subst (λ (q : Point). IsNextFront job (from (length bytes) input) q es) h.has.to (front (from (length bytes) input) read))

-- nothing is passed yet
abbrev nothing_passed : {job : Job} {name : List ℕ} {input : Option (List ℕ)} {old : Held} → Passed job name input input [] old old
nothing_passed {input = input} = record { ps = skipped [] ∷ []; parts = (tt, tt); is_read = Consumes-nil input; played = played_none refl; kept = refl }

pub halts_first : {job : Job} {name : List ℕ} {input : Option (List ℕ)} {old : Held} → Halts job name input old old
halts_first {job = job} {input = input} = halts_here nothing_passed [] (chosen_front [] (in_front_none job.portion job.limits.bytes input))

-- reading failed where it stopped with that
has_failed : (from : ℕ) (s : Stop) → FailsAt from s → HasFailed s
has_failed from stop.End fails = absurd fails
has_failed from stop.Enough fails = absurd fails
has_failed from (stop.Left e) fails = absurd fails
has_failed from (stop.Failed at error) fails = tt

fails_here : (job : Job) (y : Place) (end from : ℕ) (rest : List ℕ) (s : Stop) → FailsAt from s → from ≡ end → end_of y ≡ end + length rest → EndsParts job y end rest s
fails_here job y end from rest stop.End fails at all = absurd fails
fails_here job y end from rest stop.Enough fails at all = absurd fails
fails_here job y end from rest (stop.Left e) fails at all = absurd fails
fails_here job y end from rest (stop.Failed there error) fails at all = (fails ∙ at, all)

-- it is no end that comes early
fails_late : (from : ℕ) (s : Stop) (P : Type 0) → FailsAt from s → s ≡ stop.Enough → P
fails_late from s P fails same = absurd (subst (FailsAt from) same fails)

-- how the parts of an input end that was read from z on
module _ {job : Job} {x : Place} {old mid : Held} (z : Place) (h : HasPassedPortion job z.name z.left x old mid) where
  there : offset_of x.window ≡ length (bytes_of_parts h.has.passed.ps)
  there = ap (λ (q : Point). q.at.offset) h.has.to ∙ offset_of_parts job z.name old h.has.passed.ps

  named_here : x.name ≡ z.name
  named_here = ap (λ (q : Point). q.at.name) h.has.to ∙ name_behind job (start_of z.name old) h.has.passed.ps

  pub stops_end : {y : Place} {new : Held} → Looks x y mid new → ahead_of y.window ≡ [] → IsAtEnd y.left → PassesAll job z y old new stop.End
  stops_end {y = y} {new = new} looks none end = record {
    named = looks.named ∙ named_here;
    window = looks.stays.window;
    rest = ahead_of y.window;
    passed = passed_same looks.same (passed_ahead h.has.passed looks.stays.looks.is_read);
    front = h.front;
    chosen = h.chosen;
    to_front = inl h.all;
    to_last = λ same. let impossible : ⊥ = cc in absurd impossible;
    stops = (none, end);
  }

  pub stops_left : {y : Place} {new : Held} (e : Ending) → Looks x y mid new → EndsWith job.limits.bytes e (ahead_of y.window) → IsReadBehind e y.left → job.resync ≡ false
      → PassesAll job z y old new (stop.Left e)
  stops_left {y = y} {new = new} e looks ends behind unasked = record {
    named = looks.named ∙ named_here;
    window = looks.stays.window;
    rest = ahead_of y.window;
    passed = passed_same looks.same (passed_ahead h.has.passed looks.stays.looks.is_read);
    front = h.front;
    chosen = h.chosen;
    to_front = inl h.all;
    to_last = λ same. let impossible : ⊥ = cc in absurd impossible;
    stops = (refl, looks.stays.offset ∙ there, ends, behind, unasked);
  }

  pub stops_enough : IsWindow x.window → IsEnough job.portion h.has.passed.ps → PassesAll job z x old mid stop.Enough
  stops_enough window enough = record {
    named = named_here;
    window = window;
    rest = ahead_of x.window;
    passed = h.has.passed;
    front = h.front;
    chosen = h.chosen;
    to_front = inl h.all;
    to_last = λ same. enough;
    stops = tt;
  }

  pub stops_failed : {y : Place} {new : Held} (from : ℕ) (s : Stop) → FailsAt from s → from ≡ offset_of x.window → GoesAhead x.left y.left x.window y.window → y.name ≡ x.name → new ≡ mid
      → PassesAll job z y old new s
  stops_failed {y = y} {new = new} from s fails at goes named same =
      let bytes = goes.passes.bytes in
      let count : length bytes ≡ goes.count = goes.passes.len in
      let size : length (bytes ++ ahead_of y.window) ≡ length bytes + length (ahead_of y.window) = length-append bytes (ahead_of y.window) in
      let moved : offset_of y.window ≡ offset_of x.window + goes.count = goes.offset in
      let here : offset_of x.window ≡ length (bytes_of_parts h.has.passed.ps) = there in
      record {
        named = named ∙ named_here;
        window = goes.window;
        rest = bytes ++ ahead_of y.window;
        passed = passed_same same (passed_ahead h.has.passed goes.passes.is_read);
        front = h.front;
        chosen = h.chosen;
        to_front = inl h.all;
        to_last = λ early. fails_late from s _ fails early;
        stops = fails_here job y (length (bytes_of_parts h.has.passed.ps)) from (bytes ++ ahead_of y.window) s fails (at ∙ there) (omega (arith, count, size, moved, here));
      }

-- reading fails in front of the documents that are asked for
pub stops_before : {job : Job} {z y : Place} {old : Held} (from : ℕ) (s : Stop) → FailsAt from s → from ≡ offset_of y.window → z.work ≡ no_work → z.broken ≡ false
    → PassesSomeFront job.portion job.limits.bytes z y
    → PassesAll job z y old old s
stops_before {job = job} {z = z} {y = y} {old = old} from s fails at unworked whole p =
    let h = has_front {y = y} p.named (p.work ∙ unworked) (p.same ∙ whole) p.has in
    let end : offset_of y.window ≡ length (bytes_of_parts h.passed.ps) = ap (λ (q : Point). q.at.offset) h.to ∙ offset_of_parts job z.name old h.passed.ps in
    record {
      named = p.named;
      window = p.has.window;
      rest = ahead_of y.window;
      passed = h.passed;
      front = p.front;
      chosen = chosen_front p.front p.is;
      to_front = inr (has_failed from s fails);
      to_last = λ early. fails_late from s _ fails early;
      stops = fails_here job y (length (bytes_of_parts h.passed.ps)) from (ahead_of y.window) s fails (at ∙ end) (ap (λ (n : ℕ). n + length (ahead_of y.window)) end);
    }

-- a rest is read
rest_ends : (job : Job) (e : Ending) (ended : Ended) (at : ℕ) (rest : List ℕ) (left : Option (List ℕ)) → EndsWith job.limits.bytes e rest → job.resync ≡ false
    → (ended ≡ how.Cut → IsAtEnd left) → EndsAt at ended → EndsAs job false (Some e) ended rest left
rest_ends job e how.Whole at rest left ends unasked to_end ends_at = absurd ends_at
rest_ends job e how.Cut at rest left ends unasked to_end ends_at = (ends, unasked, to_end refl)
rest_ends job e (how.Failed f) at rest left ends unasked to_end ends_at = (ends, unasked)

rest_fails : (ended : Ended) (at : ℕ) → EndsAt at ended → FailsAfter ended at
rest_fails how.Whole at ends = absurd ends
rest_fails how.Cut at ends = tt
rest_fails (how.Failed f) at ends = ends

-- how a run ends after that
module _ {job : Job} {x y : Place} {old new : Held} where
  -- without a failure
  ends_read : {s : Stop} (early : Bool) (q : PassesAll job x y old new s) → (HasFailed s → ⊥) → EndsAs job early None how.Whole q.rest y.left → (early ≡ true → IsEnough job.portion q.passed.ps)
      → EndsRun job x.name x.left old new how.Whole
  ends_read early q read ends enough =
      let whole : IsAllInFront job.portion job.limits.bytes x.left q.front = elim q.to_front [
        | inl all ↦ all
        | inr failed ↦ absurd (read failed)
      ] in
      record {
        rest = q.rest;
        left = y.left;
        between = new;
        passed = q.passed;
        front = q.front;
        chosen = q.chosen;
        early = early;
        end = None;
        ends = ends;
        fails = tt;
        last = played_none refl;
        kept = refl;
        to_front = λ read. whole;
        to_last = enough;
      }

  pub ends_run : PassesAll job x y old new stop.End → EndsRun job x.name x.left old new how.Whole
  ends_run q = ends_read false q (λ failed. failed) q.stops (λ early. absurd (not_early early))

  pub ends_early : PassesAll job x y old new stop.Enough → EndsRun job x.name x.left old new how.Whole
  ends_early q = ends_read true q (λ failed. failed) (refl, refl) (λ early. q.to_last refl)

  -- where reading failed
  pub ends_failed : (from : ℕ) (error : Error) (f : ReadFailure) (n : Counts) → PassesAll job x y old new (stop.Failed from error) → f.at ≡ end_of y → n ≡ count_left new.counts (f.at - from)
      → EndsRun job x.name x.left old (record new { counts = n }) (how.Failed f)
  ends_failed from error f n q at counts =
      let start : from ≡ length (bytes_of_parts q.passed.ps) = q.stops.0 in
      let end : end_of y ≡ length (bytes_of_parts q.passed.ps) + length q.rest = q.stops.1 in
      let left : f.at - from ≡ length q.rest = omega (arith, at, end, start) in
      record {
        rest = q.rest;
        left = y.left;
        between = new;
        passed = q.passed;
        front = q.front;
        chosen = q.chosen;
        early = false;
        end = None;
        ends = tt;
        fails = at ∙ end;
        last = played_count (λ m. count_left m (length q.rest)) (counts ∙ ap (λ (a : ℕ). count_left new.counts a) left) [] (played_none refl);
        kept = refl;
        to_front = λ read. absurd (read tt);
        to_last = λ early. absurd (not_early early);
      }

  -- what begins after the parts
  module _ {e : Ending} (q : PassesAll job x y old new (stop.Left e)) where
    last_place : (after_all job (start_of x.name old) q.passed.ps).at ≡ place_of y
    last_place = λ i. record {
      name = (name_behind job (start_of x.name old) q.passed.ps ∙ sym q.named) i;
      offset = (offset_of_parts job x.name old q.passed.ps ∙ sym q.stops.1) i;
    }

    last_style : style_at job.style job.limit (after_all job (start_of x.name old) q.passed.ps).counts ≡ style_at job.style job.limit new.counts
    last_style = ap (λ (n : Counts). style_at job.style job.limit n) (sym (counts_passed q.passed))

    all_front : IsAllInFront job.portion job.limits.bytes x.left q.front
    all_front = elim q.to_front [
      | inl all ↦ all
      | inr failed ↦ absurd failed
    ]

    -- with what no document begins with
    pub ends_left : {z : Place} {last : Held} {ended : Ended} → Leaves job e y z new last ended → EndsRun job x.name x.left old last ended
    ends_left {z = z} {last = last} {ended = ended} l =
        let (ahead, at, ends, behind, unasked) = q.stops in
        let is : EndsAs job false (Some e) ended l.rest z.left =
        rest_ends job e ended _ l.rest z.left l.ends unasked l.to_end l.ends_at in
        record {
          rest = l.rest;
          left = z.left;
          between = new;
          passed = passed_ahead q.passed (λ before read. l.is_read before (subst (Consumes before y.left) ahead read));
          front = q.front;
          chosen = q.chosen;
          early = false;
          end = Some e;
          ends = is;
          fails = rest_fails ended _ (subst (λ (m : ℕ). EndsAt (m + length l.rest) ended) at l.ends_at);
          last =
              subst (λ (a : Origin). Played (events_of_rest (style_at job.style job.limit (after_all job (start_of x.name old) q.passed.ps).counts) a e (length l.rest)) new last) (sym last_place)
              (subst (λ (s : Style). Played (events_of_rest s (place_of y) e (length l.rest)) new last) (sym last_style) l.played);
          kept = l.kept;
          to_front = λ read. all_front;
          to_last = λ early. absurd (not_early early);
        }

    -- or a front of its line
    pub halts_left : {last : Held} → HaltsLeaving job e y new last → Halts job x.name x.left old last
    halts_left (es, played, inl none) = halts_with q.passed q.front q.chosen es played (inl none)
    halts_left (es, played, inr (text, front, line, has, is)) =
        let (ahead, at, ends, behind, unasked) = q.stops in
        let here = after_all job (start_of x.name old) q.passed.ps in
        let bytes = bytes_of_parts q.passed.ps in
        let style = style_at job.style job.limit here.counts in
        let read : Consumes (from (length bytes) x.left) y.left (ahead_of y.window) =
        subst (Consumes (from (length bytes) x.left) y.left) ahead (read_from bytes q.rest x.left y.left q.passed.is_read) in
        let there : IfSome (from (length bytes) x.left) (λ s. HasFront s line.rest) =
        rest_front (from (length bytes) x.left) line.left line.rest (line.is_read (from (length bytes) x.left) read) in
        let said : text ≡ ending_line style here.at.name here.at.offset e (comes.NotRead (length line.rest)) =
        line.is ∙ ap (λ (s : Style). ending_line s y.name (offset_of y.window) e (comes.NotRead (length line.rest))) (sym last_style)
        ∙ ap (λ (a : Origin). ending_line style a.name a.offset e (comes.NotRead (length line.rest))) (sym last_place) in
        halts_with q.passed q.front q.chosen es played (inr (inr (inr (text, front, inr (e, line.rest, line.ends, unasked, there, said), has, is))))
