-- The lines of places at which no document begins.
use Rattle.std.proofs.Common.{◌≡◌, ℕ, List, [], ◌∷◌, ◌++◌, Option, None, ℤ, ap, append-nil, inl, inr, length, refl, subst, sym, ◌∙◌}
use Rattle.std.specs.Io.KnownBytes.{Appends, Consumes}
use Rattle.dump_io.specs.input.Endings.{ending_line}
use Rattle.dump_io.specs.input.Cut.{EndsWith}
use Rattle.dump_io.specs.input.Reading.{IsReadBehind, ReadsRest, ahead_of, offset_of}
use Rattle.dump_io.specs.input.Resync.{SkipsTo}
use Rattle.dump_io.specs.lines.Fronts.{AppendsFront}
use Rattle.dump_io.specs.lines.Origins.{Origin}
use Rattle.dump_io.specs.declared.input.ending.Ending.{Ending}
use Rattle.dump_io.specs.declared.input.ending.Ending.TheVariants as ending
use Rattle.dump_io.specs.declared.input.rest.Rest.{Rest}
use Rattle.dump_io.specs.declared.input.rest.Rest.TheVariants as comes
use Rattle.dump_io.specs.declared.input.resync.Skip.{Skip}
use Rattle.dump_io.specs.declared.input.window.Drained.{Drained}
use Rattle.dump_io.specs.declared.lines.style.Style.{Style}
use Rattle.dump_io.proofs.Face.{unsound_behind}
use Rattle.dump_commands.specs.Counting.{count_gap}
use Rattle.dump_commands.specs.declared.counts.Counts.{Counts}
use Rattle.dump_commands.specs.declared.job.Job.{Job}
use Rattle.dump_commands.specs.declared.state.kept.Kept.{Kept}
use Rattle.dump_runs.specs.Plays.{Held, Played, reported}
use Rattle.dump_runs.specs.Limits.{style_at}
use Rattle.dump_runs.specs.dumps.Run.{events_of_gap}
use Rattle.dump_runs.specs.dumps.Steps.{HaltsLine, IsGapLine, IsLeft, IsRestLine, Place, place_of, reach_of}
use Rattle.dump_runs.proofs.Plays.{holds, played_count, played_none, played_text}

-- it is the same line where it is told in the same way of the same place
pub line_same : {s s' : Style} {a a' : Origin} (end : Ending) (rest : Rest) → s ≡ s' → a ≡ a' → ending_line s a.name a.offset end rest ≡ ending_line s' a'.name a'.offset end rest
line_same {s = s} {s' = s'} {a = a} {a' = a'} end rest style at =
    ap (λ (x : Style). ending_line x a.name a.offset end rest) style ∙ ap (λ (x : Origin). ending_line s' x.name x.offset end rest) at

module _ {s s' : Style} {a a' : Origin} {d l w w' : Option (List ℕ)} {n : Counts} {k : Kept} (end : Ending) (style : s ≡ s') (at : a ≡ a') where
  -- that of a gap is written, and it is counted
  pub gap_played : (skip : Skip) {m : Counts} → Appends w w' (ending_line s a.name a.offset end (comes.PassedOver skip)) → m ≡ count_gap n skip.count
      → Played (events_of_gap s' a' end skip) (holds d l w n k) (holds d l w' m k)
  gap_played skip put counts =
      let line = ending_line s' a'.name a'.offset end (comes.PassedOver skip) in
      played_count (λ (m : Counts). count_gap m skip.count) counts (reported line ∷ [])
      (played_text d d w w' n k k line (subst (Appends w w') (line_same end (comes.PassedOver skip) style at) put))

-- a front of a line is written
pub line_front : (Is : List ℕ → Type 0) (d l w w' : Option (List ℕ)) (n : Counts) (k : Kept) (text : List ℕ) → Is text → AppendsFront w w' text → HaltsLine Is (holds d l w n k) (holds d l w' n k)
line_front Is d l w w' n k text is front = (reported front.front ∷ [], played_text d d w w' n k k front.front front.put, inr (text, front.front, is, (front.behind, front.whole), refl))

-- or nothing
pub line_none : (Is : List ℕ → Type 0) {old new : Held} → new ≡ old → HaltsLine Is old new
line_none Is same = ([], played_none same, inl refl)

-- the line of a gap, and that of the rest of an input
pub gap_line : {job : Job} {end : Ending} {x : Place} {n : Counts} {s : Style} {a : Origin} (y : Place) (skip : Skip) → SkipsTo job.limits (reach_of x) (reach_of y) skip
    → s ≡ style_at job.style job.limit n → a ≡ place_of x → IsGapLine job end x n (ending_line s a.name a.offset end (comes.PassedOver skip))
gap_line {end = end} y skip skips style at = record { y = y; skip = skip; skips = skips; is = line_same end (comes.PassedOver skip) style at }

pub rest_line : {job : Job} {end : Ending} {x : Place} {n : Counts} {s : Style} {a : Origin} {left : Option (List ℕ)} {drained : Drained}
    → IsLeft job.limits.bytes end x.left left (ahead_of x.window) drained
    → s ≡ style_at job.style job.limit n → a ≡ place_of x → IsRestLine job end x n (ending_line s a.name a.offset end (comes.NotRead drained.count))
rest_line {job = job} {end = end} {x = x} {n = n} {left = left} {drained = drained} l style at = record {
  rest = ahead_of x.window ++ l.more;
  left = left;
  is_read = l.is_read;
  ends = l.ends;
  is =
      line_same end (comes.NotRead drained.count) style at
      ∙ ap (λ (m : ℕ). ending_line (style_at job.style job.limit n) x.name (offset_of x.window) end (comes.NotRead m)) (sym l.len);
}

-- what is left of a document that says more
pub left_cut : {most : ℕ} (r : Option (List ℕ)) (x : List ℕ) (count : ℕ) → EndsWith most (ending.CutOff count) x → IsReadBehind (ending.CutOff count) r
    → IsLeft most (ending.CutOff count) r r x (record { count = count; failure = None })
left_cut {most} r x count ends behind = record {
  more = [];
  is_read = λ before read. subst (Consumes before r) (sym (append-nil x)) read;
  ends = subst (EndsWith most (ending.CutOff count)) (sym (append-nil x)) ends;
  len = ap length (append-nil x) ∙ ends.0;
  to_end = λ none. behind;
}

-- what is left after a length that is unsound
pub left_unsound : {most : ℕ} (r r' : Option (List ℕ)) (x : List ℕ) (len : ℤ) (drained : Drained) → EndsWith most (ending.Unsound len) x → ReadsRest r r' x drained
    → IsLeft most (ending.Unsound len) r r' x drained
left_unsound r r' x len drained ends l = record {
  more = l.more;
  is_read = l.is_read;
  ends = unsound_behind len x l.more ends;
  len = l.len;
  to_end = l.to_end;
}
