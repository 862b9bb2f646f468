-- How what came of inputs grows by one more.
use Rattle.std.proofs.Common.{◌≡◌, ◌+◌, ◌<◌, ◌≤◌, ℕ, List, [], ◌∷◌, ◌++◌, Bool, false, IsSomeAnd, MatchOption, None, Option, Some, option_map, Result, Ok, Err, IfErr, IfOk, OnErr, add-zero, drop, get_or, inl, inr, length, map, refl, sym, subst, ap, ◌∙◌, take}
use Rattle.std.proofs.lemmas.List.{drop_all, drop_more, map-append, map_more, take-append-drop, take_all}
use Rattle.std.specs.Io.KnownBytes.{Keeps}
use Rattle.dump_io.specs.lines.Failing.{IsCaused}
use Rattle.dump_runs.specs.Asked.{asked_after}
use Rattle.dump_runs.specs.Batch.{CountsAnother, CountsMore, EndsAll, EndsInput, HaltsInput, RunsAll, RunsFront, RunsOver, State, HaltsBefore, HaltsWithin, next_of, start_of, state_of, sum_in}
use Rattle.dump_runs.specs.Plays.{Held, Written, held}
use Rattle.dump_runs.specs.declared.writers.Tally.{Tally}
use Rattle.dump_runs.proofs.dumps.Ending.{halts_first}
use Rattle.dump_runs.proofs.texts.Passing.{texts_first}
use Rattle.dump_io.specs.input.Done.{cut_of}
use Rattle.dump_commands.specs.Counting.{no_counts, plus}
use Rattle.dump_runs.specs.Status.{IsFailureStatus, IsStatus, goes_on}
use Rattle.dump_runs.specs.Summed.{IsKnown}
use Rattle.dump_runs.specs.Sums.{WritesAllFront, differs_by, line_of_input}
use Rattle.dump_io.specs.declared.input.done.Cut.{Cut}
use Rattle.dump_runs.specs.declared.ends.Ended.{Ended}
use Rattle.dump_runs.specs.declared.reading.Reading.{Reading}
use Rattle.dump_runs.specs.declared.reading.Reading.TheVariants as reading
use Rattle.dump_io.specs.declared.input.done.Lack.{Lack}
use Rattle.dump_io.specs.declared.input.done.Lack.TheVariants as lack
use Rattle.dump_runs.specs.declared.batch.Totals.{Totals}
use Rattle.dump_commands.specs.declared.counts.Counts.{Counts}
use Rattle.dump_io.specs.declared.lines.failure.Failure.{Failure}
use Rattle.dump_io.specs.declared.lines.failure.Failure.TheVariants.{Memory}
use Rattle.dump_io.specs.declared.input.status.Status.{Status}
use Rattle.dump_io.proofs.Face.{front_none}

module _ (asked : Reading) (bytes_of : List ℕ → Option (List ℕ)) where
  -- one more input is run over
  pub runs_more : (names : List (List ℕ)) (name : List ℕ) (first between last : State) → RunsOver asked bytes_of names first between → CountsAnother asked (bytes_of name) name between last
      → RunsOver asked bytes_of (names ++ name ∷ []) first last
  runs_more [] name first between last same comes = (last, subst (λ (s : State). CountsAnother asked (bytes_of name) name s last) same comes, refl)
  runs_more (x ∷ names) name first between last (next, came, runs) comes = (next, came, runs_more names name next between last runs comes)

  -- the same of the first of these
  pub runs_next : {A : Type 0} (f : A → List ℕ) (names : List A) (i : ℕ) (d : A) (first between last : State) → i < length names → RunsOver asked bytes_of (map f (take i names)) first between
      → CountsAnother asked (bytes_of (f (get_or names i d))) (f (get_or names i d)) between last → RunsOver asked bytes_of (map f (take (i + 1) names)) first last
  runs_next f names i d first between last there runs comes =
      subst (λ (xs : List (List ℕ)). RunsOver asked bytes_of xs first last) (sym (map_more f names i d there))
      (runs_more (map f (take i names)) (f (get_or names i d)) first between last runs comes)

  -- all of them are the first of these
  pub runs_whole : {A : Type 0} (f : A → List ℕ) (names : List A) (i : ℕ) (first last : State) → length names ≤ i → RunsOver asked bytes_of (map f (take i names)) first last
      → RunsOver asked bytes_of (map f names) first last
  runs_whole f names i first last all runs = subst (λ (xs : List (List ℕ)). RunsOver asked bytes_of xs first last) (ap (map f) (take_all i names all)) runs

  -- a failure comes after the first of these
  pub runs_front : {A : Type 0} (f : A → List ℕ) (names : List A) (i : ℕ) (first last : State) (w : Written) (n : Counts) (d : Bool) → RunsOver asked bytes_of (map f (take i names)) first last
      → HaltsBefore asked bytes_of (map f (drop i names)) last w n d → RunsFront asked bytes_of (map f names) first w n d
  runs_front f names i first last w n d runs halts = record {
    passed = map f (take i names);
    others = map f (drop i names);
    in_order = ap (map f) (sym (take-append-drop i names)) ∙ map-append f (take i names) (drop i names);
    last = last;
    runs = runs;
    halts = halts;
  }

  -- in the next one
  pub halts_next : {A : Type 0} (f : A → List ℕ) (names : List A) (i : ℕ) (x : A) (last : State) (w : Written) (n : Counts) (d : Bool) → i < length names
      → HaltsWithin asked (f (get_or names i x)) (bytes_of (f (get_or names i x))) last w n × (d ≡ false) → HaltsBefore asked bytes_of (map f (drop i names)) last w n d
  halts_next f names i x last w n d there stops =
      subst (λ xs. HaltsBefore asked bytes_of (map f xs) last w n d) (sym (drop_more names i x there)) stops

  -- after all of them
  pub halts_behind : {A : Type 0} (f : A → List ℕ) (names : List A) (i : ℕ) (last : State) (w : Written) → length names ≤ i
      → Keeps last.out w.out × Keeps last.alone w.alone × WritesAllFront asked bytes_of (sum_in last) last.report w.report
      → HaltsBefore asked bytes_of (map f (drop i names)) last w last.counts (differs_by asked (sum_in last))
  halts_behind f names i last w all (kept, apart, front) =
      subst (λ xs. HaltsBefore asked bytes_of (map f xs) last w last.counts (differs_by asked (sum_in last))) (sym (drop_all i names all)) (kept, apart, front, refl, refl)

-- nothing more is counted
pub plus_none : (n : Counts) → plus n no_counts ≡ n
plus_none n = λ i. record {
  documents = add-zero n.documents i;
  bytes = add-zero n.bytes i;
  breached = add-zero n.breached i;
  damaged = add-zero n.damaged i;
  too_deep = add-zero n.too_deep i;
  alone = add-zero n.alone i;
  passed_over = add-zero n.passed_over i;
  regions = add-zero n.regions i;
  lost = add-zero n.lost i;
  not_read = add-zero n.not_read i;
  files = add-zero n.files i;
  findings = add-zero n.findings i;
}

-- a run over an input fails, or was whole, and its counts can't be put to the rest; or they are, and its line isn't written
pub halts_run : (asked : Reading) (name : List ℕ) (input : Option (List ℕ)) (before : State) (w : Written) (t : Tally) (m : Counts) (r : Result Ended Failure)
    → IfOk r (EndsInput (asked_after asked before.counts) name input (next_of before) (held w t))
    → OnErr r (HaltsInput (asked_after asked before.counts) name input (next_of before) (held w t)) → CountsMore before.counts t.counts m → HaltsWithin asked name input before w m
halts_run asked name input before w t m (Ok ended) ends halts counted = inr (record {
  came = held w t;
  could = goes_on ended;
  is = inl (record { ended = ended; ends = ends; cut = refl });
  out = refl;
  alone = refl;
  report = front_none w.report (line_of_input asked name t.counts);
  is_counted = counted;
})
halts_run asked name input before w t m (Err e) ends halts counted = inl (record { came = held w t; halts = halts; out = refl; alone = refl; report = refl; is_counted = counted })

-- nothing is read of it
nothing_halts : (asked : Reading) (name : List ℕ) (input : Option (List ℕ)) (old : Held) → HaltsInput asked name input old old
nothing_halts (reading.Dumps job) name input old = halts_first
nothing_halts (reading.Texts job) name input old = texts_first job name input old

-- nothing comes of it
pub halts_unread : (asked : Reading) (name : List ℕ) (input : Option (List ℕ)) (before : State) (w : Written) (m : Counts) → w.out ≡ before.out
    → w.alone ≡ before.alone → w.report ≡ before.report → m ≡ before.counts
    → HaltsWithin asked name input before w m
halts_unread asked name input before w m out alone report same = inl (record {
  came = next_of before;
  halts = nothing_halts (asked_after asked before.counts) name input (next_of before);
  out = out;
  alone = alone;
  report = report;
  is_counted = inl (same ∙ sym (plus_none before.counts));
})

pub if_oks : {A E : Type 0} (r : Result A E) (P Q R : A → Type 0) → ((x : A) → P x → Q x → R x) → IfOk r P → IfOk r Q → IfOk r R
if_oks (Ok x) P Q R is p q = is x p q
if_oks (Err e) P Q R is p q = tt

-- of each failure
pub if_any : {A E : Type 0} (r : Result A E) (P : E → Type 0) → ((e : E) → P e) → IfErr r P
if_any (Ok x) P is = tt
if_any (Err e) P is = is e

-- of a failure of which both are so
pub if_errs : {A E : Type 0} (r : Result A E) (P : Type 0) (Q R : E → Type 0) → ((e : E) → P → Q e → R e) → OnErr r P → IfErr r Q → IfErr r R
if_errs (Ok x) P Q R is p q = tt
if_errs (Err e) P Q R is p q = is e p q

-- what lacks where an input wasn't read to its end
pub lack_of : (cut : Option Cut) (l : Option Lack) → MatchOption cut (l ≡ None) (λ x. IsSomeAnd l (λ y. y ≡ lack.Cut x)) → l ≡ option_map lack.Cut cut
lack_of None l none = none
lack_of (Some x) None one = absurd one
lack_of (Some x) (Some y) one = ap Some one

-- what is told of a failure leaves it to be one of memory
pub still_known : (is known : Bool) (failure told : Failure) → (failure ≡ Memory → told ≡ Memory) → IsKnown is known failure → IsKnown is known told
still_known is known failure told same (inl short) = inl (same short)
still_known is known failure told same (inr so) = inr so

-- the status is the same where it is known whether documents differ, and where memory ran out
status_known : (asked : Reading) (n : Counts) (is known : Bool) (failure : Failure) (ended : Status) → IsKnown is known failure → IsFailureStatus asked n known failure ended
    → IsFailureStatus asked n is failure ended
status_known asked n is known failure ended (inl short) status =
    subst (λ (f : Failure). IsFailureStatus asked n is f ended) (sym short) (subst (λ (f : Failure). IsFailureStatus asked n known f ended) short status)
status_known asked n is known failure ended (inr same) status = subst (λ (d : Bool). IsFailureStatus asked n d failure ended) same status

module _ (old : Written) (totals : Totals) where
  -- nothing was counted before
  start : totals.counts ≡ no_counts → totals.cut ≡ None → state_of old totals ≡ start_of old totals.tally.kept
  start counts cut = λ i. record { out = old.out; alone = old.alone; report = old.report; counts = counts i; kept = totals.tally.kept; cut = option_map cut_of (cut i) }

module _ {asked : Reading} {bytes_of : List ℕ → Option (List ℕ)} {names : List (List ℕ)} (old : Written) (totals : Totals) where
  -- all inputs were run over
  module _ {last : State} {w : Written} where
    pub ends_whole : (cut : Option Cut) (ended : Status) → totals.counts ≡ no_counts → totals.cut ≡ None → RunsAll asked bytes_of names (state_of old totals) last w
        → last.cut ≡ option_map cut_of cut → IsStatus asked last.counts (differs_by asked (sum_in last)) ended
        → EndsAll asked bytes_of names (start_of old totals.tally.kept) w (option_map lack.Cut cut) ended
    ends_whole None ended none uncut runs same status = (last, subst (λ (s : State). RunsAll asked bytes_of names s last w) (start old totals none uncut) runs, same, status)
    ends_whole (Some x) ended none uncut runs same status = (last, subst (λ (s : State). RunsAll asked bytes_of names s last w) (start old totals none uncut) runs, same, status)

  -- a failure came
  module _ {w : Written} {n : Counts} where
    pub ends_front : (known : Bool) (failure : Failure) (ended : Status) → totals.counts ≡ no_counts → totals.cut ≡ None
        → (is : Bool) × RunsFront asked bytes_of names (state_of old totals) w n is × IsKnown is known failure → IsFailureStatus asked n known failure ended
        → IsCaused w.has_failed failure → EndsAll asked bytes_of names (start_of old totals.tally.kept) w (Some (lack.Failed failure)) ended
    ends_front known failure ended none uncut (is, front, so) status caused =
        (n, is, subst (λ (s : State). RunsFront asked bytes_of names s w n is) (start old totals none uncut) front, status_known asked n is known failure ended so status, caused)
