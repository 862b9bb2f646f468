-- What a run over several inputs reads, writes and counts, and how it ends.
use Rattle.std.specs.Prelude.{◌≡◌, ◌⊎◌, ◌++◌, ◌∷◌, ℕ, List, [], Bool, false, Option, None, Some}
use Rattle.std.specs.Option.{option_map}
use Rattle.std.specs.Io.KnownBytes.{Appends, Keeps}
use Rattle.dump_io.specs.input.Done.{CutInput, cut_of, input_of}
use Rattle.dump_io.specs.lines.Failing.{IsCaused}
use Rattle.dump_io.specs.lines.Fronts.{AppendsFront}
use Rattle.dump_io.specs.declared.input.done.Done.{Done}
use Rattle.dump_io.specs.declared.input.done.Lack.{Lack}
use Rattle.dump_io.specs.declared.input.done.Lack.TheVariants as lack
use Rattle.dump_io.specs.declared.input.status.Status.{Status}
use Rattle.dump_commands.specs.Counting.{count_left, no_counts, plus, AreInRange}
use Rattle.dump_commands.specs.state.Gathered.{nothing, tabled}
use Rattle.dump_commands.specs.state.Forms.{firsts_of, knows, no_firsts, written_count}
use Rattle.dump_commands.specs.declared.counts.Counts.{Counts}
use Rattle.dump_commands.specs.declared.state.kept.Kept.{Kept}
use Rattle.dump_runs.specs.Asked.{asked_after}
use Rattle.dump_runs.specs.Plays.{Held, Written, held}
use Rattle.dump_runs.specs.Status.{IsFailureStatus, IsStatus, goes_on}
use Rattle.dump_runs.specs.Sums.{Sum, WritesAll, WritesAllFront, differs_by, line_of_input}
use Rattle.dump_runs.specs.dumps.Ends.{EndsRun}
use Rattle.dump_runs.specs.dumps.Halting.{Halts}
use Rattle.dump_runs.specs.texts.Run.{HaltsTexts, ReadsTexts}
use Rattle.dump_runs.specs.declared.batch.Totals.{Totals}
use Rattle.dump_runs.specs.declared.ends.Ended.{Ended}
use Rattle.dump_runs.specs.declared.reading.Reading.{Reading}
use Rattle.dump_runs.specs.declared.reading.Reading.TheVariants as reading

-- a run over an input of this name ends so, of which these bytes are known
abbrev pub EndsInput : Reading → List ℕ → (input : Option (List ℕ)) → (old new : Held) → Ended → Type 0
EndsInput (reading.Dumps job) name input old new ended = EndsRun job name input old new ended
EndsInput (reading.Texts job) name input old new ended = ReadsTexts job name input old new ended

-- or it fails
abbrev pub HaltsInput : Reading → List ℕ → (input : Option (List ℕ)) → (old new : Held) → Type 0
HaltsInput (reading.Dumps job) name input old new = Halts job name input old new
HaltsInput (reading.Texts job) name input old new = HaltsTexts job name input old new

-- the first input that isn't read to its end, where this one comes after the others, and may be read on or not if it wasn't
abbrev pub first_cut : Option CutInput → List ℕ → Option Bool → Option CutInput
first_cut (Some cut) name could = Some cut
first_cut None name could = option_map (input_of name) could

-- What came of inputs: what the writers hold, where it is known; what was counted; what is kept of documents; and the first input that wasn't
-- read to its end.
pub record State : Type 0 where
  pub out : Option (List ℕ)
  pub alone : Option (List ℕ)
  pub report : Option (List ℕ)
  pub counts : Counts
  pub kept : Kept
  pub cut : Option CutInput

-- the same of the code
abbrev pub state_of : Written → Totals → State
state_of written totals = record { out = written.out; alone = written.alone; report = written.report; counts = totals.counts; kept = totals.tally.kept; cut = option_map cut_of totals.cut }

-- nothing came of anything: the writers hold this
abbrev pub start_of : Written → Kept → State
start_of written kept = record { out = written.out; alone = written.alone; report = written.report; counts = no_counts; kept = kept; cut = None }

-- nothing is counted of the next input
abbrev pub next_of : State → Held
next_of state = record { out = state.out; alone = state.alone; report = state.report; counts = no_counts; kept = state.kept }

-- whether the forms of documents are kept where they first came, and of how many paths elements are counted at most
abbrev pub repeats_of : Reading → Bool
repeats_of (reading.Dumps job) = job.repeats
repeats_of (reading.Texts job) = false

abbrev pub paths_of : Reading → ℕ
paths_of (reading.Dumps job) = job.paths
paths_of (reading.Texts job) = 0

-- no document was written, no digest is known, and nothing was gathered
pub record KeepsNothing (r : Reading) (kept : Kept) : Type 0 where
  pub none : written_count kept ≡ 0
  pub unknown : (d : List ℕ) → knows kept d ≡ false
  pub firsts : firsts_of kept ≡ no_firsts (repeats_of r)
  pub ungathered : tabled kept ≡ nothing (paths_of r)

-- An input of which these bytes are known is opened, and run over, as far as it is asked for. This came of the inputs before it.
pub record IsRun (r : Reading) (name : List ℕ) (input : Option (List ℕ)) (before : State) (came : Held) (could : Option Bool) : Type 0 where
  pub ended : Ended
  pub ends : EndsInput (asked_after r before.counts) name input (next_of before) came ended
  pub cut : could ≡ goes_on ended

-- An input isn't opened; one whose bytes are known always is. Nothing is written, and it counts as one that isn't read to its end, with no
-- bytes left.
pub record IsNotOpened (input : Option (List ℕ)) (before : State) (came : Held) (could : Option Bool) : Type 0 where
  pub unknown : input ≡ None
  pub is : came ≡ record { out = before.out; alone = before.alone; report = before.report; counts = count_left no_counts 0; kept = before.kept }
  pub cut : could ≡ Some false

-- one of both
abbrev pub IsInput : Reading → List ℕ → (input : Option (List ℕ)) → (before : State) → (came : Held) → Option Bool → Type 0
IsInput r name input before came could = IsRun r name input before came could ⊎ IsNotOpened input before came could

-- What comes of one input more, of which these bytes are known: what was counted of it is put to the rest, and its line is written.
pub record CountsAnother (r : Reading) (input : Option (List ℕ)) (name : List ℕ) (old new : State) : Type 0 where
  pub came : Held
  pub could : Option Bool
  pub is : IsInput r name input old came could
  pub out : new.out ≡ came.out
  pub alone : new.alone ≡ came.alone
  pub told : Appends came.report new.report (line_of_input r name came.counts)
  pub kept : new.kept ≡ came.kept
  pub is_counted : new.counts ≡ plus old.counts came.counts
  pub cut : new.cut ≡ first_cut old.cut name could

-- what comes of the inputs of these names, one after the other, where the bytes of each are known or not
abbrev pub RunsOver : Reading → (bytes_of : List ℕ → Option (List ℕ)) → List (List ℕ) → State → State → Type 0
RunsOver r bytes_of [] old new = new ≡ old
RunsOver r bytes_of (name ∷ names) old new = (between : State) × CountsAnother r (bytes_of name) name old between × RunsOver r bytes_of names between new

-- what came of all of them
abbrev pub sum_in : State → Sum
sum_in state = record { cut = state.cut; counts = state.counts; kept = state.kept }

-- the inputs of these names were run over, from this state on, and what is told of all was written after what they gave
pub record RunsAll (r : Reading) (bytes_of : List ℕ → Option (List ℕ)) (names : List (List ℕ)) (first last : State) (written : Written) : Type 0 where
  pub runs : RunsOver r bytes_of names first last
  pub out : Keeps last.out written.out
  pub alone : Keeps last.alone written.alone
  pub report : WritesAll r bytes_of (sum_in last) last.report written.report

-- this is counted as well; nothing where a sum would be over the range of a count
abbrev pub CountsMore : (counts_old counts counts_new : Counts) → Type 0
CountsMore counts_old counts counts_new = (counts_new ≡ plus counts_old counts) ⊎ ((¬ AreInRange (plus counts_old counts)) × (counts_new ≡ counts_old))

-- the run over an input fails
pub record HaltsInside (r : Reading) (name : List ℕ) (input : Option (List ℕ)) (before : State) (written : Written) (counts : Counts) : Type 0 where
  pub came : Held
  pub halts : HaltsInput (asked_after r before.counts) name input (next_of before) came
  pub out : written.out ≡ came.out
  pub alone : written.alone ≡ came.alone
  pub report : written.report ≡ came.report
  pub is_counted : CountsMore before.counts came.counts counts

-- the run over it ended, or it wasn't opened, and a front of its line is written
pub record HaltsAfter (r : Reading) (name : List ℕ) (input : Option (List ℕ)) (before : State) (written : Written) (counts : Counts) : Type 0 where
  pub came : Held
  pub could : Option Bool
  pub is : IsInput r name input before came could
  pub out : written.out ≡ came.out
  pub alone : written.alone ≡ came.alone
  pub report : AppendsFront came.report written.report (line_of_input r name came.counts)
  pub is_counted : CountsMore before.counts came.counts counts

-- an input isn't done with
abbrev pub HaltsWithin : Reading → List ℕ → (input : Option (List ℕ)) → (before : State) → Written → Counts → Type 0
HaltsWithin r name input before written counts = HaltsInside r name input before written counts ⊎ HaltsAfter r name input before written counts

-- What is written of the first of these inputs, which isn't done with. Where none is left, a front of what is told of all; then it is known whether
-- documents of two that are compared differ.
abbrev pub HaltsBefore : Reading → (bytes_of : List ℕ → Option (List ℕ)) → List (List ℕ) → State → Written → Counts → (differs : Bool) → Type 0
HaltsBefore r bytes_of [] last written counts differs =
    Keeps last.out written.out × Keeps last.alone written.alone × WritesAllFront r bytes_of (sum_in last) last.report written.report × (counts ≡ last.counts)
    × (differs ≡ differs_by r (sum_in last))
HaltsBefore r bytes_of (name ∷ names) last written counts differs = HaltsWithin r name (bytes_of name) last written counts × (differs ≡ false)

-- Some of the inputs of these names were run over, from this state on, in order; and then a failure came, in the next, or after all.
pub record RunsFront (r : Reading) (bytes_of : List ℕ → Option (List ℕ)) (names : List (List ℕ)) (first : State) (written : Written) (counts : Counts) (differs : Bool) : Type 0 where
  pub passed : List (List ℕ)
  pub others : List (List ℕ)
  pub in_order : names ≡ passed ++ others
  pub last : State
  pub runs : RunsOver r bytes_of passed first last
  pub halts : HaltsBefore r bytes_of others last written counts differs

-- how a run over the inputs of these names ends from this state on
abbrev pub EndsAll : Reading → (bytes_of : List ℕ → Option (List ℕ)) → List (List ℕ) → State → Written → Option Lack → Status → Type 0
EndsAll r bytes_of names first written None ended =
    (last : State) × RunsAll r bytes_of names first last written × (last.cut ≡ None) × IsStatus r last.counts (differs_by r (sum_in last)) ended
EndsAll r bytes_of names first written (Some (lack.Cut cut)) ended =
    (last : State) × RunsAll r bytes_of names first last written × (last.cut ≡ Some (cut_of cut)) × IsStatus r last.counts (differs_by r (sum_in last)) ended
EndsAll r bytes_of names first written (Some (lack.Failed failure)) ended =
    (counts : Counts) × (differs : Bool) × RunsFront r bytes_of names first written counts differs × IsFailureStatus r counts differs failure ended
    × IsCaused written.has_failed failure

-- How a run over the inputs of these names ends, where nothing was kept before. Nothing lacks where each was read to its end. A failure
-- gives the status, but for a pipe that has no reader; a failure of writing is told only where a write failed.
pub record IsDone (r : Reading) (bytes_of : List ℕ → Option (List ℕ)) (names : List (List ℕ)) (old new : Written) (done : Done) : Type 0 where
  pub kept : Kept
  pub nothing : KeepsNothing r kept
  pub ends : EndsAll r bytes_of names (start_of old kept) new done.lack done.status

-- What the code tells of one input. No public contract cites what follows.

-- the input at hand is run over, and put to the rest
pub record CountsRun (r : Reading) (name : List ℕ) (input : Option (List ℕ)) (before : State) (written : Written) (totals : Totals) (ended : Ended) : Type 0 where
  pub ends : EndsInput (asked_after r before.counts) name input (next_of before) (held written totals.tally) ended
  pub is_counted : totals.counts ≡ plus before.counts totals.tally.counts
  pub cut : option_map cut_of totals.cut ≡ first_cut before.cut name (goes_on ended)

-- the same, where it may not be opened
pub record CountsInput (r : Reading) (name : List ℕ) (input : Option (List ℕ)) (before : State) (written : Written) (totals : Totals) : Type 0 where
  pub could : Option Bool
  pub is : IsInput r name input before (held written totals.tally) could
  pub is_counted : totals.counts ≡ plus before.counts totals.tally.counts
  pub cut : option_map cut_of totals.cut ≡ first_cut before.cut name could
