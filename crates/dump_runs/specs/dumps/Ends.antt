-- How a run over an input ends.
use Rattle.std.specs.Prelude.{◌≡◌, ℕ, ◌+◌, List, [], ◌∷◌, Bool, true, false, Option, None, Some, IsNone, length}
use Rattle.std.specs.Io.KnownBytes.{IsAtEnd}
use Rattle.dump_io.specs.input.Cut.{EndsWith}
use Rattle.dump_io.specs.input.Endings.{ending_line}
use Rattle.dump_io.specs.input.InFront.{IsAllInFront}
use Rattle.dump_io.specs.lines.Origins.{Origin}
use Rattle.dump_io.specs.declared.input.ending.Ending.{Ending}
use Rattle.dump_io.specs.declared.input.rest.Rest.TheVariants as comes
use Rattle.dump_io.specs.declared.lines.style.Style.{Style}
use Rattle.dump_commands.specs.Counting.{count_left, count_rest}
use Rattle.dump_commands.specs.declared.job.Job.{Job}
use Rattle.dump_runs.specs.Plays.{Event, Held, Played, counted, reported}
use Rattle.dump_runs.specs.Status.{FailsToRead}
use Rattle.dump_runs.specs.declared.ends.Ended.{Ended}
use Rattle.dump_runs.specs.declared.ends.Ended.TheVariants as how
use Rattle.dump_runs.specs.dumps.Portion.{IsChosen, IsEnough}
use Rattle.dump_runs.specs.dumps.Run.{Passed, after_all, bytes_of_parts, start_of, style_here}

-- What the rest of an input is: nothing, at its end; or bytes that no document begins with, where none are passed over. Unless reading
-- failed, they are all that was left. Of a run that ends early anything may be left.
abbrev pub EndsAs : Job → (early : Bool) → Option Ending → Ended → (rest : List ℕ) → (left : Option (List ℕ)) → Type 0
EndsAs job true end ended rest left = IsNone end × (ended ≡ how.Whole)
EndsAs job false None how.Whole rest left = (rest ≡ []) × IsAtEnd left
EndsAs job false None how.Cut rest left = ⊥
EndsAs job false None (how.Failed failure) rest left = Unit {0}
EndsAs job false (Some end) how.Whole rest left = ⊥
EndsAs job false (Some end) how.Cut rest left = EndsWith job.limits.bytes end rest × (job.resync ≡ false) × IsAtEnd left
EndsAs job false (Some end) (how.Failed failure) rest left = EndsWith job.limits.bytes end rest × (job.resync ≡ false)

-- reading failed after this number of bytes, if it did
abbrev pub FailsAfter : Ended → ℕ → Type 0
FailsAfter (how.Failed failure) count = failure.at ≡ count
FailsAfter _ count = Unit {0}

-- the line of the rest is written, which has this number of bytes and no document begins with, and it is counted
abbrev pub events_of_rest : Style → Origin → Ending → ℕ → List Event
events_of_rest style at end count = reported (ending_line style at.name at.offset end (comes.NotRead count)) ∷ counted (λ n. count_rest n count) ∷ []

-- What the rest gives, which begins there. Where reading failed, it is counted as well.
abbrev pub last_events : Style → Origin → Option Ending → Ended → ℕ → List Event
last_events style at (Some end) ended count = events_of_rest style at end count
last_events style at None (how.Failed failure) count = counted (λ n. count_left n count) ∷ []
last_events style at None ended count = []

-- How a run over the documents of an input that are asked for ends: parts were passed; then a rest was read, and where it isn't empty, it is
-- counted, and why no document begins there is told. Where reading failed, it failed after the rest. Unless it did, all before the documents
-- that are asked for is passed over. If the run ends before the input does, then with the last of them.
pub record EndsRun (job : Job) (name : List ℕ) (input : Option (List ℕ)) (old new : Held) (ended : Ended) : Type 0 where
  pub rest : List ℕ
  pub left : Option (List ℕ)
  pub between : Held
  pub passed : Passed job name input left rest old between
  pub front : List ℕ
  pub chosen : IsChosen job.portion job.limits.bytes input front passed.ps
  pub early : Bool
  pub end : Option Ending
  pub ends : EndsAs job early end ended rest left
  pub fails : FailsAfter ended (length (bytes_of_parts passed.ps) + length rest)
  pub last :
      Played (last_events (style_here job (after_all job (start_of name old) passed.ps)) (after_all job (start_of name old) passed.ps).at end ended (length rest)) between new
  pub kept : new.kept ≡ between.kept
  pub to_front : ¬ FailsToRead ended → IsAllInFront job.portion job.limits.bytes input front
  pub to_last : early ≡ true → IsEnough job.portion passed.ps
