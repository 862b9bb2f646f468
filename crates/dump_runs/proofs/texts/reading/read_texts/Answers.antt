use Rattle.std.proofs.Common.{List, None, Option, Some, IfSome, [], inl, refl, ℕ}
use Rattle.dump_io.specs.lines.Fronts.{HasFront}
use Rattle.dump_io.specs.declared.lines.failure.ReadFailure.{ReadFailure}
use Rattle.dump_runs.specs.Plays.{Held}
use Rattle.dump_runs.specs.texts.Run.{EndsTexts, HaltsTexts, TextPart, bytes_of_texts}
use Rattle.dump_runs.specs.texts.Steps.{PassesTexts}
use Rattle.dump_runs.specs.declared.ends.Ended.TheVariants as how
use Rattle.dump_runs.specs.declared.reading.TextJob.{TextJob}
use Rattle.dump_runs.proofs.Plays.{played_none, played_on}
use Rattle.dump_runs.proofs.texts.reading.read_texts.Goals as goal

-- the parts before a failure are in front
in_front : (f : ReadFailure) (ps : List TextPart) (left input : Option (List ℕ)) → IfSome input (EndsTexts (how.Failed f) ps left) → IfSome input (λ s. HasFront s (bytes_of_texts ps))
in_front f ps left None ends = tt
in_front f ps left (Some s) ends = ends.0

halts_failed : {job : TextJob} {name : List ℕ} {input left : Option (List ℕ)} {old new : Held} {f : ReadFailure}
    → PassesTexts job name input left old new (how.Failed f) → HaltsTexts job name input old new
halts_failed {input = input} {left = left} {f = f} q = record {
  ps = q.ps;
  parts = q.parts;
  in_front = in_front f q.ps left input q.ends;
  es = [];
  next = inl refl;
  played = played_on q.played (played_none refl);
}

pub returns-then-not-has_failed-clause-halts : goal.returns-then-not-has_failed-clause-halts
returns-then-not-has_failed-clause-halts g c = halts_failed (rw c.in-Ok-Failed.field-0-is at c.in-Ok-Failed.ensures.passed)

pub returns-in_default-clause-halts : goal.returns-in_default-clause-halts
returns-in_default-clause-halts g c = halts_failed (rw c.in-Ok-Failed.field-0-is at c.in-Ok-Failed.ensures.passed)
