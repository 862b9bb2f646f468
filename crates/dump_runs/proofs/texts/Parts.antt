-- What is passed of an input of texts.
use Rattle.std.proofs.Common.{◌≡◌, ◌≤◌, ◌+◌, ℕ, List, [], ◌∷◌, ◌++◌, Option, ap, drop, inl, inr, length, length-take-le, refl, subst, sym, take, ◌∙◌}
use Rattle.std.proofs.lemmas.List.{take-append-drop, take-take}
use Rattle.std.specs.Io.KnownBytes.{Appends}
use Rattle.dump_io.specs.lines.Fronts.{AppendsFront, HasFront}
use Rattle.dump_io.specs.input.Reading.{ahead_of}
use Rattle.dump_io.specs.input.Between.{turn_after_document, turn_after_gap}
use Rattle.dump_io.specs.input.Places.{position_over}
use Rattle.dump_io.specs.input.Texts.{MayGoOn}
use Rattle.dump_io.specs.declared.input.turn.Turn.{Turn}
use Rattle.dump_commands.specs.Counting.{count_fault, count_said}
use Rattle.dump_commands.specs.declared.counts.Counts.{Counts}
use Rattle.dump_commands.specs.declared.state.kept.Kept.{Kept}
use Rattle.dump_runs.specs.Limits.{style_at}
use Rattle.dump_runs.specs.Plays.{Held, Played, given, reported}
use Rattle.dump_runs.specs.texts.Faults.{fault_line}
use Rattle.dump_runs.specs.texts.Reading.{PassesAhead}
use Rattle.dump_runs.specs.texts.Run.{Gives, IsFaultOf, IsWholeText, TellsTextFault, events_of, refused, said, style_of}
use Rattle.dump_runs.specs.texts.Steps.{HaltsSaid, HaltsText, PartAhead, PassesText, TellsNoText, line_of, point_of}
use Rattle.dump_runs.specs.declared.reading.TextJob.{TextJob}
use Rattle.dump_runs.specs.declared.texts.cursor.Cursor.{Cursor}
use Rattle.dump_runs.specs.declared.texts.cursor.NextText.{NextText}
use Rattle.dump_runs.specs.declared.texts.piece.Fault.{Fault}
use Rattle.dump_runs.specs.declared.texts.piece.Went.{Went}
use Rattle.dump_runs.specs.declared.texts.piece.Went.TheVariants as went
use Rattle.dump_runs.proofs.Plays.{holds, played_count, played_given, played_none, played_text}

pub front_of_len : (len : ℕ) (ahead : List ℕ) → HasFront ahead (take len ahead)
front_of_len len ahead = (drop len ahead, sym (take-append-drop len ahead))

-- the line of a fault in the front of what is ahead
abbrev pub tells_fault : (job : TextJob) (name : List ℕ) (y : Cursor) (n : Counts) (f : Fault) → f.len ≤ length (ahead_of y.window) → f.at ≤ f.len
    → TellsTextFault (style_of job (point_of job name y n)) (point_of job name y n) (take f.len (ahead_of y.window)) (line_of job name y n f)
tells_fault job name y n f fits within = record {
  at = f.at;
  within = subst (λ (l : ℕ). f.at ≤ l) (sym (length-take-le f.len (ahead_of y.window) fits)) within;
  reason = f.reason;
  told = ap (λ l. fault_line (style_at job.style job.limit n) name (position_over y.place l) f.reason) (sym (take-take f.at f.len (ahead_of y.window) within));
}

-- the part that these bytes begin with: a document, a text with a fault, or what is no whole text
module _ (job : TextJob) (name : List ℕ) (told : NextText) (y : Cursor) {n : Counts} {v : Turn} where
  abbrev pub document_ahead : (len : ℕ) (bytes : List ℕ) → IsWholeText y.turn (take len (ahead_of y.window)) → Gives job.limits (take len (ahead_of y.window)) bytes
      → v ≡ turn_after_document y.turn → PartAhead job name told y n went.Document v
  document_ahead len bytes whole gives next = record {
    text = take len (ahead_of y.window);
    says = said bytes;
    front = front_of_len len (ahead_of y.window);
    is = record { is_text = whole; is_written = gives; next = next };
  }

  module _ (f : Fault) (within : f.at ≤ f.len) (fits : f.len ≤ length (ahead_of y.window)) where
    abbrev pub refused_ahead : IsWholeText y.turn (take f.len (ahead_of y.window)) → IsFaultOf job.limits (take f.len (ahead_of y.window)) f.at f.reason
        → v ≡ turn_after_document y.turn → PartAhead job name told y n went.Refused v
    refused_ahead whole why next = record {
      text = take f.len (ahead_of y.window);
      says = refused (line_of job name y n f);
      front = front_of_len f.len (ahead_of y.window);
      is = record { is_text = whole; fault = tells_fault job name y n f fits within; why = why; next = next };
    }

    abbrev pub astray_ahead : MayGoOn (take f.len (ahead_of y.window)) → TellsNoText job.limits (ahead_of y.window) told f.len f.at f.reason
        → v ≡ turn_after_gap y.turn → PartAhead job name told y n went.Astray v
    astray_ahead goes why next = record {
      text = take f.len (ahead_of y.window);
      says = refused (line_of job name y n f);
      front = front_of_len f.len (ahead_of y.window);
      is = record {
        unended = goes;
        fault = tells_fault job name y n f fits within;
        why = subst (λ n. TellsNoText job.limits (ahead_of y.window) told n f.at f.reason) (sym (length-take-le f.len (ahead_of y.window) fits)) why;
        next = next;
      };
    }

-- it is passed
pub passes_ahead : {job : TextJob} {name : List ℕ} {told : NextText} {y z : Cursor} {old new : Held} {what : Went} {v : Turn} (len : ℕ) → len ≤ length (ahead_of y.window) → PassesAhead y z len
    → (part : PartAhead job name told y old.counts what v) → part.text ≡ take len (ahead_of y.window) → Played (events_of part.says) old new
    → PassesText job name told y (record z { turn = v }) old new what
passes_ahead {y = y} {z = z} len fits (window, ahead, place, offset, turn) part same played =
    let size : length part.text ≡ len = ap length same ∙ length-take-le len (ahead_of y.window) fits in
    record {
      window = window;
      part = part;
      ahead = sym (take-append-drop len (ahead_of y.window)) ∙ (let first = sym same in let rest = sym ahead in λ i. first i ++ rest i);
      place = place ∙ ap (position_over y.place) (sym same);
      offset = offset ∙ ap (λ m. y.window.offset + m) (sym size);
      played = played;
    }

-- nothing is played
pub halts_none : (job : TextJob) (name : List ℕ) (told : NextText) (y : Cursor) (old : Held) → HaltsText job name told y old old
halts_none job name told y old = inl (played_none refl)

module _ {d a w : Option (List ℕ)} {n : Counts} {k : Kept} where
  -- a document is written, and counted
  pub said_played : (bytes : List ℕ) {d' : Option (List ℕ)} {m : Counts} → Appends d d' bytes → m ≡ count_said n (length bytes) → Played (events_of (said bytes)) (holds d a w n k) (holds d' a w m k)
  said_played bytes {d' = d'} put counts = played_count (λ m. count_said m (length bytes)) counts (given bytes ∷ []) (played_given d d' w w n k k bytes put)

  -- or a front of it
  pub said_front : (bytes : List ℕ) {d' : Option (List ℕ)} → AppendsFront d d' bytes → HaltsSaid (said bytes) (holds d a w n k) (holds d' a w n k)
  said_front bytes {d' = d'} front = (given front.front ∷ [], played_given d d' w w n k k front.front front.put, inr (front.front, (front.behind, front.whole), refl))

  -- the line of a fault is told, and it is counted
  pub refused_played : (line : List ℕ) {w' : Option (List ℕ)} {m : Counts} → Appends w w' line → m ≡ count_fault n → Played (events_of (refused line)) (holds d a w n k) (holds d a w' m k)
  refused_played line {w' = w'} put counts = played_count count_fault counts (reported line ∷ []) (played_text d d w w' n k k line put)

  -- or a front of it
  pub refused_front : (line : List ℕ) {w' : Option (List ℕ)} → AppendsFront w w' line → HaltsSaid (refused line) (holds d a w n k) (holds d a w' n k)
  refused_front line {w' = w'} front = (reported front.front ∷ [], played_text d d w w' n k k front.front front.put, inr (front.front, (front.behind, front.whole), refl))
