-- How what was passed grows by one more part.
use Rattle.std.proofs.Common.{◌≡◌, ℕ, ◌+◌, List, [], ◌∷◌, ◌++◌, false, Option, None, Some, add-zero, add_assoc, ap, append-nil, append_assoc, drop, fold, length, length-append, refl, subst, sym, zero-add, ◌∙◌}
use Rattle.std.proofs.Math.Seq.{drop-append_seam}
use Rattle.std.proofs.lemmas.Grind.{flat_map-append, fold-append}
use Rattle.std.specs.Io.KnownBytes.{Consumes}
use Rattle.dump_io.specs.input.Reading.{ahead_of, offset_of}
use Rattle.dump_io.proofs.Face.{read_behind}
use Rattle.dump_commands.specs.declared.job.Job.{Job}
use Rattle.dump_runs.specs.Plays.{Event, Held, Played, count_event}
use Rattle.dump_runs.specs.dumps.Run.{AreParts, IsPart, Part, Passed, Point, after, after_all, bytes_of_part, bytes_of_parts, events_of, events_of_parts, from, memory_of, skipped, start_of}
use Rattle.dump_runs.specs.dumps.Steps.{Passes, Place, point_of}
use Rattle.dump_io.specs.input.InFront.{HasPassedFront}
use Rattle.raw_resync.specs.Seeking.{no_work}
use Rattle.dump_runs.proofs.Plays.{played_none, played_on}

module _ (job : Job) where
  pub parts_more : (input : Option (List ℕ)) (here : Point) (ps : List Part) (p : Part) → AreParts job input here ps
      → IsPart job (from (after_all job here ps).at.offset input) (after_all job here ps) p → AreParts job input here (ps ++ p ∷ [])
  parts_more input here [] p are is = (is, tt)
  parts_more input here (x ∷ ps) p (first, others) is = (first, parts_more input (after job here x) ps p others is)

  pub events_more : (here : Point) (ps : List Part) (p : Part) → events_of_parts job here (ps ++ p ∷ []) ≡ events_of_parts job here ps ++ events_of job (after_all job here ps) p
  events_more here [] p = append-nil (events_of job here p)
  events_more here (x ∷ ps) p =
      let next = after job here x in
      ap (λ (es : List Event). events_of job here x ++ es) (events_more next ps p)
      ∙ sym (append_assoc (events_of job here x) (events_of_parts job next ps) (events_of job (after_all job next ps) p))

  offset_behind : (here : Point) (ps : List Part) → (after_all job here ps).at.offset ≡ here.at.offset + length (bytes_of_parts ps)
  offset_behind here [] = sym (add-zero here.at.offset)
  offset_behind here (p ∷ ps) =
      let one = length (bytes_of_part p) in
      let others = length (bytes_of_parts ps) in
      let rest : (after_all job here (p ∷ ps)).at.offset ≡ (here.at.offset + one) + others = offset_behind (after job here p) ps in
      rest ∙ add_assoc here.at.offset one others ∙ ap (λ (n : ℕ). here.at.offset + n) (sym (length-append (bytes_of_part p) (bytes_of_parts ps)))

  -- parts end where their bytes do
  pub offset_of_parts : (name : List ℕ) (old : Held) (ps : List Part) → (after_all job (start_of name old) ps).at.offset ≡ length (bytes_of_parts ps)
  offset_of_parts name old ps = offset_behind (start_of name old) ps ∙ zero-add (length (bytes_of_parts ps))

  counts_behind : (here : Point) (ps : List Part) → (after_all job here ps).counts ≡ fold count_event here.counts (events_of_parts job here ps)
  counts_behind here [] = refl
  counts_behind here (p ∷ ps) =
      let next = after job here p in
      let rest : (after_all job here (p ∷ ps)).counts ≡ fold count_event next.counts (events_of_parts job next ps) = counts_behind next ps in
      rest ∙ sym (fold-append count_event here.counts (events_of job here p) (events_of_parts job next ps))

  pub name_behind : (here : Point) (ps : List Part) → (after_all job here ps).at.name ≡ here.at.name
  name_behind here [] = refl
  name_behind here (p ∷ ps) = name_behind (after job here p) ps

-- what is counted of parts that were passed is what they give
pub counts_passed : {job : Job} {name : List ℕ} {input left : Option (List ℕ)} {rest : List ℕ} {old new : Held} (h : Passed job name input left rest old new)
    → new.counts ≡ (after_all job (start_of name old) h.ps).counts
counts_passed {job = job} {name = name} {old = old} h = h.played.counts ∙ sym (counts_behind job (start_of name old) h.ps)

-- what is left of the input after these bytes
pub read_from : (bytes x : List ℕ) (r r' : Option (List ℕ)) → Consumes r r' (bytes ++ x) → Consumes (from (length bytes) r) r' x
read_from bytes x None r' read = tt
read_from bytes x (Some s) None read = absurd read
read_from bytes x (Some s) (Some rest) read = ap (drop (length bytes)) (read ∙ append_assoc bytes x rest) ∙ drop-append_seam bytes (x ++ rest)

pub one_more : (ps : List Part) (p : Part) → bytes_of_parts ps ++ bytes_of_part p ≡ bytes_of_parts (ps ++ p ∷ [])
one_more ps p = sym (flat_map-append bytes_of_part ps (p ∷ []) ∙ ap (λ (xs : List ℕ). bytes_of_parts ps ++ xs) (append-nil (bytes_of_part p)))

-- what the loop keeps: parts were passed, and the next one begins after them
pub record HasPassed (job : Job) (name : List ℕ) (input : Option (List ℕ)) (x : Place) (old new : Held) : Type 0 where
  pub passed : Passed job name input x.left (ahead_of x.window) old new
  pub to : point_of x new ≡ after_all job (start_of name old) passed.ps

-- bytes in front of the documents that are asked for are passed
module _ {job : Job} {name : List ℕ} {input : Option (List ℕ)} {front : List ℕ} {y : Place} {h : Held} where
  abbrev pub has_front : y.name ≡ name → y.work ≡ no_work → y.broken ≡ false → HasPassedFront front input y.left y.window → HasPassed job name input y h h
  has_front named worked joined has =
      let at : offset_of y.window ≡ 0 + length front = has.offset ∙ sym (zero-add (length front)) in
      record {
        passed = record {
          ps = skipped front ∷ [];
          parts = (tt, tt);
          is_read = subst (λ (b : List ℕ). Consumes input y.left (b ++ ahead_of y.window)) (sym (append-nil front)) has.is_read;
          played = played_none refl;
          kept = refl;
        };
        to = λ i. record { at = record { name = named i; offset = at i }; work = worked i; broken = joined i; counts = h.counts; memory = memory_of h.kept };
      }

-- one more part is passed
module _ {job : Job} {name : List ℕ} {input : Option (List ℕ)} {x y : Place} {old mid new : Held} where
  abbrev pub has_more : (p : Part) → HasPassed job name input x old mid → Passes job p x y mid new → HasPassed job name input y old new
  has_more p h s =
      let ps = h.passed.ps in
      let start = start_of name old in
      let bytes = bytes_of_parts ps in
      let here = after_all job start ps in
      let at : offset_of x.window ≡ length bytes = ap (λ (q : Point). q.at.offset) h.to ∙ offset_of_parts job name old ps in
      let read : Consumes (from (offset_of x.window) input) x.left (ahead_of x.window) =
      subst (λ (n : ℕ). Consumes (from n input) x.left (ahead_of x.window)) (sym at) (read_from bytes (ahead_of x.window) input x.left h.passed.is_read) in
      let is : IsPart job (from here.at.offset input) here p = subst (λ (q : Point). IsPart job (from q.at.offset input) q p) h.to (s.is (from (offset_of x.window) input) read) in
      let more : Consumes input y.left (bytes ++ (bytes_of_part p ++ ahead_of y.window)) =
      read_behind bytes (ahead_of x.window) (bytes_of_part p ++ ahead_of y.window) input x.left y.left h.passed.is_read s.is_read in
      let played : Played (events_of job here p) mid new = subst (λ (q : Point). Played (events_of job q p) mid new) h.to s.played in
      let to : point_of y new ≡ after_all job start (ps ++ p ∷ []) = s.to ∙ ap (λ (q : Point). after job q p) h.to ∙ sym (fold-append (after job) start ps (p ∷ [])) in
      record {
        passed = record {
          ps = ps ++ p ∷ [];
          parts = parts_more job input start ps p h.passed.parts is;
          is_read = subst (Consumes input y.left)
              (sym (append_assoc bytes (bytes_of_part p) (ahead_of y.window)) ∙ ap (λ (l : List ℕ). l ++ ahead_of y.window) (one_more ps p)) more;
          played = subst (λ (es : List Event). Played es old new) (sym (events_more job start ps p)) (played_on h.passed.played played);
          kept = ap (λ (q : Point). q.memory) to;
        };
        to = to;
      }

-- more is read after the parts
module _ {job : Job} {name : List ℕ} {input left left' : Option (List ℕ)} {rest rest' : List ℕ} {old new : Held} where
  abbrev pub passed_ahead : (h : Passed job name input left rest old new) → ((before : Option (List ℕ)) → Consumes before left rest → Consumes before left' rest')
      → Passed job name input left' rest' old new
  passed_ahead h reads = record {
    ps = h.ps;
    parts = h.parts;
    is_read = read_behind (bytes_of_parts h.ps) rest rest' input left left' h.is_read reads;
    played = h.played;
    kept = h.kept;
  }

-- nothing more was played
module _ {job : Job} {name : List ℕ} {input left : Option (List ℕ)} {rest : List ℕ} {old mid new : Held} where
  abbrev pub passed_same : new ≡ mid → Passed job name input left rest old mid → Passed job name input left rest old new
  passed_same same h = record {
    ps = h.ps;
    parts = h.parts;
    is_read = h.is_read;
    played = subst (Played (events_of_parts job (start_of name old) h.ps) old) (sym same) h.played;
    kept = ap (λ (m : Held). memory_of m.kept) same ∙ h.kept;
  }
