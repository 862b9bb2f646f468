-- What is next in an input, and how it is passed.
use Rattle.std.proofs.Common.{◌≡◌, ℕ, ◌+◌, ◌≤◌, List, [], ◌++◌, Bool, true, false, not, Option, None, Some, IfSome, IfErr, IsErrAnd, Result, Ok, Err, ap, append-nil, append_assoc, arith, drop, inl, inr, length, length-take-le, refl, subst, sym, take, ◌∙◌}
use Rattle.std.proofs.Math.Seq.{take-length}
use Rattle.std.proofs.lemmas.List.{take-append-drop, take-append-le}
use Rattle.std.specs.Io.KnownBytes.{Consumes}
use Rattle.raw_resync.specs.Seeking.{IsWork, no_work}
use Rattle.raw_resync.specs.declared.work.Work.{Work}
use Rattle.raw_tree.specs.declared.reader.limits.Limits.{Limits}
use Rattle.dump_io.specs.input.Cut.{IsPiece}
use Rattle.dump_io.specs.input.Endings.{ending_line}
use Rattle.dump_io.specs.input.Reading.{GoesAhead, IsWindow, Stays, TellsNext, ahead_of, offset_of}
use Rattle.dump_io.specs.input.Resync.{Doubts, IsBelieved, IsNextPlace, Searches, SkipsTo, TellsPart}
use Rattle.dump_io.specs.lines.Failing.{IsReading}
use Rattle.dump_io.specs.lines.Find.{Account}
use Rattle.dump_io.specs.lines.Fronts.{HasFront}
use Rattle.dump_io.specs.lines.Origins.{Origin, origin_of}
use Rattle.dump_io.specs.declared.input.ending.Ending.{Ending}
use Rattle.dump_io.specs.declared.input.rest.Rest.TheVariants as comes
use Rattle.dump_io.specs.declared.input.resync.Skip.{Skip}
use Rattle.dump_io.specs.declared.input.window.Next.{Next}
use Rattle.dump_io.specs.declared.input.window.Next.TheVariants as next
use Rattle.dump_io.specs.declared.input.window.Window.{Window}
use Rattle.dump_io.specs.declared.lines.failure.Failure.{Failure}
use Rattle.dump_io.specs.declared.lines.find.Finding.{Finding}
use Rattle.dump_io.specs.declared.lines.style.Style.{Style}
use Rattle.dump_io.proofs.Face.{front_kept, goes_ahead, passes_none, searches_on, stays_on, tells_doubted, tells_other, tells_taken}
use Rattle.dump_commands.specs.Counting.{count_document}
use Rattle.dump_commands.specs.Findings.{FindsFor, IsJudged}
use Rattle.dump_commands.specs.Reporting.{lines_of_repeats}
use Rattle.dump_commands.specs.declared.counts.Counts.{Counts}
use Rattle.dump_commands.specs.declared.job.Job.{Job}
use Rattle.dump_runs.specs.dumps.Halting.{IsNextFront, IsNextPiece, IsPieceFront}
use Rattle.dump_runs.specs.Plays.{Held, Played}
use Rattle.dump_runs.specs.dumps.Portion.{IsRunOver}
use Rattle.dump_runs.specs.Limits.{style_at}
use Rattle.dump_runs.specs.dumps.Run.{Entry, Gap, IsGap, IsGapOf, IsPart, IsTaken, Part, Point, TellsApart, after, events_of, events_of_gap, findings_in, gap, lone, memory_of, piece, repeats_in, style_here, texts_of, MayBeAlone}
use Rattle.dump_runs.specs.dumps.Steps.{GivesEntry, GivesPiece, HaltsAside, HaltsGap, HaltsNext, HaltsPiece, IsPassed, IsPieceOf, Looks, LooksApart, Passes, PassesGap, PassesNext, Place, SetsAside, next_of, place_of, point_at, point_of, reach_of}
use Rattle.dump_runs.specs.declared.dumps.piece.Piece.{Piece}
use Rattle.dump_runs.specs.declared.dumps.piece.Step.{Step}
use Rattle.dump_runs.specs.declared.dumps.piece.Step.TheVariants as step
use Rattle.dump_runs.proofs.Plays.{played_count, played_none}

-- what is so of all bytes from here on, where they are known
if_known : (rest r : Option (List ℕ)) (x : List ℕ) (P : List ℕ → Type 0) → ((s : List ℕ) → Consumes (Some s) r x → P s) → Consumes rest r x → IfSome rest P
if_known None r x P is read = tt
if_known (Some s) r x P is read = is s read

-- bytes ahead are in front of what was left
ahead_front : (s x : List ℕ) (r : Option (List ℕ)) → Consumes (Some s) r x → HasFront s x
ahead_front s x None read = absurd read
ahead_front s x (Some rest) read = (rest, read)

first_front : (s x : List ℕ) (n : ℕ) → HasFront s x → HasFront s (take n x)
first_front s x n (rest, is) = (drop n x ++ rest, is ∙ ap (λ (y : List ℕ). y ++ rest) (sym (take-append-drop n x)) ∙ append_assoc (take n x) (drop n x) rest)

-- what was told is so without more being read
tells_here : {most : ℕ} {r r' : Option (List ℕ)} {x y : Window} {told : Next} → TellsNext most r r' x y 0 told → TellsNext most r' r' y y 0 told
tells_here {y = y} t = record {
  window = t.window;
  offset = refl;
  looks = record { is_read = λ before read. read; len = omega arith; kept = take-length (ahead_of y) };
  is = t.is;
}

-- the same of a document that is ahead
pub document_here : {most : ℕ} {r : Option (List ℕ)} {x : Window} {len : ℕ} → IsWindow x → len ≤ length (ahead_of x) → IsPiece most (take len (ahead_of x))
    → TellsNext most r r x x 0 (next.Document len)
document_here {x = x} window within is = record {
  window = window;
  offset = refl;
  looks = record { is_read = λ before read. read; len = omega arith; kept = take-length (ahead_of x) };
  is = (within, is);
}

-- bytes that are read are no step back
pub goes_stays : {r r' : Option (List ℕ)} {x y : Window} → Stays r r' x y → GoesAhead r r' x y
goes_stays {r = r} {r' = r'} {x = x} {y = y} stays =
    let none : x.offset ≡ x.offset + 0 = omega arith in
    goes_ahead r r r' x x y 0 (passes_none r (ahead_of x)) none stays

pub goes_since : {r r' r'' : Option (List ℕ)} {x y z : Window} → Stays r r' x y → GoesAhead r' r'' y z → GoesAhead r r'' x z
goes_since stays goes = record {
  window = goes.window;
  count = goes.count;
  offset = goes.offset ∙ ap (λ (m : ℕ). m + goes.count) stays.offset;
  passes = record { bytes = goes.passes.bytes; len = goes.passes.len; is_read = λ before read. goes.passes.is_read before (stays.looks.is_read before read) };
}

-- the document of this length is next, and is taken at it, whether it stands alone or not
pub record IsTakenAt (job : Job) (found : Finding) (alone : Bool) (x y : Place) (len : ℕ) : Type 0 where
  pub named : y.name ≡ x.name
  pub searches : Searches job.limits (reach_of x) (reach_of y)
  pub within : len ≤ length (ahead_of y.window)
  pub piece : IsPiece job.limits.bytes (take len (ahead_of y.window))
  pub is : (b : List ℕ) (old : Held) → length b ≡ len → (s : List ℕ) → Consumes (Some s) x.left (ahead_of x.window) → IsTaken job s (point_of x old) b found y.work alone

-- its length is taken, and then whether it stands alone is found out
module _ {job : Job} {found : Finding} {alone : Bool} {x y z : Place} {len : ℕ} where
  pub taken_at : y.name ≡ x.name → y.broken ≡ x.broken → TellsPart job.limits job.resync (reach_of x) (reach_of y) (next.Document len) → z.name ≡ y.name
      → LooksApart job found y z len alone → IsTakenAt job found alone x z len
  taken_at named broken tells named' looks =
      let (within, whole) = tells.ahead in
      let stays = looks.searches.stays in
      let (rest, split) = front_kept (ahead_of y.window) (ahead_of z.window) stays.looks.kept in
      let more : length (ahead_of y.window) ≤ length (ahead_of z.window) = stays.looks.len in
      let may = λ (broken : Bool). MayBeAlone job.command broken found in
      record {
        named = named' ∙ named;
        searches = searches_on x.left y.left z.left x.window y.window z.window x.work y.work z.work tells.searches looks.searches;
        within = omega (arith, within, more);
        piece = subst (IsPiece job.limits.bytes) (sym (ap (take len) split ∙ take-append-le len (ahead_of y.window) rest within)) whole;
        is = λ b old size s read. record {
          mid = y.work;
          believed = λ asked. subst (λ (m : ℕ). IsBelieved job.limits s (offset_of x.window) m x.work y.work) (sym size) ((tells.is s read).0 asked);
          free = λ not. (tells.is s read).1 not;
          apart = subst (λ (m : ℕ). TellsApart job.limits (may x.broken) s (offset_of x.window) m y.work z.work alone) (sym size)
              (subst (λ (m : ℕ). TellsApart job.limits (may x.broken) s m len y.work z.work alone) tells.searches.stays.offset
              (subst (λ (broken : Bool). TellsApart job.limits (may broken) s (offset_of y.window) len y.work z.work alone) broken
              (looks.is s (tells.searches.stays.looks.is_read (Some s) read))));
        };
      }

-- a piece is that document
pub record IsPieceAt (x y : Place) (p : Piece) (len : ℕ) : Type 0 where
  pub at : origin_of p.at ≡ place_of x
  pub bytes : p.bytes.now ≡ take len (ahead_of y.window)

size : {job : Job} {f : Finding} {alone : Bool} {x y : Place} {p : Piece} {len : ℕ} → IsTakenAt job f alone x y len → IsPieceAt x y p len → length p.bytes.now ≡ len
size {y = y} {len = len} t q = ap length q.bytes ∙ length-take-le len (ahead_of y.window) t.within

here_is : {x y : Place} {p : Piece} {len : ℕ} (old : Held) → IsPieceAt x y p len → point_at p x.work x.broken old ≡ point_of x old
here_is {x = x} old q = λ i. record { at = q.at i; work = x.work; broken = x.broken; counts = old.counts; memory = memory_of old.kept }

-- what it gives is written, and it is to be counted
pub record IsToCount (job : Job) (x y : Place) (p : Piece) (e : Entry) (old mid : Held) (findings : ℕ) : Type 0 where
  pub worked : e.work ≡ y.work
  pub gives : GivesEntry job p (point_at p x.work x.broken old) e old mid
  pub found : findings ≡ findings_in job.command e.finding + length (repeats_in job (point_at p x.work x.broken old) e)

-- the first bytes ahead are the same where more is read
pub same_front : {r r' : Option (List ℕ)} {x y : Window} {len : ℕ} → Stays r r' x y → len ≤ length (ahead_of x) → take len (ahead_of y) ≡ take len (ahead_of x)
same_front {x = x} {y = y} {len = len} stays within =
    let (rest, split) = front_kept (ahead_of x) (ahead_of y) stays.looks.kept in
    ap (take len) split ∙ take-append-le len (ahead_of x) rest within

-- what was found in it before more was read is found in it
pub judged_on : (job : Job) (n : Counts) (p : Piece) {s : Style} {b : List ℕ} → s ≡ style_at job.style job.limit n → p.bytes.now ≡ b → IsPiece job.limits.bytes b
    → IsJudged job.limits job.command s (origin_of p.at) b p.judged → IsPieceOf job n p
judged_on job n p {s = s} {b = b} style same is judged =
    subst (λ (x : List ℕ). IsPiece job.limits.bytes x × IsJudged job.limits job.command (style_at job.style job.limit n) (origin_of p.at) x p.judged) (sym same)
    (is, subst (λ (x : Style). IsJudged job.limits job.command x (origin_of p.at) b p.judged) style judged)

-- the bytes of a document are ahead, and are passed
module _ {job : Job} {f : Finding} {alone : Bool} {x y z : Place} {len : ℕ} (t : IsTakenAt job f alone x y len) {broken : Bool}
    (passed : IsPassed len broken y z) (b : List ℕ) (is : b ≡ take len (ahead_of y.window)) where
  len_is : len ≡ length b
  len_is = sym (ap length is ∙ length-take-le len (ahead_of y.window) t.within)

  pub offset_after : offset_of z.window ≡ offset_of x.window + length b
  offset_after = passed.offset ∙ ap (λ (m : ℕ). m + len) t.searches.stays.offset ∙ ap (λ (m : ℕ). offset_of x.window + m) len_is

  pub read_after : (before : Option (List ℕ)) → Consumes before x.left (ahead_of x.window) → Consumes before z.left (b ++ ahead_of z.window)
  read_after before read =
      let split : ahead_of y.window ≡ b ++ ahead_of z.window =
      sym (take-append-drop len (ahead_of y.window)) ∙ ap (λ (l : List ℕ). l ++ drop len (ahead_of y.window)) (sym is) ∙ ap (λ (l : List ℕ). b ++ l) (sym passed.ahead) in
      subst (λ (r : Option (List ℕ)). Consumes before r (b ++ ahead_of z.window)) (sym passed.left) (subst (Consumes before y.left) split (t.searches.stays.looks.is_read before read))

-- it is passed, and counted
pub passes_piece : {job : Job} {x y z : Place} {p : Piece} {e : Entry} {old mid : Held} {len findings : ℕ} (n : Counts) → IsTakenAt job p.judged.finding false x y len → IsPieceAt x y p len
    → IsToCount job x y p e old mid findings → n ≡ count_document mid.counts len p.judged.finding findings → IsPassed len false y z → Passes job (piece e) x z old (record mid { counts = n })
passes_piece {job = job} {x = x} {y = y} {z = z} {p = p} {e = e} {old = old} {mid = mid} {len = len} {findings = findings} n t q c counted passed =
    let here = point_of x old in
    let same = here_is old q in
    let g : GivesEntry job p here e old mid = subst (λ (h : Point). GivesEntry job p h e old mid) same c.gives in
    let all : findings ≡ findings_in job.command e.finding + length (repeats_in job here e) =
    subst (λ (h : Point). findings ≡ findings_in job.command e.finding + length (repeats_in job h e)) same c.found in
    let size_is : length e.bytes ≡ len = ap length g.bytes ∙ size t q in
    let is : n ≡ count_document mid.counts (length e.bytes) e.finding (findings_in job.command e.finding + length (repeats_in job here e)) =
    counted ∙ ap (λ (m : ℕ). count_document mid.counts m p.judged.finding findings) (sym size_is)
    ∙ ap (λ (f : Finding). count_document mid.counts (length e.bytes) f findings) (sym g.finding)
    ∙ ap (λ (m : ℕ). count_document mid.counts (length e.bytes) e.finding m) all in
    let played : Played (events_of job here (piece e)) old (record mid { counts = n }) =
    played_count (λ m. count_document m (length e.bytes) e.finding (findings_in job.command e.finding + length (repeats_in job here e))) is (texts_of job here e) g.played in
    let offset : offset_of z.window ≡ offset_of x.window + length e.bytes = offset_after t passed e.bytes (g.bytes ∙ q.bytes) in
    record {
      window = passed.window;
      work = subst IsWork (sym passed.work) t.searches.work;
      to = λ i. record {
        at = record { name = (passed.named ∙ t.named) i; offset = offset i };
        work = (passed.work ∙ sym c.worked) i;
        broken = passed.is_broken i;
        counts = played.counts i;
        memory = g.kept i;
      };
      is_read = read_after t passed e.bytes (g.bytes ∙ q.bytes);
      is = λ rest read. (
        g.is,
        if_known rest x.left (ahead_of x.window) (λ (s : List ℕ). IsTaken job s here e.bytes e.finding e.work false)
            (λ s read. subst (λ (f : Finding). IsTaken job s here e.bytes f e.work false) (sym g.finding)
            (subst (λ (u : Work). IsTaken job s here e.bytes p.judged.finding u false) (sym c.worked) (t.is e.bytes old size_is s read))) read,
      );
      played = played;
    }

-- a document that stands alone is set aside, counted and passed
pub passes_lone : {job : Job} {f : Finding} {x y z : Place} {old new : Held} {len : ℕ} (told : Option Account) → IsTakenAt job f true x y len
    → FindsFor job.limits job.command (take len (ahead_of y.window)) f told → SetsAside len y z old new → (p : Part) × IsRunOver p × Passes job p x z old new
passes_lone {job = job} {f = f} {x = x} {y = y} {z = z} {old = old} {new = new} {len = len} told t finds s =
    let b = take len (ahead_of y.window) in
    let here = point_of x old in
    let passed = s.passed in
    let size_is : length b ≡ len = length-take-le len (ahead_of y.window) t.within in
    let offset : offset_of z.window ≡ offset_of x.window + length b = offset_after t passed b refl in (
      lone (record { bytes = b; finding = f; work = y.work }),
      tt,
      record {
        window = passed.window;
        work = subst IsWork (sym passed.work) t.searches.work;
        to = λ i. record {
          at = record { name = (passed.named ∙ t.named) i; offset = offset i };
          work = passed.work i;
          broken = passed.is_broken i;
          counts = s.played.counts i;
          memory = memory_of (s.kept i);
        };
        is_read = read_after t passed b refl;
        is = λ rest read. (
          record { piece = t.piece; told = told; finds = finds },
          if_known rest x.left (ahead_of x.window) (λ (s : List ℕ). IsTaken job s here b f y.work true) (λ s read. t.is b old size_is s read) read,
        );
        played = s.played;
      },
    )

-- what is next is a document
next_piece : {job : Job} {f : Finding} {alone : Bool} {x y : Place} {len : ℕ} (old : Held) → IsTakenAt job f alone x y len → (b : List ℕ) → b ≡ take len (ahead_of y.window)
    → (rest : Option (List ℕ)) → Consumes rest x.left (ahead_of x.window) → IfSome rest (λ s. IsNextPiece job s (point_of x old) b f alone)
next_piece {job = job} {f = f} {alone = alone} {x = x} {y = y} {len = len} old t b is rest read =
    if_known rest x.left (ahead_of x.window) (λ (s : List ℕ). IsNextPiece job s (point_of x old) b f alone)
    (λ s read. record {
      in_front = subst (HasFront s) (sym is) (first_front s (ahead_of y.window) len (ahead_front s (ahead_of y.window) y.left (t.searches.stays.looks.is_read (Some s) read)));
      work = y.work;
      taken = t.is b old (ap length is ∙ length-take-le len (ahead_of y.window) t.within) s read;
    }) read

-- a front of what it gives is one of what is next
pub halts_piece : {job : Job} {x y : Place} {p : Piece} {len : ℕ} {old new : Held} → IsTakenAt job p.judged.finding false x y len → IsPieceAt x y p len → HaltsPiece job p old new
    → HaltsNext job x old new
halts_piece {job = job} {x = x} {y = y} {p = p} {len = len} {old = old} t q (es, played, front) = (
  es,
  played,
  λ rest read.
      let b = p.bytes.now in
      let is : IsPiece job.limits.bytes b = subst (IsPiece job.limits.bytes) (sym q.bytes) t.piece in
      let found = p.judged.finding in
      inr (inl (b, found, is, next_piece old t b q.bytes rest read, subst (λ (h : Point). IsPieceFront job h b found es) (here_is old q) (front x.work x.broken))),
)

-- the same of one that stands alone
pub halts_lone : {job : Job} {f : Finding} {x y : Place} {len : ℕ} {old new : Held} (told : Option Account) → IsTakenAt job f true x y len
    → FindsFor job.limits job.command (take len (ahead_of y.window)) f told → HaltsAside (take len (ahead_of y.window)) old new → HaltsNext job x old new
halts_lone {job = job} {f = f} {x = x} {y = y} {len = len} {old = old} told t finds (es, played, front) = (
  es,
  played,
  λ rest read.
      let b = take len (ahead_of y.window) in
      inr (inr (inl (b, f, record { piece = t.piece; told = told; finds = finds }, next_piece old t b refl rest read, front))),
)

-- all of it is a front of it
pub halts_given : {job : Job} {p : Piece} {old new : Held} (findings : ℕ) → GivesPiece job p old new findings → HaltsPiece job p old new
halts_given {job = job} {p = p} {old = old} findings gives =
    let (e, worked, g, found) = gives no_work no_work false in
    let here = point_at p no_work false old in
    let line = lines_of_repeats (style_here job here) (repeats_in job here e) in (
      texts_of job here e,
      g.played,
      λ before broken.
          subst (λ (b : List ℕ). IsPieceFront job (point_at p before broken old) b p.judged.finding (texts_of job here e)) g.bytes
          (subst (λ (f : Finding). IsPieceFront job (point_at p before broken old) e.bytes f (texts_of job here e)) g.finding
          (e.told, g.is.found, inr (e.lines, g.is.reports, inr (inr (e.made, g.is.makes, (line, ([], sym (append-nil line)), refl)))))),
    )

-- no document that is believed is next, and bytes are passed over
pub record IsOver (job : Job) (x y : Place) (end : Ending) : Type 0 where
  pub named : y.name ≡ x.name
  pub asked : job.resync ≡ true
  pub tells : TellsPart job.limits job.resync (reach_of x) (reach_of y) (next.End end)

-- the same of what was told of the bytes ahead
pub over_here : {job : Job} (w x : Place) {end : Ending} → TellsNext job.limits.bytes w.left x.left w.window x.window 0 (next.End end) → (x.name ≡ w.name) × (x.work ≡ w.work) × (x.broken ≡ w.broken)
    → IsWork w.work → job.resync ≡ true → IsOver job x x end
over_here {job = job} w x {end = end} t same work asked = record {
  named = refl;
  asked = asked;
  tells = tells_other {limits = job.limits} job.resync x.left x.left x.window x.window x.work (next.End end) (subst IsWork (sym same.1) work)
      (λ len same. let impossible : ⊥ = cc in absurd impossible) (tells_here t);
}

place_is : {job : Job} {x y : Place} {end : Ending} → IsOver job x y end → place_of y ≡ place_of x
place_is t = λ i. record { name = t.named i; offset = t.tells.searches.stays.offset i }

gap_is : {job : Job} {x y : Place} {end : Ending} (old : Held) (z : Place) (skip : Skip) → IsOver job x y end → (s : SkipsTo job.limits (reach_of y) (reach_of z) skip)
    → (rest : Option (List ℕ)) → Consumes rest x.left (ahead_of x.window) → IsGap job rest (point_of x old) (record { bytes = s.passes.bytes; end = end; skip = skip; work = z.work })
gap_is {job = job} {x = x} {y = y} {end = end} old z skip t s rest read = record {
  asked = t.asked;
  len = s.passes.len;
  next = if_known rest x.left (ahead_of x.window) (λ (all : List ℕ). IsGapOf job all (point_of x old) (record { bytes = s.passes.bytes; end = end; skip = skip; work = z.work }))
      (λ all reads. (
        y.work,
        t.tells.is all reads,
        subst (λ (m : ℕ). IsNextPlace job.limits all m y.work z.work skip) t.tells.searches.stays.offset (s.is all (t.tells.searches.stays.looks.is_read (Some all) reads)),
      )) read;
}

-- they are a gap
pub passes_gap : {job : Job} {x y z : Place} {end : Ending} {old new : Held} → IsOver job x y end → PassesGap job end y z old new → (p : Part) × IsRunOver p × Passes job p x z old new
passes_gap {job = job} {x = x} {y = y} {z = z} {end = end} {old = old} {new = new} t over =
    let g : Gap = record { bytes = over.skips.passes.bytes; end = end; skip = over.skip; work = z.work } in
    let here = point_of x old in
    let stays = t.tells.searches.stays in
    let played : Played (events_of job here (gap g)) old new =
    subst (λ (a : Origin). Played (events_of_gap (style_at job.style job.limit old.counts) a end over.skip) old new) (place_is t) over.played in
    let offset : offset_of z.window ≡ offset_of x.window + length g.bytes =
    over.skips.offset ∙ ap (λ (m : ℕ). m + over.skip.count) stays.offset ∙ ap (λ (m : ℕ). offset_of x.window + m) (sym over.skips.passes.len) in (
      gap g,
      tt,
      record {
        window = over.skips.window;
        work = over.skips.work;
        to = λ i. record {
          at = record { name = (over.named ∙ t.named) i; offset = offset i };
          work = z.work;
          broken = over.broken i;
          counts = played.counts i;
          memory = memory_of (over.kept i);
        };
        is_read = λ before read. over.skips.passes.is_read before (stays.looks.is_read before read);
        is = gap_is old z over.skip t over.skips;
        played = played;
      },
    )

-- and a front of its line is one of what is next
pub halts_over : {job : Job} {x y : Place} {end : Ending} {old new : Held} → IsOver job x y end → HaltsGap job end y old new → HaltsNext job x old new
halts_over t (es, played, inl none) = (es, played, λ rest read. inl none)
halts_over {job = job} {x = x} {end = end} {old = old} t (es, played, inr (text, front, line, has, is)) =
    let style = style_at job.style job.limit old.counts in
    let said : text ≡ ending_line style x.name (offset_of x.window) end (comes.PassedOver line.skip) =
    line.is ∙ ap (λ (a : Origin). ending_line style a.name a.offset end (comes.PassedOver line.skip)) (place_is t) in
    (es, played, λ rest read. inr (inr (inr (text, front, inl (_, gap_is old line.y line.skip t line.skips rest read, said), has, is))))

-- bytes were read, and none passed
pub record IsSince (w x : Place) : Type 0 where
  pub named : x.name ≡ w.name
  pub worked : x.work ≡ w.work
  pub joined : x.broken ≡ w.broken
  pub stays : Stays w.left x.left w.window x.window

since : {w x : Place} (old : Held) → IsSince w x → point_of x old ≡ point_of w old
since old s = λ i. record { at = record { name = s.named i; offset = s.stays.offset i }; work = s.worked i; broken = s.joined i; counts = old.counts; memory = memory_of old.kept }

-- what is passed is passed from before that on
pub passes_since : {job : Job} {w x y : Place} {old new : Held} (p : Part) → IsSince w x → Passes job p x y old new → Passes job p w y old new
passes_since {job = job} {old = old} {new = new} p b s = record {
  window = s.window;
  work = s.work;
  to = s.to ∙ ap (λ (h : Point). after job h p) (since old b);
  is_read = λ before read. s.is_read before (b.stays.looks.is_read before read);
  is = λ rest read. subst (λ (h : Point). IsPart job rest h p) (since old b) (s.is rest (b.stays.looks.is_read rest read));
  played = subst (λ (h : Point). Played (events_of job h p) old new) (since old b) s.played;
}

looks_since : {w x y : Place} {old new : Held} → IsSince w x → Looks x y old new → Looks w y old new
looks_since {w = w} {x = x} {y = y} b l =
    record { named = l.named ∙ b.named; stays = stays_on w.left x.left y.left w.window x.window y.window b.stays l.stays; same = l.same }

pub next_since : (job : Job) {w x : Place} (y : Place) (old new : Held) (s : Step) → IsSince w x → PassesNext job x y old new s → PassesNext job w y old new s
next_since job y old new step.Passed b (p, over, passes) = (p, over, passes_since p b passes)
next_since job y old new step.End b (looks, none, end) = (looks_since b looks, none, end)
next_since job y old new (step.Left why) b (looks, ends, behind, unasked) = (looks_since b looks, ends, behind, unasked)

pub halts_since : {job : Job} {w x : Place} {old new : Held} → IsSince w x → HaltsNext job x old new → HaltsNext job w old new
halts_since {job = job} {old = old} b (es, played, front) =
    (es, played, λ rest read. subst (λ (h : Point). IsNextFront job rest h es) (since old b) (front rest (b.stays.looks.is_read rest read)))

-- what is told of the bytes ahead is so from before they were read on
pub looked : {most : ℕ} {w x : Place} {told : Next} → TellsNext most w.left x.left w.window x.window 0 told → (x.name ≡ w.name) × (x.work ≡ w.work) × (x.broken ≡ w.broken) → IsSince w x
looked t (named, worked, joined) = record { named = named; worked = worked; joined = joined; stays = record { window = t.window; offset = t.offset; looks = t.looks } }

-- a failure to read is that of what was called
pub fails_on : {A : Type 0} (r : Result A Failure) (e : Failure) (P : Type 0) → IsErrAnd r (λ x. x ≡ e) → (IsReading e → P) → IfErr r (λ failure. IsReading failure → P)
fails_on (Ok x) e P same f = tt
fails_on (Err x) e P same f = λ reading. f (subst IsReading same reading)

pub fails_since : {A : Type 0} (r : Result A Failure) (P Q : Type 0) → (P → Q) → IfErr r (λ failure. IsReading failure → P) → IfErr r (λ failure. IsReading failure → Q)
fails_since (Ok x) P Q on is = tt
fails_since (Err x) P Q on is = λ reading. on (is reading)

-- nothing of it is played
pub halts_none : (job : Job) (x : Place) (old : Held) → HaltsNext job x old old
halts_none job x old = ([], played_none refl, λ rest read. inl refl)

-- a document that may be damaged is doubted, or taken at its length
pub doubted_or_taken : (x y : Place) (limits : Limits) (resync : Bool) (len : ℕ) → resync ≡ true
    → IsWindow x.window × IsWork x.work × (len ≤ length (ahead_of x.window)) × IsPiece limits.bytes (take len (ahead_of x.window))
    → (doubted : Bool) → Doubts limits (reach_of x) (reach_of y) len doubted
    → TellsPart limits resync (reach_of x) (reach_of y) (next_of len (not doubted))
doubted_or_taken x y limits resync len asked (window, work, within, is) true d =
    subst (λ (b : Bool). TellsPart limits b (reach_of x) (reach_of y) (next_of len false)) (sym asked)
    (tells_doubted x.left x.left y.left x.window x.window y.window x.work y.work len work (document_here window within is) d)
doubted_or_taken x y limits resync len asked (window, work, within, is) false d =
    subst (λ (b : Bool). TellsPart limits b (reach_of x) (reach_of y) (next_of len true)) (sym asked)
    (tells_taken x.left x.left y.left x.window x.window y.window x.work y.work len work (document_here window within is) d)
