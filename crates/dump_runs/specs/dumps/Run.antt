-- The parts of an input, what each gives, and what is counted and kept after it.
use Rattle.std.specs.Prelude.{◌≡◌, ◌⊎◌, ℕ, ◌+◌, List, [], ◌∷◌, ◌++◌, Bool, true, false, Option, IfSome, drop, flat_map, fold, length}
use Rattle.std.specs.Io.KnownBytes.{Consumes}
use Rattle.std.specs.Option.{option_map}
use Rattle.raw_resync.specs.Seeking.{no_work}
use Rattle.raw_resync.specs.declared.work.Work.{Work}
use Rattle.raw_tree.specs.declared.reader.limits.Limits.{Limits}
use Rattle.dump_io.specs.input.Cut.{IsPiece}
use Rattle.dump_io.specs.input.Endings.{ending_line}
use Rattle.dump_io.specs.input.Resync.{BreaksWith, IsBelieved, IsNextPlace, TellsBehind}
use Rattle.dump_io.specs.lines.Find.{Account}
use Rattle.dump_io.specs.lines.Origins.{Origin, Repeat, origin_at}
use Rattle.dump_io.specs.declared.input.ending.Ending.{Ending}
use Rattle.dump_io.specs.declared.input.rest.Rest.TheVariants as comes
use Rattle.dump_io.specs.declared.input.resync.Skip.{Skip}
use Rattle.dump_io.specs.declared.lines.find.Finding.{Finding}
use Rattle.dump_io.specs.declared.lines.find.Finding.TheVariants as finding
use Rattle.dump_io.specs.declared.lines.style.Style.{Style}
use Rattle.dump_commands.specs.Commands.{keeps, profile_of}
use Rattle.dump_commands.specs.Counting.{count_alone, count_document, count_gap}
use Rattle.dump_commands.specs.Findings.{FindsFor}
use Rattle.dump_commands.specs.Gathering.{HasFields}
use Rattle.dump_commands.specs.Making.{Makes}
use Rattle.dump_commands.specs.Reporting.{Reports, lines_of_repeats}
use Rattle.dump_commands.specs.Unique.{firsts_behind, kept_of, known_behind, repeats_of, written_of}
use Rattle.dump_commands.specs.state.Gathered.{Document, Gathered, tabled, with_document}
use Rattle.dump_commands.specs.state.Forms.{Firsts, Made, firsts_of, knows, placed_at, written_count}
use Rattle.dump_commands.specs.declared.command.Breaches.{Breaches}
use Rattle.dump_commands.specs.declared.command.Breaches.TheVariants as breaches
use Rattle.dump_commands.specs.declared.command.Command.{Command}
use Rattle.dump_commands.specs.declared.counts.Counts.{Counts}
use Rattle.dump_commands.specs.declared.job.Job.{Job}
use Rattle.dump_commands.specs.declared.state.kept.Kept.{Kept}
use Rattle.dump_runs.specs.Limits.{style_at}
use Rattle.dump_runs.specs.Plays.{Event, Held, Played, count_event, counted, given, reported, set_aside}

-- a document of an input, at its length: its bytes, what is found in it and what is told of that, what is made of it, what is reported of it, what
-- is gathered of it, and what searches cost then
pub record Entry : Type 0 where
  pub bytes : List ℕ
  pub finding : Finding
  pub told : Option Account
  pub made : List Made
  pub lines : List ℕ
  pub fields : List Document
  pub work : Work

-- bytes of an input that are passed over, since they begin with no document whose length is believed; why they don't, how many they are, and
-- what searches cost then
pub record Gap : Type 0 where
  pub bytes : List ℕ
  pub end : Ending
  pub skip : Skip
  pub work : Work

-- a document of an input that stands alone, at its length: its bytes, what is found in it, and what searches cost then
pub record Lone : Type 0 where
  pub bytes : List ℕ
  pub finding : Finding
  pub work : Work

-- a part of an input: a document; one that stands alone; a gap; or bytes before the documents that are asked for
pub data Part : Type 0 where
  piece : Entry → Part
  lone : Lone → Part
  gap : Gap → Part
  skipped : List ℕ → Part

abbrev pub bytes_of_part : Part → List ℕ
bytes_of_part (piece e) = e.bytes
bytes_of_part (lone a) = a.bytes
bytes_of_part (gap g) = g.bytes
bytes_of_part (skipped b) = b

abbrev pub bytes_of_parts : List Part → List ℕ
bytes_of_parts ps = flat_map bytes_of_part ps

-- what is kept of documents: the digests of the forms that were written, the places of the first ones, how many were written, and what was
-- gathered of them
pub record Memory : Type 0 where
  pub known : List ℕ → Bool
  pub firsts : Firsts
  pub count : ℕ
  pub gathered : Gathered

abbrev pub memory_of : Kept → Memory
memory_of kept = record { known = knows kept; firsts = firsts_of kept; count = written_count kept; gathered = tabled kept }

-- where a part of an input begins, and what came before it: what searches cost, whether a gap is right before it or a document that stands alone, what was counted, and what is kept
pub record Point : Type 0 where
  pub at : Origin
  pub work : Work
  pub broken : Bool
  pub counts : Counts
  pub memory : Memory

-- the first part of an input begins here
abbrev pub start_of : List ℕ → Held → Point
start_of name held = record { at = origin_at name 0; work = no_work; broken = false; counts = held.counts; memory = memory_of held.kept }

abbrev pub style_here : Job → Point → Style
style_here job here = style_at job.style job.limit here.counts

-- how many findings a document is that isn't canonical
abbrev pub breach_findings : Breaches → ℕ
breach_findings breaches.Ignored = 0
breach_findings breaches.Counted = 0
breach_findings breaches.Found = 1

-- how many findings a command has of a document in which this is found
abbrev pub findings_in : Command → Finding → ℕ
findings_in c finding.Canonical = 0
findings_in c finding.Breached = breach_findings (profile_of c).breaches
findings_in c finding.Damaged = 1
findings_in c finding.TooDeep = 1
findings_in c finding.Unvalidated = 0

-- what a document repeats, if it does: that is one finding more
abbrev pub repeats_in : Job → Point → Entry → List Repeat
repeats_in job here e = repeats_of job.command here.memory.firsts (placed_at here.at e.made)

-- what is so of a document that begins here
pub record IsEntry (job : Job) (here : Point) (e : Entry) : Type 0 where
  pub piece : IsPiece job.limits.bytes e.bytes
  pub found : FindsFor job.limits job.command e.bytes e.finding e.told
  pub makes : Makes job.command e.bytes e.finding e.made
  pub reports : Reports job.command (style_here job here) here.at e.bytes e.finding e.told e.lines
  pub has : HasFields job.limits job.command here.at e.bytes e.finding e.fields

-- a command writes a document in which this is found, if it keeps any
abbrev pub IsWritten : Command → Finding → Type 0
IsWritten c found = (keeps c ≡ true) × ((found ≡ finding.Canonical) ⊎ (found ≡ finding.Breached))

-- a document in which this is found may stand alone: the command writes it, and a gap or a lone document is right before it
abbrev pub MayBeAlone : Command → (broken : Bool) → Finding → Type 0
MayBeAlone c broken found = (broken ≡ true) × IsWritten c found

-- Whether the document of this length at the front of s stands alone; s is the input from this offset on. Only one that may does, if documents
-- don't go on after it, where that is looked at.
abbrev pub TellsApart : Limits → (may : Type 0) → List ℕ → (at len : ℕ) → (old new : Work) → (alone : Bool) → Type 0
TellsApart limits may s at len old new alone = (may × TellsBehind limits s at len old new alone) ⊎ ((¬ may) × (alone ≡ false) × (new ≡ old))

-- The document b at the front of s, in which this is found, is taken at its length; s is the input from here on. Where bytes may be passed
-- over, it is sound, or its length is believed. `alone` says whether it stands alone, `work` what searches cost then.
pub record IsTaken (job : Job) (s : List ℕ) (here : Point) (b : List ℕ) (found : Finding) (work : Work) (alone : Bool) : Type 0 where
  pub mid : Work
  pub believed : job.resync ≡ true → IsBelieved job.limits s here.at.offset (length b) here.work mid
  pub free : job.resync ≡ false → mid ≡ here.work
  pub apart : TellsApart job.limits (MayBeAlone job.command here.broken found) s here.at.offset (length b) mid work alone

-- what is so of a document in which this is found
pub record HasFinding (job : Job) (b : List ℕ) (found : Finding) : Type 0 where
  pub piece : IsPiece job.limits.bytes b
  pub told : Option Account
  pub finds : FindsFor job.limits job.command b found told

-- No document is at the front of s, the input from here on, or a damaged one whose length isn't believed. The next place at which documents
-- are found to go on is right after the gap. Searches cost `before` when the first is known, and `g.work` when the second is.
abbrev pub IsGapOf : Job → List ℕ → Point → Gap → Type 0
IsGapOf job s here g = (before : Work) × BreaksWith job.limits s here.at.offset here.work before g.end × IsNextPlace job.limits s here.at.offset before g.work g.skip

-- what is so of a gap that begins here, where the rest of the input is known or not: it is asked for
pub record IsGap (job : Job) (rest : Option (List ℕ)) (here : Point) (g : Gap) : Type 0 where
  pub asked : job.resync ≡ true
  pub len : length g.bytes ≡ g.skip.count
  pub next : IfSome rest (λ s. IsGapOf job s here g)

-- what is so of a part that begins here
abbrev pub IsPart : Job → (rest : Option (List ℕ)) → Point → Part → Type 0
IsPart job rest here (piece e) = IsEntry job here e × IfSome rest (λ s. IsTaken job s here e.bytes e.finding e.work false)
IsPart job rest here (lone a) = HasFinding job a.bytes a.finding × IfSome rest (λ s. IsTaken job s here a.bytes a.finding a.work true)
IsPart job rest here (gap g) = IsGap job rest here g
IsPart job rest here (skipped b) = Unit {0}

-- what is written of a document: what is reported of it, then what is made of it, then the line of a repeat
abbrev pub texts_of : Job → Point → Entry → List Event
texts_of job here e = reported e.lines ∷ given (written_of job.command here.memory.known e.made) ∷ reported (lines_of_repeats (style_here job here) (repeats_in job here e)) ∷ []

-- the line of a gap is written, and it is counted
abbrev pub events_of_gap : Style → Origin → Ending → Skip → List Event
events_of_gap style at end skip = reported (ending_line style at.name at.offset end (comes.PassedOver skip)) ∷ counted (λ n. count_gap n skip.count) ∷ []

-- a document that stands alone is set aside, as it is, and counted
abbrev pub events_of_lone : List ℕ → List Event
events_of_lone b = set_aside b ∷ counted (λ n. count_alone n (length b)) ∷ []

-- what a part gives that begins here
abbrev pub events_of : Job → Point → Part → List Event
events_of job here (piece e) =
    texts_of job here e ++ counted (λ n. count_document n (length e.bytes) e.finding (findings_in job.command e.finding + length (repeats_in job here e))) ∷ []
events_of job here (lone a) = events_of_lone a.bytes
events_of job here (gap g) = events_of_gap (style_here job here) here.at g.end g.skip
events_of job here (skipped b) = []

-- what is kept after a document
abbrev pub with_entry : Job → Point → Entry → Memory
with_entry job here e = record {
  known = known_behind job.command here.memory.known e.made;
  firsts = firsts_behind job.command here.memory.firsts (placed_at here.at e.made);
  count = here.memory.count + length (kept_of job.command here.memory.known e.made);
  gathered = fold with_document here.memory.gathered e.fields;
}

abbrev pub memory_behind : Job → Point → Part → Memory
memory_behind job here (piece e) = with_entry job here e
memory_behind job here (lone a) = here.memory
memory_behind job here (gap g) = here.memory
memory_behind job here (skipped b) = here.memory

abbrev pub work_behind : Work → Part → Work
work_behind work (piece e) = e.work
work_behind work (lone a) = a.work
work_behind work (gap g) = g.work
work_behind work (skipped b) = work

-- whether what follows a part may stand alone: after a gap, and after one that does
abbrev pub breaks : Part → Bool
breaks (gap g) = true
breaks (lone a) = true
breaks _ = false

-- where the next part begins after one that begins here
abbrev pub after : Job → Point → Part → Point
after job here p = record {
  at = origin_at here.at.name (here.at.offset + length (bytes_of_part p));
  work = work_behind here.work p;
  broken = breaks p;
  counts = fold count_event here.counts (events_of job here p);
  memory = memory_behind job here p;
}

-- where the next part begins after these
abbrev pub after_all : Job → Point → List Part → Point
after_all job here ps = fold (after job) here ps

-- the input from this offset on
abbrev pub from : ℕ → Option (List ℕ) → Option (List ℕ)
from offset input = option_map (drop offset) input

-- parts one after the other, the first of which begins here
abbrev pub AreParts : Job → (input : Option (List ℕ)) → Point → List Part → Type 0
AreParts job input here [] = Unit {0}
AreParts job input here (p ∷ ps) = IsPart job (from here.at.offset input) here p × AreParts job input (after job here p) ps

-- what they give, in their order
abbrev pub events_of_parts : Job → Point → List Part → List Event
events_of_parts job here [] = []
events_of_parts job here (p ∷ ps) = events_of job here p ++ events_of_parts job (after job here p) ps

-- The parts of an input were passed, one after the other, and after them this rest was read. What they give was played, and nothing
-- else.
pub record Passed (job : Job) (name : List ℕ) (input left : Option (List ℕ)) (rest : List ℕ) (old new : Held) : Type 0 where
  pub ps : List Part
  pub parts : AreParts job input (start_of name old) ps
  pub is_read : Consumes input left (bytes_of_parts ps ++ rest)
  pub played : Played (events_of_parts job (start_of name old) ps) old new
  pub kept : memory_of new.kept ≡ (after_all job (start_of name old) ps).memory
