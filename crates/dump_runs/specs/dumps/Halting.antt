-- What was played of a run over an input that fails: what parts of it give, and a front of what comes after them.
use Rattle.std.specs.Prelude.{◌≡◌, ◌⊎◌, ◌++◌, ◌∷◌, ℕ, List, [], Bool, true, false, Option, IfSome, length}
use Rattle.raw_resync.specs.declared.work.Work.{Work}
use Rattle.dump_io.specs.input.Cut.{EndsWith, IsPiece}
use Rattle.dump_io.specs.input.Endings.{ending_line}
use Rattle.dump_io.specs.lines.Find.{Account}
use Rattle.dump_io.specs.lines.Fronts.{HasFront}
use Rattle.dump_io.specs.declared.input.ending.Ending.{Ending}
use Rattle.dump_io.specs.declared.input.rest.Rest.TheVariants as comes
use Rattle.dump_io.specs.declared.lines.find.Finding.{Finding}
use Rattle.dump_commands.specs.Findings.{FindsFor}
use Rattle.dump_commands.specs.Making.{Makes}
use Rattle.dump_commands.specs.Reporting.{Reports, ReportsFront, lines_of_repeats}
use Rattle.dump_commands.specs.Unique.{repeats_of, written_of}
use Rattle.dump_commands.specs.state.Forms.{Made, placed_at}
use Rattle.dump_commands.specs.declared.job.Job.{Job}
use Rattle.dump_runs.specs.Plays.{Event, Held, Played, given, reported, set_aside}
use Rattle.dump_runs.specs.dumps.Portion.{IsChosen}
use Rattle.dump_runs.specs.dumps.Run.{AreParts, Gap, HasFinding, IsGap, IsTaken, Part, Point, after_all, bytes_of_parts, events_of_parts, from, start_of, style_here}

-- Of a document b that begins here, in which this is found, a front is reported. Or all is reported, and nothing is written, or a front of what
-- is made of it. Or all is written, and a front of the line of its repeat is told.
abbrev pub IsFoundFront : Job → Point → List ℕ → Finding → Option Account → List Event → Type 0
IsFoundFront job here b found account es =
    ((lines : List ℕ) × ReportsFront job.command (style_here job here) here.at b found account lines × (es ≡ reported lines ∷ []))
    ⊎ ((lines : List ℕ) × Reports job.command (style_here job here) here.at b found account lines
    × ((es ≡ reported lines ∷ [])
    ⊎ ((made : List Made) × Makes job.command b found made × ((front : List ℕ) × HasFront (written_of job.command here.memory.known made) front × (es ≡ reported lines ∷ given front ∷ [])))
    ⊎ ((made : List Made) × Makes job.command b found made
    × ((front : List ℕ) × HasFront (lines_of_repeats (style_here job here) (repeats_of job.command here.memory.firsts (placed_at here.at made))) front
    × (es ≡ reported lines ∷ given (written_of job.command here.memory.known made) ∷ reported front ∷ [])))))

-- the same of what is found in it
abbrev pub IsPieceFront : Job → Point → List ℕ → Finding → List Event → Type 0
IsPieceFront job here b found es = (account : Option Account) × FindsFor job.limits job.command b found account × IsFoundFront job here b found account es

-- of a document b that stands alone a front is set aside
abbrev pub IsLoneFront : List ℕ → List Event → Type 0
IsLoneFront b es = (front : List ℕ) × HasFront b front × (es ≡ set_aside front ∷ [])

-- The document b at the front of s, in which this is found, is taken at its length, and stands alone or not; s is the input from here on.
pub record IsNextPiece (job : Job) (s : List ℕ) (here : Point) (b : List ℕ) (found : Finding) (alone : Bool) : Type 0 where
  pub in_front : HasFront s b
  pub work : Work
  pub taken : IsTaken job s here b found work alone

-- this is the line of what is next here and isn't a document: of a gap; or of bytes that are left, as far as they were read
abbrev pub IsNextLine : Job → (rest : Option (List ℕ)) → Point → List ℕ → Type 0
IsNextLine job rest here text =
    ((g : Gap) × IsGap job rest here g × (text ≡ ending_line (style_here job here) here.at.name here.at.offset g.end (comes.PassedOver g.skip)))
    ⊎ ((end : Ending) × (left : List ℕ) × EndsWith job.limits.bytes end left × (job.resync ≡ false) × IfSome rest (λ s. HasFront s left)
    × (text ≡ ending_line (style_here job here) here.at.name here.at.offset end (comes.NotRead (length left))))

-- of what is next here nothing is played, or a front of what a document gives, or of one that stands alone, or of a line
abbrev pub IsNextFront : Job → (rest : Option (List ℕ)) → Point → List Event → Type 0
IsNextFront job rest here es =
    (es ≡ [])
    ⊎ ((b : List ℕ) × (found : Finding) × IsPiece job.limits.bytes b × IfSome rest (λ s. IsNextPiece job s here b found false) × IsPieceFront job here b found es)
    ⊎ ((b : List ℕ) × (found : Finding) × HasFinding job b found × IfSome rest (λ s. IsNextPiece job s here b found true) × IsLoneFront b es)
    ⊎ ((text : List ℕ) × (front : List ℕ) × IsNextLine job rest here text × HasFront text front × (es ≡ reported front ∷ []))

-- How a run over an input fails. The input begins with these parts. What they give was played, and then a front of what is next.
pub record Halts (job : Job) (name : List ℕ) (input : Option (List ℕ)) (old new : Held) : Type 0 where
  pub ps : List Part
  pub in_front : IfSome input (λ s. HasFront s (bytes_of_parts ps))
  pub parts : AreParts job input (start_of name old) ps
  pub front : List ℕ
  pub chosen : IsChosen job.portion job.limits.bytes input front ps
  pub es : List Event
  pub next : IsNextFront job (from (length (bytes_of_parts ps)) input) (after_all job (start_of name old) ps) es
  pub played : Played (events_of_parts job (start_of name old) ps ++ es) old new
