-- What the code tells of an input that is read, and of the part that is next in it. No public contract cites this file.
use Rattle.std.specs.Prelude.{◌≡◌, ◌⊎◌, ◌+◌, ℕ, List, [], ◌∷◌, ◌++◌, Bool, true, false, Option, IsNone, drop, length, take}
use Rattle.std.specs.Io.KnownBytes.{Consumes, IsAtEnd}
use Rattle.raw_resync.specs.Seeking.{IsWork, no_work}
use Rattle.raw_resync.specs.declared.work.Work.{Work}
use Rattle.dump_io.specs.input.Cut.{EndsWith, IsPiece}
use Rattle.dump_io.specs.input.Endings.{ending_line}
use Rattle.dump_io.specs.input.InFront.{HasPassedFront, IsAllInFront, IsInFront}
use Rattle.dump_io.specs.input.Reading.{IsReadBehind, IsWindow, Stays, ahead_of, offset_of}
use Rattle.dump_io.specs.input.Resync.{IsAll, Reached, Searches, SkipsTo, reached}
use Rattle.dump_io.specs.lines.Fronts.{HasFront}
use Rattle.dump_io.specs.lines.Origins.{Origin, origin_at, origin_of}
use Rattle.dump_io.specs.declared.input.ending.Ending.{Ending}
use Rattle.dump_io.specs.declared.input.ending.Ending.TheVariants as ending
use Rattle.dump_io.specs.declared.input.portion.Portion.{Portion}
use Rattle.dump_io.specs.declared.input.rest.Rest.TheVariants as comes
use Rattle.dump_io.specs.declared.input.resync.Skip.{Skip}
use Rattle.dump_io.specs.declared.input.window.Drained.{Drained}
use Rattle.dump_io.specs.declared.input.window.Next.{Next}
use Rattle.dump_io.specs.declared.input.window.Next.TheVariants as next
use Rattle.dump_io.specs.declared.input.window.Window.{Window}
use Rattle.dump_io.specs.declared.lines.find.Finding.{Finding}
use Rattle.dump_commands.specs.Findings.{IsJudged}
use Rattle.dump_commands.specs.declared.counts.Counts.{Counts}
use Rattle.dump_commands.specs.declared.job.Job.{Job}
use Rattle.dump_runs.specs.dumps.Ends.{events_of_rest}
use Rattle.dump_runs.specs.dumps.Halting.{IsLoneFront, IsNextFront, IsPieceFront}
use Rattle.dump_runs.specs.Plays.{Event, Held, Played, reported}
use Rattle.dump_runs.specs.dumps.Portion.{IsChosen, IsEnough, IsRunOver}
use Rattle.dump_runs.specs.Limits.{style_at}
use Rattle.dump_runs.specs.dumps.Run.{Entry, IsEntry, IsPart, MayBeAlone, Part, Passed, Point, TellsApart, after, bytes_of_part, bytes_of_parts, events_of, events_of_gap, events_of_lone, findings_in, memory_of, repeats_in, texts_of, with_entry}
use Rattle.dump_runs.specs.declared.ends.Ended.{Ended}
use Rattle.dump_runs.specs.declared.ends.Ended.TheVariants as how
use Rattle.dump_runs.specs.declared.dumps.piece.Piece.{Piece}
use Rattle.dump_runs.specs.declared.dumps.piece.Step.{Step}
use Rattle.dump_runs.specs.declared.dumps.piece.Step.TheVariants as step
use Rattle.dump_runs.specs.declared.dumps.run.Stop.{Stop}
use Rattle.dump_runs.specs.declared.dumps.run.Stop.TheVariants as stop

-- an input that is read: its name, what its reader has left, whether a read of it failed, what was read and isn't passed, what searches cost, and
-- whether what is next may stand alone
pub record Place : Type 0 where
  pub name : List ℕ
  pub left : Option (List ℕ)
  pub has_failed : Bool
  pub window : Window
  pub work : Work
  pub broken : Bool

-- how far it is read
abbrev pub reach_of : Place → Reached
reach_of x = reached x.left x.window x.work

-- how many of its bytes were read
abbrev pub end_of : Place → ℕ
end_of x = offset_of x.window + length (ahead_of x.window)

-- where its next part begins
abbrev pub place_of : Place → Origin
place_of x = origin_at x.name (offset_of x.window)

abbrev pub point_of : Place → Held → Point
point_of x held = record { at = place_of x; work = x.work; broken = x.broken; counts = held.counts; memory = memory_of held.kept }

-- nothing is read of an input of this name, of which these bytes are known
pub record Begins (name : List ℕ) (input : Option (List ℕ)) (x : Place) : Type 0 where
  pub named : x.name ≡ name
  pub left : x.left ≡ input
  pub window : IsWindow x.window
  pub nothing : ahead_of x.window ≡ []
  pub start : offset_of x.window ≡ 0
  pub unworked : x.work ≡ no_work
  pub whole : x.broken ≡ false
  pub unfailed : x.has_failed ≡ false

-- this number of the bytes ahead were passed, and what is next may stand alone or not
pub record IsPassed (len : ℕ) (broken : Bool) (x y : Place) : Type 0 where
  pub named : y.name ≡ x.name
  pub left : y.left ≡ x.left
  pub work : y.work ≡ x.work
  pub is_broken : y.broken ≡ broken
  pub window : IsWindow y.window
  pub ahead : ahead_of y.window ≡ drop len (ahead_of x.window)
  pub offset : offset_of y.window ≡ offset_of x.window + len

-- bytes before the documents that are asked for were passed
pub record PassesSomeFront (p : Portion) (most : ℕ) (x y : Place) : Type 0 where
  pub named : y.name ≡ x.name
  pub work : y.work ≡ x.work
  pub same : y.broken ≡ x.broken
  pub front : List ℕ
  pub has : HasPassedFront front x.left y.left y.window
  pub is : IsInFront p most x.left front

-- all were
pub record PassesAllFront (p : Portion) (most : ℕ) (x y : Place) : Type 0 where
  pub named : y.name ≡ x.name
  pub work : y.work ≡ x.work
  pub same : y.broken ≡ x.broken
  pub front : List ℕ
  pub has : HasPassedFront front x.left y.left y.window
  pub is : IsAllInFront p most x.left front

-- a part is passed
pub record Passes (job : Job) (p : Part) (x y : Place) (old new : Held) : Type 0 where
  pub window : IsWindow y.window
  pub work : IsWork y.work
  pub to : point_of y new ≡ after job (point_of x old) p
  pub is_read : (before : Option (List ℕ)) → Consumes before x.left (ahead_of x.window) → Consumes before y.left (bytes_of_part p ++ ahead_of y.window)
  pub is : (rest : Option (List ℕ)) → Consumes rest x.left (ahead_of x.window) → IsPart job rest (point_of x old) p
  pub played : Played (events_of job (point_of x old) p) old new

-- bytes were read, and none passed, and nothing is written
pub record Looks (x y : Place) (old new : Held) : Type 0 where
  pub named : y.name ≡ x.name
  pub stays : Stays x.left y.left x.window y.window
  pub same : new ≡ old

-- what is next is passed, or it is the end of the input, or bytes that no document begins with, where none are passed over
abbrev pub PassesNext : Job → (x y : Place) → (old new : Held) → Step → Type 0
PassesNext job x y old new step.Passed = (p : Part) × IsRunOver p × Passes job p x y old new
PassesNext job x y old new step.End = Looks x y old new × (ahead_of y.window ≡ []) × IsAtEnd y.left
PassesNext job x y old new (step.Left end) = Looks x y old new × EndsWith job.limits.bytes end (ahead_of y.window) × IsReadBehind end y.left × (job.resync ≡ false)

-- it isn't passed, and a front of what it gives is played
abbrev pub HaltsNext : Job → Place → (old new : Held) → Type 0
HaltsNext job x old new = (es : List Event) × Played es old new × ((rest : Option (List ℕ)) → Consumes rest x.left (ahead_of x.window) → IsNextFront job rest (point_of x old) es)

-- the document of this length is next, which is taken at it or not
abbrev pub next_of : ℕ → Bool → Next
next_of len true = next.Document len
next_of len false = next.End (ending.WrongLength len)

-- what is found in a document within the limits of a job, where this was counted before it
abbrev pub IsPieceOf : Job → Counts → Piece → Type 0
IsPieceOf job n piece =
    IsPiece job.limits.bytes piece.bytes.now
    × IsJudged job.limits job.command (style_at job.style job.limit n) (origin_of piece.at) piece.bytes.now piece.judged

abbrev pub point_at : Piece → Work → Bool → Held → Point
point_at piece work broken held = record { at = origin_of piece.at; work = work; broken = broken; counts = held.counts; memory = memory_of held.kept }

-- what a document gives is written, and it isn't counted yet
pub record GivesEntry (job : Job) (piece : Piece) (here : Point) (e : Entry) (old new : Held) : Type 0 where
  pub bytes : e.bytes ≡ piece.bytes.now
  pub finding : e.finding ≡ piece.judged.finding
  pub is : IsEntry job here e
  pub played : Played (texts_of job here e) old new
  pub kept : memory_of new.kept ≡ with_entry job here e

-- the same, whatever searches cost before it and after it, and whether it may stand alone; and it has this number of findings
abbrev pub GivesPiece : Job → Piece → (old new : Held) → ℕ → Type 0
GivesPiece job piece old new findings =
    (before behind : Work) (broken : Bool)
    → (e : Entry) × (e.work ≡ behind) × GivesEntry job piece (point_at piece before broken old) e old new
    × (findings ≡ findings_in job.command e.finding + length (repeats_in job (point_at piece before broken old) e))

-- a front of it is played
abbrev pub HaltsPiece : Job → Piece → (old new : Held) → Type 0
HaltsPiece job piece old new =
    (es : List Event) × Played es old new × ((before : Work) (broken : Bool) → IsPieceFront job (point_at piece before broken old) piece.bytes.now piece.judged.finding es)

-- whether the document of this length at the front of the bytes ahead stands alone, in which this is found
pub record LooksApart (job : Job) (found : Finding) (x y : Place) (len : ℕ) (alone : Bool) : Type 0 where
  pub searches : Searches job.limits (reach_of x) (reach_of y)
  pub same : y.broken ≡ x.broken
  pub is : (s : List ℕ) → IsAll (reach_of x) s → TellsApart job.limits (MayBeAlone job.command x.broken found) s (offset_of x.window) len x.work y.work alone

-- it is set aside, counted and passed
pub record SetsAside (len : ℕ) (x y : Place) (old new : Held) : Type 0 where
  pub passed : IsPassed len true x y
  pub played : Played (events_of_lone (take len (ahead_of x.window))) old new
  pub kept : new.kept ≡ old.kept

-- a front of it is set aside
abbrev pub HaltsAside : List ℕ → (old new : Held) → Type 0
HaltsAside b old new = (es : List Event) × Played es old new × IsLoneFront b es

-- at the bytes ahead no document begins, and bytes are passed over; their line was written
pub record PassesGap (job : Job) (end : Ending) (x y : Place) (old new : Held) : Type 0 where
  pub skip : Skip
  pub named : y.name ≡ x.name
  pub broken : y.broken ≡ true
  pub skips : SkipsTo job.limits (reach_of x) (reach_of y) skip
  pub played : Played (events_of_gap (style_at job.style job.limit old.counts) (place_of x) end skip) old new
  pub kept : new.kept ≡ old.kept

-- some bytes were passed over, and this is their line
pub record IsGapLine (job : Job) (end : Ending) (x : Place) (n : Counts) (text : List ℕ) : Type 0 where
  pub y : Place
  pub skip : Skip
  pub skips : SkipsTo job.limits (reach_of x) (reach_of y) skip
  pub is : text ≡ ending_line (style_at job.style job.limit n) x.name (offset_of x.window) end (comes.PassedOver skip)

-- nothing is played, or a front of a line that is so
abbrev pub HaltsLine : (List ℕ → Type 0) → (old new : Held) → Type 0
HaltsLine Is old new = (es : List Event) × Played es old new × ((es ≡ []) ⊎ ((text : List ℕ) × (front : List ℕ) × Is text × HasFront text front × (es ≡ reported front ∷ [])))

abbrev pub HaltsGap : Job → Ending → Place → (old new : Held) → Type 0
HaltsGap job end x old new = HaltsLine (IsGapLine job end x old.counts) old new

-- The rest of an input, with which no document begins, is read: bytes that are ahead, and others after them; and their number.
pub record IsLeft (most : ℕ) (end : Ending) (read_old read_new : Option (List ℕ)) (ahead : List ℕ) (rest : Drained) : Type 0 where
  pub more : List ℕ
  pub is_read : (before : Option (List ℕ)) → Consumes before read_old ahead → Consumes before read_new (ahead ++ more)
  pub ends : EndsWith most end (ahead ++ more)
  pub len : length (ahead ++ more) ≡ rest.count
  pub to_end : IsNone rest.failure → IsAtEnd read_new

-- a rest was read that ends here: all of it, or reading failed after it
abbrev pub EndsAt : ℕ → Ended → Type 0
EndsAt end how.Whole = ⊥
EndsAt end how.Cut = Unit {0}
EndsAt end (how.Failed failure) = failure.at ≡ end

-- The rest of an input, with which no document begins, is counted, and its line is written. Reading fails after it, or it is all.
pub record Leaves (job : Job) (end : Ending) (x y : Place) (old new : Held) (ended : Ended) : Type 0 where
  pub rest : List ℕ
  pub is_read : (before : Option (List ℕ)) → Consumes before x.left (ahead_of x.window) → Consumes before y.left rest
  pub ends : EndsWith job.limits.bytes end rest
  pub to_end : ended ≡ how.Cut → IsAtEnd y.left
  pub ends_at : EndsAt (offset_of x.window + length rest) ended
  pub played : Played (events_of_rest (style_at job.style job.limit old.counts) (place_of x) end (length rest)) old new
  pub kept : new.kept ≡ old.kept

-- the rest was read, and this is its line
pub record IsRestLine (job : Job) (end : Ending) (x : Place) (n : Counts) (text : List ℕ) : Type 0 where
  pub rest : List ℕ
  pub left : Option (List ℕ)
  pub is_read : (before : Option (List ℕ)) → Consumes before x.left (ahead_of x.window) → Consumes before left rest
  pub ends : EndsWith job.limits.bytes end rest
  pub is : text ≡ ending_line (style_at job.style job.limit n) x.name (offset_of x.window) end (comes.NotRead (length rest))

abbrev pub HaltsLeaving : Job → Ending → Place → (old new : Held) → Type 0
HaltsLeaving job end x old new = HaltsLine (IsRestLine job end x old.counts) old new

-- reading fails, and the last part ended here
abbrev pub FailsAt : ℕ → Stop → Type 0
FailsAt here (stop.Failed at error) = at ≡ here
FailsAt here _ = ⊥

-- reading fails
abbrev pub HasFailed : Stop → Type 0
HasFailed (stop.Failed at error) = Unit {0}
HasFailed _ = ⊥

-- How parts end that reach to this offset, where this rest was read after them: at the end of the input; before it; with bytes that no document
-- begins with; or with an error.
abbrev pub EndsParts : Job → Place → (end : ℕ) → (rest : List ℕ) → Stop → Type 0
EndsParts job y end rest stop.End = (rest ≡ []) × IsAtEnd y.left
EndsParts job y end rest stop.Enough = Unit {0}
EndsParts job y end rest (stop.Left why) =
    (rest ≡ ahead_of y.window) × (offset_of y.window ≡ end) × EndsWith job.limits.bytes why rest × IsReadBehind why y.left × (job.resync ≡ false)
EndsParts job y end rest (stop.Failed at error) = (at ≡ end) × (end_of y ≡ end + length rest)

-- parts were passed of those that are asked for, and how they end
pub record PassesAll (job : Job) (x y : Place) (old new : Held) (ended : Stop) : Type 0 where
  pub named : y.name ≡ x.name
  pub window : IsWindow y.window
  pub rest : List ℕ
  pub passed : Passed job x.name x.left y.left rest old new
  pub front : List ℕ
  pub chosen : IsChosen job.portion job.limits.bytes x.left front passed.ps
  pub to_front : IsAllInFront job.portion job.limits.bytes x.left front ⊎ HasFailed ended
  pub to_last : ended ≡ stop.Enough → IsEnough job.portion passed.ps
  pub stops : EndsParts job y (length (bytes_of_parts passed.ps)) rest ended
