-- What a walk over all levels of a document has passed, and what comes next. No contract of a call for users cites
-- this file.
use Rattle.std.specs.Prelude.{◌≡◌, ◌+◌, ◌-◌, ◌++◌, ◌∷◌, ◌<◌, ◌≤◌, ℕ, suc, Bool, true, false, List, Option, Some, Result, Ok, Err, drop, length, []}
use Rattle.bson_model.specs.Tree.{Tree}
use Rattle.raw_view.specs.Document.{bytes_of}
use Rattle.raw_view.specs.Frame.ElementSteps.{frame_of}
use Rattle.raw_view.specs.Frame.Envelope.{IsEnvelope}
use Rattle.raw_view.specs.Frame.{Frame, IsFrame, LeadsTo}
use Rattle.raw_view.specs.Meaning.{RawValue, Means, value}
use Rattle.raw_view.specs.Meaning.Value.{IsSingle, held_value, value_of}
use Rattle.raw_view.specs.declared.document.RawDocument.{RawDocument}
use Rattle.raw_view.specs.declared.element.RawElement.{RawElement}
use Rattle.raw_tree.specs.reader.Reading.{Holds, as_document, ReadsUpTo}
use Rattle.raw_tree.specs.declared.reader.limits.Limits.{Limits}
use Rattle.raw_tree.specs.walk.Barriers.{TellsBarrier, TellsBarrierWithin, steps_of}
use Rattle.raw_tree.specs.walk.Looking.{size_of}
use Rattle.raw_tree.specs.walk.Places.{BeginsAt, Step}
use Rattle.raw_tree.specs.walk.Visits.{HasVisits, Visit, VisitsEach, end_of, whole, enter, leave}
use Rattle.raw_tree.specs.declared.walk.barrier.BarrierKind.{BarrierKind}
use Rattle.raw_tree.specs.declared.walk.barrier.BarrierKind.TheVariants as kind
use Rattle.raw_tree.specs.declared.walk.level.Level.{Level}
use Rattle.raw_tree.specs.declared.walk.level.Waiting.{Waiting}
use Rattle.raw_tree.specs.declared.walk.Event.{Event}
use Rattle.raw_tree.specs.declared.walk.Event.TheVariants as event
use Rattle.raw_tree.specs.declared.walk.Walk.{Walk}
use Rattle.raw_tree.specs.declared.walk.WalkError.{WalkError}
use Rattle.raw_tree.specs.declared.walk.WalkError.TheVariants as error

-- what is stored of waiting levels

-- the bytes d of a document or an array are at this offset of b
pub record LiesAt (b : List ℕ) (start : ℕ) (d : List ℕ) : Type 0 where
  pub behind : List ℕ
  pub lies : drop start b ≡ d ++ behind
  pub envelope : IsEnvelope d

-- this is stored of a level of b that waits at this step
pub record StoresStep (b : List ℕ) (w : Waiting) (step : Step) : Type 0 where
  pub frame : Frame
  pub rest : List ℕ
  pub at : IsFrame (drop w.element b) frame rest
  pub first : 4 ≤ w.element
  pub step_is : step ≡ record { number = w.number; key = Some frame.key }

-- the same of each level
abbrev pub StoreSteps : List ℕ → List Waiting → List Step → Type 0
StoreSteps b [] steps = steps ≡ []
StoreSteps b (w ∷ ws) [] = ⊥
StoreSteps b (w ∷ ws) (step ∷ steps) = StoresStep b w step × StoreSteps b ws steps

-- this offset is within the stored level of b
pub record GoesOn (b : List ℕ) (w : Waiting) (offset : ℕ) : Type 0 where
  pub bytes : List ℕ
  pub lies : LiesAt b w.start bytes
  pub begins : w.start + 4 ≤ offset
  pub ends : offset ≤ w.start + length bytes

-- the stored level with the bytes d, continued after its element, which ends at this offset
abbrev pub resumed_level : Waiting → List ℕ → ℕ → Level
resumed_level w d offset = record { elements = Some (drop (offset - w.start) d); number = w.number + 1; offset = offset; start = w.start }

-- an entered level with the bytes d, which ends at this offset
abbrev pub entered_level : List ℕ → ℕ → Level
entered_level d end = record { elements = Some (drop 4 d); number = 0; offset = end - length d + 4; start = end - length d }

-- a level after the element that was at its front
abbrev pub level_behind : Level → RawElement → Level
level_behind level e = record { elements = level.elements; number = level.number + 1; offset = level.offset + size_of (frame_of e); start = level.start }

-- what is stored of a level when it waits for the element at its front
abbrev pub stored_level : Level → Waiting
stored_level level = record { start = level.start; element = level.offset; number = level.number }

-- where in the outermost level the element begins that holds the inner levels; if no level waits, this offset
abbrev pub outermost_of : List Waiting → ℕ → ℕ
outermost_of [] offset = offset
outermost_of (w ∷ ws) offset = w.element

-- levels

-- a level: where it begins, its bytes, and what else is known of it
pub record Span (K : Type 0) : Type 0 where
  pub start : ℕ
  pub bytes : List ℕ
  pub known : K

-- a waiting level: these frames of it were passed, and the value of the frame after them holds the next level
pub record Wait (K : Type 0) : Type 0 where
  pub level : Span K
  pub frames : List Frame
  pub f : Frame
  pub v : RawValue

-- the document as a level
abbrev pub whole_span : {K : Type 0} → K → RawDocument → Span K
whole_span known document = record { start = 0; bytes = bytes_of document; known = known }

-- where the bytes after some frames of a level begin
abbrev pub offset_in : {K : Type 0} → Span K → List Frame → ℕ
offset_in i frames = end_of (i.start + 4) frames

-- the step at which a level waits
abbrev pub step_at : {K : Type 0} → Wait K → Step
step_at w = record { number = length w.frames; key = Some w.f.key }

-- what is stored of a waiting level
abbrev pub stored_at : {K : Type 0} → Wait K → Waiting
stored_at w = record { start = w.level.start; element = offset_in w.level w.frames; number = length w.frames }

-- the steps of all waiting levels: the list has the innermost first, the result the outermost
abbrev pub path_of : {K : Type 0} → List (Wait K) → List Step
path_of [] = []
path_of (w ∷ ws) = path_of ws ++ step_at w ∷ []

-- what is stored of all waiting levels, the outermost first
abbrev pub all_stored : {K : Type 0} → List (Wait K) → List Waiting
all_stored [] = []
all_stored (w ∷ ws) = all_stored ws ++ stored_at w ∷ []

-- A level of b waits for the level i in it. At most `inside` levels may be inside the waiting one, and `Behind` holds
-- of both.
pub record IsHeld {K : Type 0} (Behind : ℕ → Wait K → Span K → Type 0) (b : List ℕ) (inside : ℕ) (w : Wait K) (i : Span K) : Type 0 where
  pub s : List ℕ
  pub r : List ℕ
  pub lies : LiesAt b w.level.start w.level.bytes
  pub reaches : LeadsTo (drop 4 w.level.bytes) w.frames s
  pub frame : IsFrame s w.f r
  pub means : Means w.f (value w.v)
  pub holds : Holds w.v i.bytes
  pub ends : i.start + length i.bytes ≡ offset_in w.level w.frames + size_of w.f
  pub knows : Behind inside w i

-- Each level waits for the one before it in the list, and the first waits for i, inside of which this many levels may
-- be. The outermost is the document.
abbrev pub AreHeld : {K : Type 0} → (ℕ → Wait K → Span K → Type 0) → (document : Span K) → (inside : ℕ) → List (Wait K) → Span K → Type 0
AreHeld Behind document inside [] i = i ≡ document
AreHeld Behind document inside (w ∷ ws) i = IsHeld Behind document.bytes (suc inside) w i × AreHeld Behind document (suc inside) ws w.level

-- The levels of a walk over this document: those that wait, and the innermost. At most `most` may wait for the
-- innermost. `known` is known of the document.
pub record AreLevels {K : Type 0} (Behind : ℕ → Wait K → Span K → Type 0) (known : K) (document : RawDocument) (most : ℕ) (walk : Walk) : Type 0 where
  pub inside : ℕ
  pub waits : List (Wait K)
  pub here : Span K
  pub document_is : walk.document ≡ document
  pub most_is : walk.most_waiting ≡ most
  pub many : length waits + inside ≡ most
  pub stored : walk.waiting.items ≡ all_stored waits
  pub held : AreHeld Behind (whole_span known document) inside waits here
  pub lies : LiesAt (bytes_of document) here.start here.bytes

-- The same, and the innermost level has passed some frames. `Fact` holds of the number of levels that may be inside
-- it, of it, and of the frames.
pub record IsAt {K : Type 0} (Behind : ℕ → Wait K → Span K → Type 0) (Fact : ℕ → Span K → List Frame → Type 0) (known : K) (document : RawDocument) (most : ℕ) (walk : Walk)
    (level : Level) : Type 0 where
  pub levels : AreLevels Behind known document most walk
  pub frames : List Frame
  pub rest : List ℕ
  pub reaches : LeadsTo (drop 4 levels.here.bytes) frames rest
  pub left_is : level.elements ≡ Some rest
  pub number_is : level.number ≡ length frames
  pub offset_is : level.offset ≡ offset_in levels.here frames
  pub start_is : level.start ≡ levels.here.start
  pub knows : Fact levels.inside levels.here frames

-- this many elements of the document b are before this offset
pub record IsBehind (b : List ℕ) (number offset : ℕ) : Type 0 where
  pub frames : List Frame
  pub s : List ℕ
  pub reaches : LeadsTo (drop 4 b) frames s
  pub number_is : number ≡ length frames
  pub begins : BeginsAt b s offset

-- steps of the walk

-- the level with this left of it
abbrev pub with_left : Option (List ℕ) → Level → Level
with_left left level = record { elements = left; number = level.number; offset = level.offset; start = level.start }

-- the element at the front of the level ends within the document, and the level's number and start are at most its
-- offset
pub record IsWithin (walk : Walk) (level : Level) (e : RawElement) : Type 0 where
  pub ends : level.offset + size_of (frame_of e) ≤ length (bytes_of walk.document)
  pub number_within : level.number ≤ level.offset
  pub start_within : level.start ≤ level.offset

-- no level waits, and the rest of the outermost level begins at this offset
pub record IsBegun (document : RawDocument) (offset : ℕ) (walk : Walk) (level : Level) : Type 0 where
  pub document_is : walk.document ≡ document
  pub none_waits : walk.waiting.items ≡ []
  pub left_is : level.elements ≡ Some (drop offset (bytes_of document))
  pub offset_is : level.offset ≡ offset
  pub start_is : level.start ≡ 0

-- visits so far

-- What is known of a level is the visits before it. With those of the frames that it has passed, they are all visits
-- so far.
pub record HasSeen (seen : List Visit) (inside : ℕ) (i : Span (List Visit)) (frames : List Frame) : Type 0 where
  pub visits : List Visit
  pub each : VisitsEach (HasVisits inside) (i.start + 4) frames visits
  pub seen_is : seen ≡ i.known ++ visits

-- what is known of an entered level: all visits before its element, then the entry
pub record IsEntered (inside : ℕ) (w : Wait (List Visit)) (i : Span (List Visit)) : Type 0 where
  pub before : List Visit
  pub seen : HasSeen before inside w.level w.frames
  pub known_is : i.known ≡ before ++ enter (offset_in w.level w.frames) w.f w.v ∷ []

-- A walk over this document has come to these visits so far. They are, from the outermost level on: for each waiting
-- level those of its passed frames and the entry into the next level; for the innermost level those of its passed
-- frames. At most `most` levels may wait for the innermost.
pub record HasCome (document : RawDocument) (most : ℕ) (walk : Walk) (level : Level) (seen : List Visit) : Type 0 where
  pub at : IsAt IsEntered (HasSeen seen) [] document most walk level

-- The document has few enough bytes, and the walk has come to nothing yet. Its depth isn't known.
pub record BeginsWithin (limits : Limits) (document : RawDocument) (walk : Walk) (level : Level) : Type 0 where
  pub few : length (bytes_of document) ≤ limits.bytes
  pub most : ℕ
  pub levels : suc most ≡ limits.depth
  pub come : HasCome document most walk level []
  pub none_before : level.number ≡ 0
  pub none_waits : walk.waiting.items ≡ []

-- the error is the first barrier of the document within the limits; or memory ran out, and there are few enough bytes
abbrev pub TellsErrorWithin : Limits → List ℕ → WalkError → Type 0
TellsErrorWithin limits b (error.Barrier answer) = TellsBarrier limits b (Some answer)
TellsErrorWithin limits b error.OutOfMemory = length b ≤ limits.bytes

-- the error is a barrier of this kind, at this step and offset in the level at this path; or memory ran out
abbrev pub IsBarrierAt : List Step → Step → (offset : ℕ) → BarrierKind → WalkError → Type 0
IsBarrierAt path step offset k (error.Barrier b) = (b.kind ≡ k) × (steps_of b.place ≡ path ++ step ∷ []) × (b.place.offset ≡ offset)
IsBarrierAt path step offset k error.OutOfMemory = Unit {0}

-- the error is the first barrier of the document b, inside of which this many levels may be; or memory ran out
abbrev pub TellsError : ℕ → List ℕ → WalkError → Type 0
TellsError most b (error.Barrier answer) = TellsBarrierWithin (suc most) b (Some answer)
TellsError most b error.OutOfMemory = Unit {0}

-- the level in an element is too deep, and the error has its place; or memory ran out
abbrev pub IsTooDeep : Walk → (from : Level) → List Step → RawElement → WalkError → Type 0
IsTooDeep walk from path e (error.Barrier answer) =
    (walk.most_waiting ≤ length walk.waiting.items)
    × IsBarrierAt path (record { number = from.number; key = Some (frame_of e).key }) from.offset kind.TooDeep (error.Barrier answer)
IsTooDeep walk from path e error.OutOfMemory = Unit {0}

-- the level in the element at the front is entered
pub record Enters (old : Walk) (from : Level) (new : Walk) (to : Level) (e : RawElement) (inner : RawDocument) : Type 0 where
  pub document_is : new.document ≡ old.document
  pub most_is : new.most_waiting ≡ old.most_waiting
  pub room : length old.waiting.items < old.most_waiting
  pub stored : new.waiting.items ≡ old.waiting.items ++ stored_level from ∷ []
  pub level_is : to ≡ entered_level (bytes_of inner) (from.offset + size_of (frame_of e))

-- at the final 0 of a level, which is at this offset, the walk returns to the outer level
pub record Leaves (old : Walk) (offset : ℕ) (new : Walk) (to : Level) : Type 0 where
  pub document_is : new.document ≡ old.document
  pub most_is : new.most_waiting ≡ old.most_waiting
  pub w : Waiting
  pub stored : old.waiting.items ≡ new.waiting.items ++ w ∷ []
  pub level_is : (d : List ℕ) → LiesAt (bytes_of old.document) w.start d → to ≡ resumed_level w d (offset + 1)

-- at the final 0 the walk returns to the outer level; or no level waits
abbrev pub LeavesOrEnds : Walk → (offset : ℕ) → Walk → (to : Level) → Bool → Type 0
LeavesOrEnds old offset new to true = Leaves old offset new to
LeavesOrEnds old offset new to false = old.waiting.items ≡ []

-- the barrier is at this offset
abbrev pub IsThere : (offset : ℕ) → WalkError → Type 0
IsThere offset (error.Barrier answer) = answer.place.offset ≡ offset
IsThere offset error.OutOfMemory = Unit {0}

-- the frame of a visited element ends within the bytes b
abbrev pub EndsWithin : List ℕ → Visit → Type 0
EndsWithin b (whole offset f v) = offset + size_of f ≤ length b
EndsWithin b (enter offset f v) = offset + size_of f ≤ length b
EndsWithin b leave = Unit {0}

-- after an event: the walk has come to one more visit, and some bytes were passed
pub record ComesTo (document : RawDocument) (most : ℕ) (from : Level) (seen : List Visit) (walk : Walk) (to : Level) (x : Visit) : Type 0 where
  pub come : HasCome document most walk to (seen ++ x ∷ [])
  pub further : from.offset < to.offset
  pub within : to.offset ≤ length (bytes_of document)
  pub ends : EndsWithin (bytes_of document) x

-- What a walk over this document comes to next, where at most `most` levels may wait for the innermost. So far it has
-- come to these visits and is in the level `from`; then it is in the level `to`. At the end these are all visits of
-- the document. An error is the first barrier of the document, at the position of `from`, or memory ran out.
abbrev pub Comes : RawDocument → (most : ℕ) → List Visit → Walk → (from : Level) → Walk → (to : Level) → Result Event WalkError → Type 0
Comes document most seen old from new to (Ok (event.Whole e v)) =
    ComesTo document most from seen new to (whole from.offset (frame_of e) (value_of v)) × IsSingle (value_of v) × (to.number ≡ from.number + 1)
    × (length new.waiting.items ≡ length old.waiting.items)
Comes document most seen old from new to (Ok (event.Enter e inner)) =
    ComesTo document most from seen new to (enter from.offset (frame_of e) (held_value inner)) × (to.number ≡ 0) × (length new.waiting.items ≡ suc (length old.waiting.items))
Comes document most seen old from new to (Ok event.Leave) =
    ComesTo document most from seen new to leave × (0 < to.number) × (length old.waiting.items ≡ suc (length new.waiting.items))
Comes document most seen old from new to (Ok event.End) =
    HasVisits (suc most) 0 (bytes_of document) seen × ((t : Tree) × ReadsUpTo (suc most) as_document (bytes_of document) t) × (old.waiting.items ≡ [])
Comes document most seen old from new to (Err e) = TellsError most (bytes_of document) e × IsThere from.offset e
