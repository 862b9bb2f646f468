-- What the bytes of a piece are, at every level of a document.
use Rattle.std.specs.Prelude.{◌≡◌, ◌≢◌, ◌⊎◌, ◌+◌, ◌*◌, ◌-◌, ℕ, suc, zero, List, [], ◌∷◌, ◌++◌, Bool, true, false, Option, None, Some, codes, cond, decimal, drop, length, nat_lt, take}
use Rattle.dump_io.specs.lines.Quoting.{quoted}
use Rattle.dump_io.specs.lines.Find.{explanation_text, reason_explained}
use Rattle.dump_io.specs.lines.Fronts.{HasFront}
use Rattle.dump_io.specs.lines.Values.{ShowsBehind, size_text}
use Rattle.raw_view.specs.Frame.Envelope.{IsEnvelope, Refuses}
use Rattle.raw_view.specs.Frame.{Frame, HasKey, IsFrame, IsStop, LeadsTo, Fault}
use Rattle.raw_view.specs.Frame.Kind.{kind_text, tag_of}
use Rattle.raw_view.specs.Meaning.{RawValue, KeyedFault, Means, value, faulty}
use Rattle.raw_view.specs.Meaning as raw
use Rattle.raw_view.specs.Meaning.Value.{HoldsLevel}
use Rattle.raw_view.specs.declared.element_type.ElementType.{ElementType}
use Rattle.raw_view.specs.declared.element_type.ElementType.TheVariants as kind
use Rattle.raw_view.specs.declared.error.Reason.{Reason}
use Rattle.raw_view.specs.declared.error.Reason.TheVariants as reason
use Rattle.raw_view.specs.declared.level.RawLevel.{RawLevel}
use Rattle.raw_view.specs.Document.{bytes_of}
use Rattle.dump_commands.specs.declared.elements.level.Level.{Level}
use Rattle.dump_commands.specs.declared.elements.level.Next.{Next}
use Rattle.dump_commands.specs.declared.elements.level.Next.TheVariants as next
use Rattle.dump_commands.specs.elements.Listing.{ShowsFault, ShowsFrameFault}
use Rattle.dump_commands.specs.elements.Runs.{Run, Sheet, document_lines, fault_run, is_shown, run_of, shown_end, shown_lines}

-- what the four bytes of a length say
abbrev pub length_text : List ℕ → List ℕ
length_text (a ∷ b ∷ c ∷ d ∷ []) = codes "length: " ++ decimal (a + 256 * b + 65536 * c + 16777216 * d)
length_text _ = codes "length"

-- the length with which a document or a value begins
abbrev pub length_run : ℕ → List ℕ → Run
length_run depth p = run_of depth (take 4 p) (length_text (take 4 p))

-- a value of this kind begins with a length. BSON 1.1, `string`, `binary`, `code_w_s`.
abbrev pub begins_with_length : ElementType → Bool
begins_with_length kind.String = true
begins_with_length kind.Binary = true
begins_with_length kind.DbPointer = true
begins_with_length kind.JavaScriptCode = true
begins_with_length kind.Symbol = true
begins_with_length kind.JavaScriptCodeWithScope = true
begins_with_length _ = false

-- the bytes p of a value of this kind, of which this is said: its length, if it begins with one, and the others
abbrev pub payload_runs : ℕ → ElementType → List ℕ → List ℕ → List Run
payload_runs depth what p text = cond (begins_with_length what) (length_run depth p ∷ run_of depth (drop 4 p) text ∷ []) (run_of depth p text ∷ [])

-- the bytes of the value that a frame means, of which this is said, without those of the level that it holds
abbrev pub value_runs : ℕ → Frame → RawValue → List ℕ → List Run
value_runs depth f (raw.single l) text = payload_runs depth f.kind f.payload text
value_runs depth f (raw.document d) text = []
value_runs depth f (raw.array d) text = []
value_runs depth f (raw.scoped code d) text = payload_runs depth f.kind (take (length f.payload - length d) f.payload) text

-- a key; of one of over 64 bytes how many these are
abbrev pub key_text : List ℕ → List ℕ
key_text key = cond (nat_lt 64 (length key)) (codes "key" ++ size_text (length key)) (codes "key " ++ quoted key)

-- a key and its 0
abbrev pub key_run : ℕ → List ℕ → Run
key_run depth key = run_of depth (key ++ 0 ∷ []) (key_text key)

-- the tag and the key of an element, and whether reading fails there
abbrev pub head_runs : Bool → ℕ → Frame → List Run
head_runs is_fault depth f = record { bytes = tag_of f.kind ∷ []; depth = depth; is_fault = is_fault; text = kind_text f.kind } ∷ (key_run depth f.key ∷ [])

-- the runs of a sound element, of whose value this is said, without those of the level in it
abbrev pub sound_runs : ℕ → Frame → RawValue → List ℕ → List Run
sound_runs depth f v text = head_runs false depth f ++ value_runs depth f v text

-- the runs of an element whose value is at fault, with the reason: reading fails at the element, and at the value
abbrev pub faulty_runs : ℕ → Frame → List ℕ → List Run
faulty_runs depth f text = head_runs true depth f ++ fault_run depth f.payload text ∷ []

-- what a byte says that is no tag
abbrev pub no_tag_text : ℕ → List ℕ
no_tag_text zero = codes "no such tag; a final 0 may be too early"
no_tag_text (suc n) = codes "no such tag"

-- what a tag says: the kind, or that no kind has it
abbrev pub SaysTag : ℕ → List ℕ → Type 0
SaysTag tag text = ((what : ElementType) × (tag ≡ tag_of what) × (text ≡ kind_text what)) ⊎ (((what : ElementType) → tag ≢ tag_of what) × (text ≡ no_tag_text tag))

-- a tag, a key that isn't UTF-8 with the reason, and the others, which aren't read
abbrev pub bad_key_runs : ℕ → (s key : List ℕ) → HasKey s key → (name why : List ℕ) → List Run
bad_key_runs depth s key at name why =
    fault_run depth (at.tag ∷ []) name ∷ (fault_run depth (key ++ 0 ∷ []) why ∷ (run_of depth at.behind (codes "not read") ∷ []))

-- a tag, a key, and the others with the reason
abbrev pub no_value_runs : ℕ → (s key : List ℕ) → HasKey s key → (name why : List ℕ) → List Run
no_value_runs depth s key at name why = fault_run depth (at.tag ∷ []) name ∷ (key_run depth key ∷ (fault_run depth at.behind why ∷ []))

-- the runs of what is left of a level, s, where it stops for this reason: reading fails at the tag, if one is left, and where the reason is said
abbrev pub HasStopRuns : ℕ → List ℕ → Option (List ℕ) → List ℕ → List Run → Type 0
HasStopRuns depth s None why runs =
    ((s ≡ []) × (runs ≡ fault_run depth s why ∷ []))
    ⊎ ((key : List ℕ) × (at : HasKey s key) × (name : List ℕ) × SaysTag at.tag name × (runs ≡ bad_key_runs depth s key at name why))
HasStopRuns depth s (Some key) why runs = (at : HasKey s key) × (name : List ℕ) × SaysTag at.tag name × (runs ≡ no_value_runs depth s key at name why)

-- the runs of what is left of a level, s, after its elements: the final 0, or a stop
abbrev pub HasEndRuns : ℕ → List ℕ → List Run → Type 0
HasEndRuns depth s runs =
    ((s ≡ 0 ∷ []) × (runs ≡ run_of depth s (codes "final 0") ∷ []))
    ⊎ ((fault : Fault) × (key : Option (List ℕ)) × (words : List ℕ) × IsStop s fault key × ShowsFault fault words × HasStopRuns depth s key words runs)

-- which runs these are: all, or the first, after which others follow
pub data Extent : Type 0 where
  Whole : Extent
  Begun : Extent

-- Runs, where Nested says which the bytes of a level inside have.
module _ (Nested : List ℕ → List Run → Type 0) where
  -- the runs of the level that a value holds
  abbrev pub HasInnerRuns : RawValue → List Run → Type 0
  HasInnerRuns (raw.single l) runs = runs ≡ []
  HasInnerRuns (raw.document d) runs = Nested d runs
  HasInnerRuns (raw.array d) runs = Nested d runs
  HasInnerRuns (raw.scoped code d) runs = Nested d runs

  -- The runs of a frame: those of the value that it means, and of the level in that; or of the fault that it means. The words of a value are those
  -- of `list` after its kind, without the colon or the comma.
  abbrev pub HasFrameRuns : ℕ → Frame → List Run → Type 0
  HasFrameRuns depth f runs =
      ((v : RawValue) × (shown : List ℕ) × (inner : List Run) × Means f (value v) × ShowsBehind v shown × HasInnerRuns v inner
      × (runs ≡ sound_runs depth f v (drop 2 shown) ++ inner))
      ⊎ ((fault : KeyedFault) × (shown : List ℕ) × Means f (faulty fault) × ShowsFrameFault f fault.fault shown × (runs ≡ faulty_runs depth f shown))

  -- the runs of frames one after the other
  abbrev pub HaveFrameRuns : ℕ → List Frame → List Run → Type 0
  HaveFrameRuns depth [] runs = runs ≡ []
  HaveFrameRuns depth (f ∷ fs) runs = (first rest : List Run) × HasFrameRuns depth f first × HaveFrameRuns depth fs rest × (runs ≡ first ++ rest)

-- The same, where Nested says which they have of each extent.
module _ (Nested : Extent → List ℕ → List Run → Type 0) where
  -- after frames that have all their runs: all that are left of the level s; or none, or the first of the frame that is next
  abbrev pub HasNextRuns : Extent → ℕ → List ℕ → List Run → Type 0
  HasNextRuns Whole depth s runs = HasEndRuns depth s runs
  HasNextRuns Begun depth s runs = (runs ≡ []) ⊎ ((f : Frame) × (r : List ℕ) × IsFrame s f r × HasFrameRuns (Nested Begun) depth f runs)

  -- the runs of what is left of a level, s
  abbrev pub HasLeftRuns : Extent → ℕ → List ℕ → List Run → Type 0
  HasLeftRuns extent depth s runs =
      (frames : List Frame) × (left : List ℕ) × (elements last : List Run) × LeadsTo s frames left × HaveFrameRuns (Nested Whole) depth frames elements
      × HasNextRuns extent depth left last × (runs ≡ elements ++ last)

-- The runs of the bytes b, which have `depth` levels around them, and of which at most this number of levels are shown: the length, then what
-- follows it. A level that is too deep is one run.
abbrev pub HasRuns : ℕ → (depth : ℕ) → Extent → List ℕ → List Run → Type 0
HasRuns zero depth extent b runs = runs ≡ fault_run depth b (codes "over 500 levels") ∷ []
HasRuns (suc n) depth extent b runs =
    (rest : List Run) × HasLeftRuns (HasRuns n (depth + 1)) extent depth (drop 4 b) rest × (runs ≡ length_run depth b ∷ rest)

-- the runs of bytes of which the last should be 0, with the reason: reading fails there
abbrev pub unended_runs : List ℕ → List ℕ → List Run
unended_runs b why = length_run 0 b ∷ (run_of 0 (take (length b - 5) (drop 4 b)) (codes "not read") ∷ (fault_run 0 (drop (length b - 1) b) why ∷ []))

-- the runs of bytes of which there are too few, or whose length is wrong: reading fails at the length
abbrev pub misled_runs : List ℕ → List ℕ → List Run
misled_runs b why = fault_run 0 (take 4 b) why ∷ (run_of 0 (drop 4 b) (codes "not read") ∷ [])

abbrev pub is_unended : Reason → Bool
is_unended reason.NotTerminated = true
is_unended _ = false

-- the runs of bytes that have no envelope for this reason, which is told in these words
abbrev pub refused_runs : List ℕ → Reason → List ℕ → List Run
refused_runs b why words = cond (is_unended why) (unended_runs b words) (misled_runs b words)

-- the runs of a piece, of 500 levels at most
abbrev pub HasPieceRuns : Extent → List ℕ → List Run → Type 0
HasPieceRuns extent b runs =
    (IsEnvelope b × HasRuns 500 0 extent b runs)
    ⊎ ((why : Reason) × Refuses b why × (runs ≡ refused_runs b why (codes "damaged: " ++ explanation_text (reason_explained why))))

-- a piece at this offset, of which this number of bytes is enough
abbrev pub sheet_at : Option ℕ → (base : ℕ) → List ℕ → Sheet
sheet_at most base b = record { most = most; base = base; size = length b }

-- no further run is shown
abbrev pub IsEnough : Sheet → Extent → List Run → Type 0
IsEnough sheet Whole runs = Unit {0}
IsEnough sheet Begun runs = is_shown sheet (shown_end sheet 0 runs) ≡ false

-- The lines that show a piece at this offset: those of its runs, or of the first, if no further one is shown. There is one such text, but for how a
-- double is written.
abbrev pub ShowsPiece : Option ℕ → (base : ℕ) → List ℕ → List ℕ → Type 0
ShowsPiece most base b text =
    (extent : Extent) × (runs : List Run) × HasPieceRuns extent b runs × IsEnough (sheet_at most base b) extent runs
    × (text ≡ document_lines (sheet_at most base b) runs)

-- a front of them: of those of first runs, each of which is followed by others in some text as above; or of the whole
abbrev pub ShowsPieceFront : Option ℕ → (base : ℕ) → List ℕ → List ℕ → Type 0
ShowsPieceFront most base b text =
    (text ≡ [])
    ⊎ ((extent : Extent) × (runs : List Run) × HasPieceRuns extent b runs × HasFront (shown_lines (sheet_at most base b) 0 runs) text)
    ⊎ ((lines : List ℕ) × ShowsPiece most base b lines × HasFront lines text)

-- What the code tells of runs. No public contract cites what follows.

-- these are the runs of a frame, without those of the level in it: those of its value, which holds this level or none; or those of its fault
abbrev pub TellsFrame : ℕ → Frame → List Run → Option RawLevel → Type 0
TellsFrame depth f runs inner =
    ((v : RawValue) × (shown : List ℕ) × Means f (value v) × ShowsBehind v shown × HoldsLevel v inner × (runs ≡ sound_runs depth f v (drop 2 shown)))
    ⊎ ((fault : KeyedFault) × (shown : List ℕ) × Means f (faulty fault) × ShowsFrameFault f fault.fault shown × (inner ≡ None) × (runs ≡ faulty_runs depth f shown))

-- what is left of a level
abbrev pub left_in : Level → List ℕ
left_in level = drop level.offset (bytes_of level.document)

-- What a step over a level tells, of which s is left and then t: its end; an element without a level; or one with this level inside.
abbrev pub StepsRuns : ℕ → (s t : List ℕ) → List Run → Next → Type 0
StepsRuns depth s t runs next.End = HasEndRuns depth s runs
StepsRuns depth s t runs next.Element = (f : Frame) × IsFrame s f t × TellsFrame depth f runs None
StepsRuns depth s t runs (next.Inside inner) = (f : Frame) × IsFrame s f t × TellsFrame depth f runs (Some inner)
