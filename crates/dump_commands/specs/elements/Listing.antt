-- The elements of every level of a document, a line each, indented. The bytes b of a document, or of an array, have an
-- envelope.
use Rattle.std.specs.Prelude.{◌≡◌, ◌⊎◌, ◌*◌, ◌+◌, ℕ, suc, zero, List, [], ◌∷◌, ◌++◌, Option, None, Some, Ok, Err, codes, drop, replicate}
use Rattle.std.specs.Option.{option_copied}
use Rattle.dump_io.specs.lines.Quoting.{quoted}
use Rattle.raw_view.specs.Frame.Envelope.{IsEnvelope, Refuses}
use Rattle.raw_view.specs.Errors.{IsReadingKind, SaysFault}
use Rattle.raw_view.specs.Frame.{Frame, IsFrame, IsStop, IsWalk, LeadsTo, Fault, End, Done, Stopped}
use Rattle.raw_view.specs.Frame.ElementSteps.{frame_of}
use Rattle.raw_view.specs.Frame.Front.{StepsFront}
use Rattle.raw_view.specs.Frame.Kind.{kind_text}
use Rattle.raw_view.specs.Meaning.{RawValue, KeyedFault, Means, value, faulty}
use Rattle.raw_view.specs.Meaning as raw
use Rattle.raw_view.specs.Meaning.Value.{HoldsLevel}
use Rattle.raw_view.specs.declared.element.RawElement.{RawElement}
use Rattle.raw_view.specs.declared.error.BorrowedError.{BorrowedError}
use Rattle.raw_view.specs.declared.error.ErrorKind.{ErrorKind}
use Rattle.raw_view.specs.declared.error.Reason.{Reason}
use Rattle.raw_view.specs.declared.level.RawLevel.{RawLevel}
use Rattle.dump_io.specs.lines.Find as find
use Rattle.dump_io.specs.lines.Fronts.{HasFront}
use Rattle.dump_io.specs.lines.Values.{ShowsValue, sized_text}
use Rattle.hex.specs.Hex.{encode_lower}
use Rattle.raw_form.specs.Replacing.{HasBadText}
use Rattle.dump_commands.specs.declared.elements.listing.Next.{Next}
use Rattle.dump_commands.specs.declared.elements.listing.Next.TheVariants as next

-- a line in a level with this number of others around it: two spaces for each level
abbrev pub indented : ℕ → List ℕ → List ℕ
indented depth text = replicate (2 * depth) 32 ++ text ++ codes "\n"

-- the line of an element
abbrev pub element_line : ℕ → List ℕ → List ℕ → List ℕ
element_line depth key text = indented depth (quoted key ++ codes ": " ++ text)

-- these words say a fault, with its reason
abbrev pub ShowsFault : Fault → List ℕ → Type 0
ShowsFault fault text = (why : ErrorKind) × SaysFault why fault × IsReadingKind why × (text ≡ codes "damaged: " ++ find.kind_text why)

-- after the reason of a fault: of a text that isn't UTF-8 how many bytes it has, and these as hex digits if they are few; nothing of another fault
abbrev pub ShowsText : Frame → List ℕ → Type 0
ShowsText f shown =
    ((text rest : List ℕ) × HasBadText f.kind f.payload text rest × (shown ≡ sized_text text (encode_lower text)))
    ⊎ (((text rest : List ℕ) → ¬ HasBadText f.kind f.payload text rest) × (shown ≡ []))

-- these words say a fault of a frame, and show its text
abbrev pub ShowsFrameFault : Frame → Fault → List ℕ → Type 0
ShowsFrameFault f fault text = (words shown : List ℕ) × ShowsFault fault words × ShowsText f shown × (text ≡ words ++ shown)

-- the line of a stop in a level, with its key where it has one
abbrev pub stop_line : ℕ → Option (List ℕ) → List ℕ → List ℕ
stop_line depth None text = indented depth text
stop_line depth (Some key) text = element_line depth key text

-- Listings, where Nested says which listing nested bytes have.
module _ (Nested : List ℕ → List ℕ → Type 0) where
  -- the lines of what is inside a value
  abbrev pub ListsInside : RawValue → List ℕ → Type 0
  ListsInside (raw.single l) text = text ≡ []
  ListsInside (raw.document d) text = Nested d text
  ListsInside (raw.array d) text = Nested d text
  ListsInside (raw.scoped code d) text = Nested d text

  -- the line of the value that a frame means, with those of what is inside; or that of the fault that it means
  abbrev pub ListsFrame : ℕ → Frame → List ℕ → Type 0
  ListsFrame depth f text =
      ((v : RawValue) × (shown inner : List ℕ) × Means f (value v) × ShowsValue v shown × ListsInside v inner × (text ≡ element_line depth f.key shown ++ inner))
      ⊎ ((fault : KeyedFault) × (shown : List ℕ) × Means f (faulty fault) × ShowsFrameFault f fault.fault shown × (text ≡ element_line depth f.key (kind_text f.kind ++ codes ", " ++ shown)))

  -- the lines of frames one after the other
  abbrev pub ListsFrames : ℕ → List Frame → List ℕ → Type 0
  ListsFrames depth [] text = text ≡ []
  ListsFrames depth (f ∷ fs) text = (first rest : List ℕ) × ListsFrame depth f first × ListsFrames depth fs rest × (text ≡ first ++ rest)

-- the line of a stop; the final 0 has none
abbrev pub ListsEnd : ℕ → End → List ℕ → Type 0
ListsEnd depth Done text = text ≡ []
ListsEnd depth (Stopped fault key) text = (shown : List ℕ) × ShowsFault fault shown × (text ≡ stop_line depth key shown)

-- The lines of the bytes b, which have d levels around them, and of which at most this number of levels are listed: those of
-- the frames of their walk, and of the stop at which it ends.
abbrev pub Lists : ℕ → ℕ → List ℕ → List ℕ → Type 0
Lists zero depth b text = text ≡ indented depth (codes "too deep")
Lists (suc n) depth b text =
    (frames : List Frame) × (end : End) × (elements last : List ℕ) × IsWalk (drop 4 b) frames end × ListsFrames (Lists n (depth + 1)) depth frames elements
    × ListsEnd depth end last × (text ≡ elements ++ last)

-- the listing of a piece: its elements, of 500 levels at most; none where it has no envelope
abbrev pub ListsDocument : List ℕ → List ℕ → Type 0
ListsDocument b text = (IsEnvelope b × Lists 500 1 b text) ⊎ ((why : Reason) × Refuses b why × (text ≡ []))

-- A front of the lines of what is left of a level, where Front says which fronts the lines of nested bytes have: nothing; or a front of those of
-- the frame that is there, with a front of those inside it; or a front of the line of the stop that is there.
abbrev pub HasNextFront : (Front : List ℕ → List ℕ → Type 0) → ℕ → (left : List ℕ) → List ℕ → Type 0
HasNextFront Front depth left text =
    (text ≡ [])
    ⊎ ((f : Frame) × (r lines : List ℕ) × IsFrame left f r × ListsFrame Front depth f lines × HasFront lines text)
    ⊎ ((fault : Fault) × (key : Option (List ℕ)) × (shown : List ℕ) × IsStop left fault key × ShowsFault fault shown × HasFront (stop_line depth key shown) text)

-- A front of the lines of the bytes b: those of the first frames, and a front of what is after them.
abbrev pub HasLinesFront : ℕ → ℕ → List ℕ → List ℕ → Type 0
HasLinesFront zero depth b text = HasFront (indented depth (codes "too deep")) text
HasLinesFront (suc n) depth b text =
    (frames : List Frame) × (left elements last : List ℕ) × LeadsTo (drop 4 b) frames left × ListsFrames (Lists n (depth + 1)) depth frames elements
    × HasNextFront (HasLinesFront n (depth + 1)) depth left last × (text ≡ elements ++ last)

-- a front of the listing of a piece
abbrev pub HasListingFront : List ℕ → List ℕ → Type 0
HasListingFront b text = (text ≡ []) ⊎ (IsEnvelope b × HasLinesFront 500 1 b text)

-- What the code tells of a line. No public contract cites what follows.

-- this is the line of a frame, without those of what is inside: that of its value, which holds this level or none; or that of its fault
abbrev pub TellsElement : ℕ → Frame → List ℕ → Option RawLevel → Type 0
TellsElement depth f line inner =
    ((v : RawValue) × (shown : List ℕ) × Means f (value v) × ShowsValue v shown × HoldsLevel v inner × (line ≡ element_line depth f.key shown))
    ⊎ ((fault : KeyedFault) × (shown : List ℕ) × Means f (faulty fault) × ShowsFrameFault f fault.fault shown × (inner ≡ None)
    × (line ≡ element_line depth f.key (kind_text f.kind ++ codes ", " ++ shown)))

-- this is the line of a stop with this error
abbrev pub TellsStop : ℕ → BorrowedError → List ℕ → Type 0
TellsStop depth e line = IsReadingKind e.kind × (line ≡ stop_line depth (option_copied e.key) (codes "damaged: " ++ find.kind_text e.kind))

-- What a step over a level tells: its end; or the line of the element or of the stop that was there, and the level that its value holds
abbrev pub ListsNext : ℕ → (old new : Option (List ℕ)) → List ℕ → Next → Type 0
ListsNext depth old new line next.End = StepsFront old None new
ListsNext depth old new line next.Line =
    ((e : RawElement) × StepsFront old (Some (Ok e)) new × TellsElement depth (frame_of e) line None)
    ⊎ ((e : BorrowedError) × StepsFront old (Some (Err e)) new × TellsStop depth e line)
ListsNext depth old new line (next.Inside inner) = (e : RawElement) × StepsFront old (Some (Ok e)) new × TellsElement depth (frame_of e) line (Some inner)
