-- What the program prints, and its exit status: a relation on a command and a text, through the bytes that the text
-- stands for, their envelope, their walk, the tree that they are read as or their first fault, and their first breach.
use Rattle.std.specs.Prelude.{◌≡◌, ◌<◌, ◌≤◌, ℕ, ◌==◌, ◌||◌, Bool, not, List, [], ◌∷◌, ◌++◌, ◌⊎◌, length, drop, filter, codes, Option, None, Some, Result, Ok, Err}
use Rattle.std.specs.Fmt.{decimal}
use Rattle.std.specs.List.{join_by}
use Rattle.hex.specs.Hex.{encode_lower, decode_of}
use Rattle.hex.specs.declared.error.FromHexError.{FromHexError}
use Rattle.raw_bson.specs.Breaches.{HasBreachAs, cause_text}
use Rattle.raw_bson.specs.Canonical.{IsCanonical}
use Rattle.raw_bson.specs.Cause.{Cause}
use Rattle.raw_bson.specs.Encoding.{encoding, encoded_len}
use Rattle.raw_bson.specs.Envelope.{IsEnvelope, Refuses}
use Rattle.raw_bson.specs.Frame.{Frame, Fault, Malformed, Utf8, End, Done, Stopped, IsWalk}
use Rattle.raw_bson.specs.Kind.{tag_of}
use Rattle.raw_bson.specs.Limits.{Limits}
use Rattle.raw_bson.specs.Number.{max_length}
use Rattle.raw_bson.specs.Reading.{as_document}
use Rattle.raw_bson.specs.Tree.{Tree}
use Rattle.raw_bson.specs.WithinLimits.{Barrier, too_many_bytes, too_deep, fault_of, ReadsWithin, FirstBarrier}
use Rattle.bsonraw.specs.declared.command.Command.{Command}
use Rattle.bsonraw.specs.declared.command.Command.TheVariants as command
use Rattle.raw_bson.specs.Reason.{Reason}
use Rattle.raw_bson.specs.Reason.TheVariants as reason

-- a blank and the two line ends don't count in the text of a document
abbrev pub is_blank : ℕ → Bool
is_blank c = (c == 0x20) || (c == 0x0A) || (c == 0x0D)

-- the text without what doesn't count
abbrev pub digits_of : List ℕ → List ℕ
digits_of text = filter (λ c. not (is_blank c)) text

-- a key in hex; the empty one as a dash
abbrev pub key_hex : List ℕ → List ℕ
key_hex [] = codes "-"
key_hex (x ∷ xs) = encode_lower (x ∷ xs)

-- the key of a fault, which may have none
abbrev pub fault_key_text : Option (List ℕ) → List ℕ
fault_key_text None = codes "none"
fault_key_text (Some key) = key_hex key

-- the kind of a fault
abbrev pub fault_text : Fault → List ℕ
fault_text (Malformed _) = codes "malformed"
fault_text Utf8 = codes "utf8"

-- the line of a frame: tag, key and the payload's length
abbrev pub frame_line : Frame → List ℕ
frame_line f = encode_lower (tag_of f.kind ∷ []) ++ codes " " ++ key_hex f.key ++ codes " " ++ decimal (length f.payload) ++ codes "\n"

-- the lines of frames, in order
abbrev pub frame_lines : List Frame → List ℕ
frame_lines [] = []
frame_lines (f ∷ fs) = frame_line f ++ frame_lines fs

-- the line that ends a listing
abbrev pub end_line : End → List ℕ
end_line Done = codes "end\n"
end_line (Stopped fault key) = codes "fault " ++ fault_text fault ++ codes " " ++ fault_key_text key ++ codes "\n"

-- 0 if the walk comes to its end, 1 if it stops
abbrev pub end_status : End → ℕ
end_status Done = 0
end_status (Stopped fault key) = 1

-- the listing of a document: a line for each frame of its walk, then how the walk ends
pub record PrintsWalk (b : List ℕ) (status : ℕ) (output : List ℕ) : Type 0 where
  pub frames : List Frame
  pub end : End
  pub walk : IsWalk (drop 4 b) frames end
  pub status_is : status ≡ end_status end
  pub output_is : output ≡ frame_lines frames ++ end_line end

-- bytes without an envelope are refused by the number of the reason
abbrev pub refusal_line : Reason → List ℕ
refusal_line reason.TooShort = codes "refused 1\n"
refusal_line reason.LengthIncorrect = codes "refused 2\n"
refusal_line reason.NotTerminated = codes "refused 3\n"
refusal_line _ = []

-- these are the reasons for which bytes have no envelope
abbrev pub IsRefusal : Reason → Type 0
IsRefusal reason.TooShort = Unit {0}
IsRefusal reason.LengthIncorrect = Unit {0}
IsRefusal reason.NotTerminated = Unit {0}
IsRefusal _ = ⊥

-- the line of bytes without an envelope, by the first reason that applies
pub record PrintsRefusal (b : List ℕ) (status : ℕ) (output : List ℕ) : Type 0 where
  pub reason : Reason
  pub refuses : Refuses b reason
  pub status_is : status ≡ 1
  pub output_is : output ≡ refusal_line reason

-- the limits within which a document is converted
abbrev pub form_limits : Limits
form_limits = record { bytes = 16777216; depth = 500 }

-- why a document isn't converted: it has too many bytes, it is too deep, or it has this fault
abbrev pub barrier_line : Barrier → List ℕ
barrier_line too_many_bytes = codes "refused 6\n"
barrier_line too_deep = codes "refused 7\n"
barrier_line (fault_of fault) = end_line (Stopped fault.fault fault.key)

-- The canonical form of a document: the encoding of its tree in hex, or that this would be too long; or its first
-- barrier, if it has no tree within the limits.
abbrev pub PrintsForm : List ℕ → ℕ → List ℕ → Type 0
PrintsForm b status output =
    ((t : Tree) × ReadsWithin form_limits b t × (encoded_len t ≤ max_length) × (status ≡ 0) × (output ≡ encode_lower (encoding t) ++ codes "\n"))
    ⊎ ((t : Tree) × ReadsWithin form_limits b t × (max_length < encoded_len t) × (status ≡ 1) × (output ≡ codes "refused 5\n"))
    ⊎ ((x : Barrier) × FirstBarrier form_limits b x × (status ≡ 1) × (output ≡ barrier_line x))

-- the numbers of a path, joined by dots
abbrev pub path_text : List ℕ → List ℕ
path_text path = join_by decimal (codes ".") path

-- the line of a breach: why, and where
abbrev pub breach_line : List ℕ → Cause → List ℕ
breach_line path why = codes "breach " ++ cause_text why ++ codes " " ++ path_text path ++ codes "\n"

-- whether a document is canonical, or its first breach
abbrev pub PrintsBreach : List ℕ → ℕ → List ℕ → Type 0
PrintsBreach b status output =
    (IsCanonical b × (status ≡ 0) × (output ≡ codes "canonical\n"))
    ⊎ ((path : List ℕ) × (why : Cause) × HasBreachAs as_document b path why × (status ≡ 1) × (output ≡ breach_line path why))

-- what a command prints of a document
abbrev pub PrintsDocument : Command → List ℕ → ℕ → List ℕ → Type 0
PrintsDocument command.List b status output = PrintsWalk b status output
PrintsDocument command.Canon b status output = PrintsForm b status output
PrintsDocument command.Check b status output = PrintsBreach b status output

-- what a command prints of bytes: of a document, or why they are none
abbrev pub PrintsBytes : Command → List ℕ → ℕ → List ℕ → Type 0
PrintsBytes c b status output = (IsEnvelope b × PrintsDocument c b status output) ⊎ PrintsRefusal b status output

-- what a command prints of decoded hex text
abbrev pub PrintsDecoded : Command → Result (List ℕ) FromHexError → ℕ → List ℕ → Type 0
PrintsDecoded c (Ok b) status output = PrintsBytes c b status output
PrintsDecoded c (Err e) status output = (status ≡ 2) × (output ≡ codes "bad hex\n")

-- what a command prints of a text
abbrev pub PrintsText : Command → List ℕ → ℕ → List ℕ → Type 0
PrintsText c text status output = PrintsDecoded c (decode_of (digits_of text)) status output

-- how the program is used
abbrev pub usage_line : List ℕ
usage_line = codes "usage: bsonraw list|canon|check\n"

-- the name of a command
abbrev pub name_of : Command → List ℕ
name_of command.List = codes "list"
name_of command.Canon = codes "canon"
name_of command.Check = codes "check"

-- the program has a command of this name
abbrev pub IsCommand : List ℕ → Type 0
IsCommand name = (c : Command) × (name ≡ name_of c)

-- the result for a name and a text: what the command of that name prints, and else the usage line
abbrev pub Prints : List ℕ → List ℕ → ℕ → List ℕ → Type 0
Prints name text status output = ((c : Command) × (name ≡ name_of c) × PrintsText c text status output) ⊎ ((¬ IsCommand name) × (status ≡ 3) × (output ≡ usage_line))

-- nothing is printed, as memory ran out
abbrev pub LacksMemory : ℕ → List ℕ → Type 0
LacksMemory status output = (status ≡ 4) × (output ≡ [])
