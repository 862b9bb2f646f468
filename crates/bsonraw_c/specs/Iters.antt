-- An iterator over the elements of a document. The bytes b are the caller's; the document is a part of them.
use Rattle.std.specs.Prelude.{◌≡◌, ◌⊎◌, ◌≢◌, ◌<◌, ◌≤◌, ◌+◌, ◌-◌, ◌^◌, ℕ, ℤ, pos, List, [], ◌∷◌, length, drop, min, Option, None, Some}
use Rattle.raw_bson.specs.Envelope.{IsEnvelope, Refuses}
use Rattle.raw_bson.specs.ErrorKind.TheVariants as kind
use Rattle.raw_bson.specs.Frame.{Frame, IsFrame, Fault, IsStop, LeadsTo}
use Rattle.raw_bson.specs.Kind.{tag_of}
use Rattle.raw_bson.specs.LookUp.{HasNoKey, HasThisKey}
use Rattle.raw_bson.specs.Reason.{Reason}
use Rattle.bsonraw_c.specs.Codes.{IsNoFault, SaysKind, TellsFaultCode, status_code}
use Rattle.bsonraw_c.specs.Places.{StandsAt}
use Rattle.bsonraw_c.specs.declared.codes.Status.{Status}
use Rattle.bsonraw_c.specs.declared.codes.Status.TheVariants as status
use Rattle.bsonraw_c.specs.declared.iter.Iter.{Iter}

-- what a call returns: the number of its status
abbrev pub Returns : Status → ℤ → Type 0
Returns s code = code ≡ pos (status_code s)

-- the offset of what isn't there: the end of the bytes, or the greatest number of 32 bits where they are more
abbrev pub place_of_none : List ℕ → ℕ
place_of_none b = min (length b) 4294967295

-- the iterator is at no element
abbrev pub HasNoElement : ℕ → Iter → Type 0
HasNoElement end it = (it.tag ≡ 0) × (it.key_at ≡ end) × (it.key_len ≡ 0) × (it.payload_at ≡ end) × (it.payload_len ≡ 0)

-- both go through the same document
abbrev pub HasSameDocument : Iter → Iter → Type 0
HasSameDocument one other = (other.document_at ≡ one.document_at) × (other.document_len ≡ one.document_len)

-- The iterator is at this frame, whose tag is at this offset of b: after the tag come the key and a 0, then the payload, and then
-- the next element.
pub record IsAtFrame (b : List ℕ) (offset : ℕ) (f : Frame) (it : Iter) : Type 0 where
  pub tag : it.tag ≡ tag_of f.kind
  pub key : StandsAt b it.key_at it.key_len f.key
  pub payload : StandsAt b it.payload_at it.payload_len f.payload
  pub key_begins : it.key_at ≡ offset + 1
  pub payload_begins : it.payload_at ≡ it.key_at + it.key_len + 1
  pub ends : it.next ≡ it.payload_at + it.payload_len

-- the iterator is at no element, but it says where the key of the stop at this offset is, if the stop has one
abbrev pub IsAtStop : List ℕ → ℕ → Option (List ℕ) → Iter → Type 0
IsAtStop b offset None it = HasNoElement (place_of_none b) it
IsAtStop b offset (Some key) it = (it.tag ≡ 0) × (it.key_at ≡ offset + 1) × StandsAt b it.key_at it.key_len key × (it.payload_at ≡ place_of_none b) × (it.payload_len ≡ 0)

-- The iterator goes through the document d, which is the part of b that it says, and s is what is left of d at its next
-- offset.
pub record GoesThrough (b : List ℕ) (it : Iter) (d s : List ℕ) : Type 0 where
  pub small : it.document_at + it.document_len < 2 ^ 32
  pub stands : StandsAt b it.document_at it.document_len d
  pub envelope : IsEnvelope d
  pub begun : it.document_at + 4 ≤ it.next
  pub within : it.next ≤ it.document_at + it.document_len
  pub left : s ≡ drop (it.next - it.document_at) d

-- the iterator goes through no document, or is nowhere in it
abbrev pub IsAstray : List ℕ → Iter → Type 0
IsAstray b it = (d s : List ℕ) → ¬ GoesThrough b it d s

-- any frame
abbrev pub IsAny : Frame → Type 0
IsAny f = Unit {0}

-- the iterator is at this frame, whose tag is at this offset, if it is wanted
abbrev pub StopsAtFrame : (Frame → Type 0) → List ℕ → List ℕ → ℕ → Iter → Type 0
StopsAtFrame IsWanted b s offset it = (f : Frame) × (r : List ℕ) × IsFrame s f r × IsWanted f × IsAtFrame b offset f it

-- the iterator is at no element, since the document ends at this offset
abbrev pub StopsAtEnd : List ℕ → List ℕ → ℕ → Iter → Type 0
StopsAtEnd b s offset it = (s ≡ 0 ∷ []) × HasNoElement (place_of_none b) it × (it.next ≡ offset)

-- the iterator is at no element, since none is at this offset: it says the stop
abbrev pub StopsAtFault : List ℕ → List ℕ → ℕ → Iter → Type 0
StopsAtFault b s offset it = (fault : Fault) × (key : Option (List ℕ)) × IsStop s fault key × IsAtStop b offset key it × (it.next ≡ offset)
    × TellsFaultCode fault it.fault.why × (it.fault.offset ≡ offset)

-- where the iterator stops, and what that returns; s is left at this offset
abbrev pub StopsAt : (Frame → Type 0) → List ℕ → List ℕ → ℕ → Iter → ℤ → Type 0
StopsAt IsWanted b s offset it code =
    (StopsAtFrame IsWanted b s offset it × Returns status.Done code)
    ⊎ (StopsAtEnd b s offset it × Returns status.Nothing code)
    ⊎ (StopsAtFault b s offset it × Returns status.Fault code)

-- both go through the same document, and say the same fault unless one is returned
abbrev pub IsKept : Iter → Iter → ℤ → Type 0
IsKept old new code = HasSameDocument old new × ((¬ Returns status.Fault code) → new.fault ≡ old.fault)

-- an iterator that is astray is at no element, and stays where it is
abbrev pub StaysAstray : List ℕ → Iter → Iter → ℤ → Type 0
StaysAstray b old new code = IsAstray b old × HasNoElement (place_of_none b) new × (new.next ≡ old.next) × Returns status.BadOffset code

-- a step of an iterator with any fields: it stops at what is at its next offset
abbrev pub Moves : List ℕ → Iter → Iter → ℤ → Type 0
Moves b old new code =
    IsKept old new code
    × (((d s : List ℕ) × GoesThrough b old d s × StopsAt IsAny b s old.next new code)
    ⊎ StaysAstray b old new code)

-- The iterator goes on from s over frames that have another key, after which t is left at this offset. It stops at the frame
-- there, which has the key; or where the walk ends, or stops.
abbrev pub FindsFrom : List ℕ → List ℕ → List ℕ → Iter → Iter → ℤ → Type 0
FindsFrom b key s old new code =
    (d t : List ℕ) × (offset : ℕ) × (passed : List Frame) × GoesThrough b (record old { next = offset }) d t
    × LeadsTo s passed t × HasNoKey key passed × StopsAt (HasThisKey key) b t offset new code

-- a look-up by an iterator with any fields
abbrev pub FindsOn : List ℕ → List ℕ → Iter → Iter → ℤ → Type 0
FindsOn b key old new code =
    IsKept old new code
    × (((d s : List ℕ) × GoesThrough b old d s × FindsFrom b key s old new code)
    ⊎ StaysAstray b old new code)

-- the iterator is before the first element of the document of this length at this offset of b
pub record Begins (b : List ℕ) (offset len : ℕ) (it : Iter) : Type 0 where
  pub document_at : it.document_at ≡ offset
  pub document_len : it.document_len ≡ len
  pub next : it.next ≡ offset + 4
  pub none : HasNoElement (place_of_none b) it
  pub no_fault : IsNoFault it.fault.why
  pub no_offset : it.fault.offset ≡ 0

-- the iterator goes through no document, and is at no element
abbrev pub IsShut : List ℕ → Iter → Type 0
IsShut b it = (it.document_at ≡ 0) × (it.document_len ≡ 0) × (it.next ≡ 0) × HasNoElement (place_of_none b) it

-- what setting an iterator to the document that all bytes are returns; or why they are none
abbrev pub BeginsWhole : List ℕ → Iter → ℤ → Type 0
BeginsWhole b it code =
    (IsEnvelope b × Begins b 0 (length b) it × Returns status.Done code)
    ⊎ ((r : Reason) × Refuses b r × IsShut b it × SaysKind (kind.MalformedValue r) it.fault.why × (it.fault.offset ≡ 0) × Returns status.NoDocument code)

-- what setting an iterator to the first element with a key returns, of the document that all bytes are
abbrev pub BeginsAndFinds : List ℕ → List ℕ → Iter → ℤ → Type 0
BeginsAndFinds b key it code = (first : Iter) × (begun : ℤ) × BeginsWhole b first begun
    × ((Returns status.Done begun × FindsOn b key first it code) ⊎ ((¬ Returns status.Done begun) × (it ≡ first) × (code ≡ begun)))

-- The same of the document that the `len` bytes from this offset on are. These are a document; or they are none; or they aren't
-- there, or don't end below 2 ^ 32.
abbrev pub BeginsAt : List ℕ → ℕ → ℕ → Iter → ℤ → Type 0
BeginsAt b offset len it code =
    ((offset + len < 2 ^ 32) × (d : List ℕ) × StandsAt b offset len d × IsEnvelope d × Begins b offset len it × Returns status.Done code)
    ⊎ ((offset + len < 2 ^ 32) × (d : List ℕ) × (r : Reason) × StandsAt b offset len d × Refuses d r × IsShut b it
    × SaysKind (kind.MalformedValue r) it.fault.why × (it.fault.offset ≡ offset) × Returns status.NoDocument code)
    ⊎ (((length b < offset + len) ⊎ (2 ^ 32 ≤ offset + len)) × IsShut b it × IsNoFault it.fault.why × (it.fault.offset ≡ 0) × Returns status.BadOffset code)

-- the frame is a document or an array that old is at: the iterator begins in it; else it is shut
abbrev pub Descends : List ℕ → Iter → Iter → ℤ → Type 0
Descends b old it code =
    (((old.tag ≡ 3) ⊎ (old.tag ≡ 4)) × BeginsAt b old.payload_at old.payload_len it code)
    ⊎ ((old.tag ≢ 3) × (old.tag ≢ 4) × IsShut b it × IsNoFault it.fault.why × (it.fault.offset ≡ 0) × Returns status.OtherKind code)

-- the iterator as it is worked out
pub record IsWorkedOut (offset : ℕ) (f : Frame) (it : Iter) : Type 0 where
  pub tag : it.tag ≡ tag_of f.kind
  pub key_at : it.key_at ≡ offset + 1
  pub key_len : it.key_len ≡ length f.key
  pub payload_at : it.payload_at ≡ offset + (2 + length f.key)
  pub payload_len : it.payload_len ≡ length f.payload
  pub next : it.next ≡ offset + (2 + (length f.key + length f.payload))

abbrev pub IsKeyAt : ℕ → ℕ → Option (List ℕ) → Iter → Type 0
IsKeyAt end offset None it = HasNoElement end it
IsKeyAt end offset (Some key) it = (it.tag ≡ 0) × (it.key_at ≡ offset + 1) × (it.key_len ≡ length key) × (it.payload_at ≡ end) × (it.payload_len ≡ 0)

-- a key after a tag at this offset ends below 2 ^ 32, if there is one
abbrev pub IsShortKey : ℕ → Option (List ℕ) → Type 0
IsShortKey offset None = Unit {0}
IsShortKey offset (Some key) = offset + (1 + length key) < 2 ^ 32
