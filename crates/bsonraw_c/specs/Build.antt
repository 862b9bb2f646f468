-- A builder of documents, and what its calls leave in the caller's room. A level is a document or an array that isn't ended
-- yet; its elements are in the room, and its final 0 and its length aren't.
use Rattle.std.specs.Prelude.{◌≡◌, ◌≢◌, ◌⊎◌, ◌<◌, ◌≤◌, ◌+◌, ◌-◌, ◌+ℤ◌, ◌≤ℤ◌, ◌<ℤ◌, ℕ, ℤ, pos, Bool, nat_eq, nat_le, cond, List, [], ◌∷◌, ◌++◌, length, take, drop, get_or, decimal}
use Rattle.std.specs.Str.{IsUtf8}
use Rattle.raw_bson.specs.Append.{frame_bytes}
use Rattle.raw_bson.specs.Bytes.{NulFree}
use Rattle.raw_bson.specs.ElementType.{ElementType}
use Rattle.raw_bson.specs.ElementType.TheVariants as kind
use Rattle.raw_bson.specs.Envelope.{IsEnvelope}
use Rattle.raw_bson.specs.Format.{framed, inner_payload, plain_binary_payload, pointer_payload, regex_payload, scoped_payload, string_payload}
use Rattle.raw_bson.specs.Frame.{Done, Frame, IsShortScope, IsWalk, StandsAnywhere}
use Rattle.raw_bson.specs.Kind.{tag_of}
use Rattle.raw_bson.specs.Number.{le32, max_length}
use Rattle.bsonraw_c.specs.Codes.{status_code}
use Rattle.bsonraw_c.specs.Values.{IsOn}
use Rattle.bsonraw_c.specs.declared.build.Builder.{Builder}
use Rattle.bsonraw_c.specs.declared.build_parts.Layout.{Layout}
use Rattle.bsonraw_c.specs.declared.build_parts.Layout.TheVariants as layout
use Rattle.bsonraw_c.specs.declared.codes.Status.{Status}
use Rattle.bsonraw_c.specs.declared.codes.Status.TheVariants as status
use Rattle.bsonraw_c.specs.declared.iter.Iter.{Iter}

-- the bytes of these elements, one after another
abbrev pub elements : List Frame → List ℕ
elements [] = []
elements (f ∷ fs) = frame_bytes f ++ elements fs

-- the room with these bytes from this offset on, in place of those that were there
unfoldable pub put_bytes : ℕ → List ℕ → List ℕ → List ℕ
put_bytes offset bytes room = take offset room ++ (bytes ++ drop (offset + length bytes) room)

-- The builder and the room hold a level with these elements. The front is what the room has before them: the last four
-- bytes of it are where the level's length will be.
pub record HoldsElements (b : Builder) (room front : List ℕ) (fs : List Frame) : Type 0 where
  pub well : b.status ≡ pos 0
  pub begins : length front ≡ b.begins + 4
  pub len : b.len ≡ length front + length (elements fs)
  pub count : b.count ≡ length fs
  pub taken : take b.len room ≡ front ++ elements fs

-- what the payload of each kind is made of: this many bytes, as they are; a boolean; a text; a document; bytes and a subtype; a
-- pattern and options; a namespace and an identifier; a code and its scope
abbrev pub layout_of : ElementType → Layout
layout_of kind.Double = layout.Fixed 8
layout_of kind.String = layout.Text
layout_of kind.EmbeddedDocument = layout.Nested
layout_of kind.Array = layout.Nested
layout_of kind.Binary = layout.Binary
layout_of kind.Undefined = layout.Fixed 0
layout_of kind.ObjectId = layout.Fixed 12
layout_of kind.Boolean = layout.Flag
layout_of kind.DateTime = layout.Fixed 8
layout_of kind.Null = layout.Fixed 0
layout_of kind.RegularExpression = layout.Regex
layout_of kind.DbPointer = layout.Pointer
layout_of kind.JavaScriptCode = layout.Text
layout_of kind.Symbol = layout.Text
layout_of kind.JavaScriptCodeWithScope = layout.Scoped
layout_of kind.Int32 = layout.Fixed 4
layout_of kind.Timestamp = layout.Fixed 8
layout_of kind.Int64 = layout.Fixed 8
layout_of kind.Decimal128 = layout.Fixed 16
layout_of kind.MaxKey = layout.Fixed 0
layout_of kind.MinKey = layout.Fixed 0

-- a text that a 0 ends
abbrev pub IsCText : List ℕ → Type 0
IsCText text = NulFree text × IsUtf8 text

-- one part, and a second one, are as the layout wants them
abbrev pub AreParts : Layout → List ℕ → List ℕ → Type 0
AreParts (layout.Fixed n) one two = length one ≡ n
AreParts layout.Flag one two = (one ≡ 0 ∷ []) ⊎ (one ≡ 1 ∷ [])
AreParts layout.Text one two = IsUtf8 one
AreParts layout.Nested one two = IsEnvelope one
AreParts layout.Binary one two = length two ≡ 1
AreParts layout.Regex one two = IsCText one × IsCText two
AreParts layout.Pointer one two = (length two ≡ 12) × IsUtf8 one
AreParts layout.Scoped one two = IsUtf8 one × IsEnvelope two

-- why they aren't: a text is none, or bytes are no document; a length is wrong, or a boolean is neither 0 nor 1
abbrev pub RefusesParts : Layout → List ℕ → List ℕ → Status → Type 0
RefusesParts (layout.Fixed n) one two s = (length one ≢ n) × (s ≡ status.OtherKind)
RefusesParts layout.Flag one two s = (one ≢ 0 ∷ []) × (one ≢ 1 ∷ []) × (s ≡ status.OtherKind)
RefusesParts layout.Text one two s = (¬ IsUtf8 one) × (s ≡ status.Fault)
RefusesParts layout.Nested one two s = (¬ IsEnvelope one) × (s ≡ status.NoDocument)
RefusesParts layout.Binary one two s = (length two ≢ 1) × (s ≡ status.OtherKind)
RefusesParts layout.Regex one two s = (¬ (IsCText one × IsCText two)) × (s ≡ status.Fault)
RefusesParts layout.Pointer one two s =
    ((length two ≢ 12) × (s ≡ status.OtherKind)) ⊎ ((length two ≡ 12) × (¬ IsUtf8 one) × (s ≡ status.Fault))
RefusesParts layout.Scoped one two s =
    ((¬ IsUtf8 one) × (s ≡ status.Fault)) ⊎ (IsUtf8 one × (¬ IsEnvelope two) × (s ≡ status.NoDocument))

-- each of these elements is read as what it is
abbrev pub AreRead : List Frame → Type 0
AreRead [] = Unit {0}
AreRead (f ∷ fs) = StandsAnywhere f × AreRead fs

-- a binary of this subtype; an old one with its inner length
abbrev pub binary_of : ℕ → List ℕ → List ℕ
binary_of subtype bytes = cond (nat_eq subtype 2) (plain_binary_payload 2 (inner_payload bytes)) (plain_binary_payload subtype bytes)

-- the payload that the parts make
abbrev pub laid_out : Layout → List ℕ → List ℕ → List ℕ
laid_out (layout.Fixed n) one two = one
laid_out layout.Flag one two = one
laid_out layout.Text one two = string_payload one
laid_out layout.Nested one two = one
laid_out layout.Binary one two = binary_of (get_or two 0 0) one
laid_out layout.Regex one two = regex_payload one two
laid_out layout.Pointer one two = pointer_payload one two
laid_out layout.Scoped one two = scoped_payload one two

-- the key of the next element: in an array the decimal of how many there are, whatever key is given
abbrev pub is_of_array : Builder → Bool
is_of_array b = nat_eq b.tag 4

abbrev pub key_in : Builder → List ℕ → List ℕ
key_in b key = cond (is_of_array b) (decimal b.count) key

-- the builder takes more: nothing was refused so far; there may have been too little room
abbrev pub TakesMore : Builder → Type 0
TakesMore b = (b.status ≡ pos 0) ⊎ (b.status ≡ pos 8)

-- the level has four bytes for its length, as each builder that a call has begun
abbrev pub IsBegun : Builder → Type 0
IsBegun b = b.begins + 4 ≤ b.len

-- the builder takes an element
abbrev pub IsOpen : Builder → Type 0
IsOpen b = TakesMore b × IsBegun b

-- the element that these arguments are
pub record IsElement (b : Builder) (tag : ℕ) (key one two : List ℕ) (f : Frame) : Type 0 where
  pub tag_is : tag ≡ tag_of f.kind
  pub parts : AreParts (layout_of f.kind) one two
  pub key_is : f.key ≡ key_in b key
  pub c_text : IsCText f.key
  pub payload_is : f.payload ≡ laid_out (layout_of f.kind) one two

-- an element of these arguments, which is read as that
abbrev pub IsReadElement : Builder → ℕ → List ℕ → List ℕ → List ℕ → Frame → Type 0
IsReadElement b tag key one two f = IsElement b tag key one two f × StandsAnywhere f

-- why there is none: no kind has the tag; the parts aren't those of the kind; the key has a 0, or isn't UTF-8
abbrev pub RefusesElement : Builder → ℕ → List ℕ → List ℕ → List ℕ → Status → Type 0
RefusesElement b tag key one two s =
    (((k : ElementType) → tag ≢ tag_of k) × (s ≡ status.OtherKind))
    ⊎ ((k : ElementType) × (tag ≡ tag_of k) × RefusesParts (layout_of k) one two s)
    ⊎ ((k : ElementType) × (tag ≡ tag_of k) × AreParts (layout_of k) one two × (b.tag ≢ 4) × (¬ IsCText key) × (s ≡ status.Fault))

-- the builder takes no more, for this reason, and the room is as it was
abbrev pub Refuses : Status → Builder → Builder → List ℕ → List ℕ → Type 0
Refuses s old new before after = (after ≡ before) × (new ≡ record old { status = pos (status_code s) })

-- the builder took no more, and all is as it was
abbrev pub Sticks : Builder → Builder → List ℕ → List ℕ → Type 0
Sticks old new before after = (¬ TakesMore old) × (after ≡ before) × (new ≡ old)

-- the builder takes none: it took no more before; or it isn't begun
abbrev pub Declines : Builder → Builder → List ℕ → List ℕ → Type 0
Declines old new before after =
    Sticks old new before after
    ⊎ (TakesMore old × (old.len < old.begins + 4) × Refuses status.BadOffset old new before after)

-- the builder with one element more, of `size` bytes
abbrev pub grown : Builder → ℕ → Builder
grown b size = record b { len = b.len + size; count = b.count + 1 }

-- with `size` bytes more, the final 0 of the level would be past the greatest length of a document; or no more elements are
-- counted
abbrev pub IsTooLong : Builder → ℕ → Type 0
IsTooLong b size = (max_length ≤ b.len + size) ⊎ (max_length ≤ b.count)

-- What becomes of an element: it is too long; or it is counted, where the room is too small; or it is in the room, after what
-- was there.
abbrev pub Adds : Frame → Builder → Builder → List ℕ → List ℕ → Type 0
Adds f old new before after =
    (IsTooLong old (length (frame_bytes f)) × Refuses status.TooLong old new before after)
    ⊎ ((¬ IsTooLong old (length (frame_bytes f))) × (length before < old.len + length (frame_bytes f)) × Refuses status.SmallBuffer (grown old (length (frame_bytes f))) new before after)
    ⊎ ((¬ IsTooLong old (length (frame_bytes f))) × (old.len + length (frame_bytes f) ≤ length before) × (after ≡ put_bytes old.len (frame_bytes f) before)
    × (new ≡ grown old (length (frame_bytes f))))

-- what an append leaves, whatever the builder and the room hold
abbrev pub Appends : ℕ → List ℕ → List ℕ → List ℕ → Builder → Builder → List ℕ → List ℕ → Type 0
Appends tag key one two old new before after =
    Declines old new before after
    ⊎ (IsOpen old × ((s : Status) × RefusesElement old tag key one two s × Refuses s old new before after))
    ⊎ (IsOpen old × ((f : Frame) × IsElement old tag key one two f × Adds f old new before after))

-- Where the builder and the room held elements, and nothing is refused, they hold these and one more.
abbrev pub HoldsMore : (Frame → Type 0) → Builder → Builder → List ℕ → List ℕ → Type 0
HoldsMore IsIt old new before after =
    (front : List ℕ) (fs : List Frame) → HoldsElements old before front fs → new.status ≡ pos 0
    → (f : Frame) × IsIt f × HoldsElements new after front (fs ++ f ∷ [])

-- an element whose payload is a level's length, which isn't known yet
abbrev pub head_of : ElementType → List ℕ → Frame
head_of k key = record { kind = k; key = key; payload = 0 ∷ 0 ∷ 0 ∷ 0 ∷ [] }

-- the kind of a level: a document or an array
abbrev pub IsNested : ElementType → Type 0
IsNested k = (k ≡ kind.EmbeddedDocument) ⊎ (k ≡ kind.Array)

abbrev pub IsLevelTag : ℕ → ElementType → Type 0
IsLevelTag tag k = (tag ≡ tag_of k) × IsNested k

-- a level without elements, whose length has just been put
abbrev pub opened : ℕ → Builder → Builder
opened tag b = record b { begins = b.len - 4; count = 0; tag = tag }

-- what the beginning of a level leaves: the level's builder is new, and that of the level around it is old
abbrev pub OpensLevel : ℕ → List ℕ → Builder → Builder → List ℕ → List ℕ → Type 0
OpensLevel tag key old new before after =
    Declines old new before after
    ⊎ (IsOpen old × (tag ≢ 3) × (tag ≢ 4) × Refuses status.OtherKind old new before after)
    ⊎ ((k : ElementType) × IsLevelTag tag k × IsOpen old × (old.tag ≢ 4) × (¬ IsCText key) × Refuses status.Fault old new before after)
    ⊎ ((k : ElementType) × (one : Builder) × IsLevelTag tag k × IsOpen old × IsCText (key_in old key) × Adds (head_of k (key_in old key)) old one before after
    × (((¬ TakesMore one) × (new ≡ one)) ⊎ (TakesMore one × (new ≡ opened tag one))))

-- Where the builder and the room held elements, and nothing is refused, the new builder and the room hold a level without any.
abbrev pub HoldsLevel : ℕ → List ℕ → Builder → Builder → List ℕ → List ℕ → Type 0
HoldsLevel tag key old new before after =
    (front : List ℕ) (fs : List Frame) → HoldsElements old before front fs → new.status ≡ pos 0
    → (k : ElementType) × IsLevelTag tag k × IsCText (key_in old key) × HoldsElements new after ((front ++ elements fs) ++ frame_bytes (head_of k (key_in old key))) []

-- a level with its final 0
abbrev pub ended : Builder → Builder
ended b = record b { len = b.len + 1 }

-- What the end of a level leaves: it is too long; or it is counted; or its final 0 and its length are in the room.
abbrev pub ClosesLevel : Builder → Builder → List ℕ → List ℕ → Type 0
ClosesLevel old new before after =
    Declines old new before after
    ⊎ (IsOpen old × (max_length ≤ old.len) × Refuses status.TooLong old new before after)
    ⊎ (IsOpen old × (old.len < max_length) × (length before ≤ old.len) × Refuses status.SmallBuffer (ended old) new before after)
    ⊎ (IsOpen old × (old.len < max_length) × (old.len < length before) × (after ≡ put_bytes old.begins (le32 (pos (old.len + 1 - old.begins))) (put_bytes old.len (0 ∷ []) before)) × (new ≡ ended old))

-- Where the builder and the room held elements, and nothing is refused, the room has the document of these; and who reads it
-- reads these elements, and then its final 0.
abbrev pub HoldsDocument : Builder → Builder → List ℕ → List ℕ → Type 0
HoldsDocument old new before after =
    (outer unset : List ℕ) (fs : List Frame) → length unset ≡ 4 → HoldsElements old before (outer ++ unset) fs → new.status ≡ pos 0
    → (take new.len after ≡ outer ++ framed (elements fs)) × IsEnvelope (framed (elements fs)) × (AreRead fs → IsWalk (drop 4 (framed (elements fs))) fs Done)

-- The builder around a level, once the level is closed: it has one element more, and wants room where the level does; or it
-- takes no more, where the level was refused.
abbrev pub TakesLevel : Builder → Builder → Builder → Type 0
TakesLevel old level new =
    ((level.status ≡ pos 0) × (new ≡ record old { len = level.len; count = old.count + 1 }))
    ⊎ ((level.status ≡ pos 8) × (new ≡ record old { len = level.len; count = old.count + 1; status = pos 8 }))
    ⊎ ((¬ TakesMore level) × (new ≡ record old { status = level.status }))

-- what the end of a level leaves to the builder around it
abbrev pub EndsLevel : Builder → Builder → Builder → List ℕ → List ℕ → Type 0
EndsLevel level old new before after =
    Declines old new before after
    ⊎ (IsOpen old × (max_length ≤ old.count) × Refuses status.TooLong old new before after)
    ⊎ (IsOpen old × (old.count < max_length) × ((closed : Builder) × ClosesLevel level closed before after × TakesLevel old closed new))

-- the element that a level with these elements is, once it is ended
abbrev pub level_of : ElementType → List ℕ → List Frame → Frame
level_of k key inner = record { kind = k; key = key; payload = framed (elements inner) }

-- Where the builder held elements, the level was begun in it and now holds elements, too, and nothing is refused, the builder
-- holds one element more: the document of the level's elements, which is read as that wherever it is.
abbrev pub HoldsEnded : Builder → Builder → Builder → List ℕ → List ℕ → Type 0
HoldsEnded level old new before after =
    (room front key : List ℕ) (k : ElementType) (fs inner : List Frame) → HoldsElements old room front fs
    → HoldsElements level before ((front ++ elements fs) ++ frame_bytes (head_of k key)) inner → new.status ≡ pos 0
    → HoldsElements new after front (fs ++ level_of k key inner ∷ []) × IsEnvelope (framed (elements inner))
    × (IsNested k → IsCText key → StandsAnywhere (level_of k key inner))

-- The level is open in the builder, as the calls of the header note it there: the builder's status is where the level begins, negated.
-- The level isn't ended, and no level is open in it.
abbrev pub IsOpenIn : Builder → Builder → Type 0
IsOpenIn level b = (pos 0 ≤ℤ level.status) × (level.begins < level.len) × (0 < level.begins) × ((b.status +ℤ pos level.begins) ≡ pos 0)

-- The builder as it was before a level was begun in it. The calls of the header add 256 to its tag, where the room was too small by then.
abbrev pub before_level : Builder → Builder
before_level b = cond (nat_le 256 b.tag) (record b { tag = b.tag - 256; status = pos 8 }) (record b { status = pos 0 })

-- the builder takes no more since a call was out of turn, unless it took no more before
abbrev pub RefusesMisuse : Builder → Builder → Type 0
RefusesMisuse old new =
    (((old.status ≤ℤ pos 0) ⊎ (old.status ≡ pos 8)) × (new ≡ record old { status = pos (status_code status.Misuse) }))
    ⊎ ((pos 0 <ℤ old.status) × (old.status ≢ pos 8) × (new ≡ old))

-- What taking a level back leaves: the builder is as before the level, but takes over what the level was refused; and the level is
-- ended. Or the level isn't open in the builder.
abbrev pub CancelsLevel : (level_old level_new old new : Builder) → Type 0
CancelsLevel level_old level_new old new =
    (IsOpenIn level_old old × TakesMore level_old × (new ≡ before_level old) × (level_new ≡ record level_old { begins = level_old.len }))
    ⊎ (IsOpenIn level_old old × (¬ TakesMore level_old) × (new ≡ record (before_level old) { status = level_old.status }) × (level_new ≡ record level_old { begins = level_old.len }))
    ⊎ ((¬ IsOpenIn level_old old) × RefusesMisuse old new × (level_new ≡ level_old))

-- Where the builder held elements before the level was begun in it, and nothing is refused, it holds them again, in each room in which the
-- bytes that it had taken then are as they were.
abbrev pub HoldsAgain : Builder → Builder → Type 0
HoldsAgain old new =
    (room now front : List ℕ) (fs : List Frame) → HoldsElements (before_level old) room front fs → take old.len now ≡ take old.len room → new.status ≡ pos 0 → HoldsElements new now front fs

-- The element that the iterator is at, under the key that it has here. It is read as that wherever it is, unless it is a code
-- with scope whose declared length is under four.
abbrev pub IsElementOf : Builder → List ℕ → Iter → Frame → Type 0
IsElementOf b bytes it f =
    (g : Frame) × IsOn bytes it g × (f ≡ record g { key = key_in b g.key }) × ((¬ IsShortScope f) → StandsAnywhere f)

-- what an append of the element that an iterator is at leaves: no element is there; or it is added, with its own key in a
-- document
abbrev pub AppendsElement : List ℕ → Iter → Builder → Builder → List ℕ → List ℕ → Type 0
AppendsElement b it old new before after =
    Declines old new before after
    ⊎ (IsOpen old × ((f : Frame) → ¬ IsOn b it f) × Refuses status.BadOffset old new before after)
    ⊎ (IsOpen old × ((f : Frame) × IsElementOf old b it f × Adds f old new before after))

-- the builder of a document without elements, of which only the length is in the room
abbrev pub begun : ℤ → Builder
begun code = record { len = 4; begins = 0; count = 0; tag = 3; status = code }

-- A document without elements, at the front of the room; or the room has no four bytes.
abbrev pub Begins : List ℕ → Builder → Type 0
Begins room new =
    ((new ≡ begun (pos 0)) × HoldsElements new room (take 4 room) []) ⊎ ((new ≡ begun (pos 8)) × (length room < 4))
