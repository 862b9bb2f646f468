-- The elements of one level in the caller's room. The bytes b are the caller's, too.
use Rattle.std.specs.Prelude.{◌≡◌, ◌⊎◌, ◌<◌, ◌≤◌, ◌+◌, ℕ, ℤ, List, [], ◌∷◌, ◌++◌, length, drop}
use Rattle.raw_bson.specs.Frame.{Frame, LeadsTo}
use Rattle.raw_bson.specs.Kind.{tag_of}
use Rattle.bsonraw_c.specs.Iters.{GoesThrough, HasNoElement, IsKept, Returns, StaysAstray, StopsAtEnd, StopsAtFault, place_of_none}
use Rattle.bsonraw_c.specs.Places.{StandsAt}
use Rattle.bsonraw_c.specs.declared.codes.Status.TheVariants as status
use Rattle.bsonraw_c.specs.declared.iter.Iter.{Iter}
use Rattle.bsonraw_c.specs.declared.many.Entry.{Entry}

-- the entry says where this frame is in b, whose tag is at this offset
pub record IsEntry (b : List ℕ) (offset : ℕ) (f : Frame) (e : Entry) : Type 0 where
  pub tag : e.tag ≡ tag_of f.kind
  pub key : StandsAt b e.key_at e.key_len f.key
  pub payload : StandsAt b e.payload_at e.payload_len f.payload
  pub key_begins : e.key_at ≡ offset + 1
  pub payload_begins : e.payload_at ≡ e.key_at + e.key_len + 1

-- the entries say where these frames are in b, of which the first begins at this offset, and the last ends at that one
abbrev pub AreEntries : List ℕ → ℕ → List Frame → List Entry → ℕ → Type 0
AreEntries b offset [] [] end = end ≡ offset
AreEntries b offset [] (e ∷ es) end = ⊥
AreEntries b offset (f ∷ fs) [] end = ⊥
AreEntries b offset (f ∷ fs) (e ∷ es) end = IsEntry b offset f e × AreEntries b (e.payload_at + e.payload_len) fs es end

-- the iterator has gone over these frames of s, t is left, and their entries are at the front of the room
pub record GoesOver (b s t : List ℕ) (fs : List Frame) (old new : Iter) (before after : List Entry) (count : ℕ) : Type 0 where
  pub d : List ℕ
  pub entries : List Entry
  pub leads : LeadsTo s fs t
  pub left : GoesThrough b new d t
  pub are : AreEntries b old.next fs entries new.next
  pub count_is : count ≡ length entries
  pub fit : count ≤ length before
  pub filled : after ≡ entries ++ drop count before

-- What is returned of as many elements as the room has entries: the room is full; or the document ends, or stops, before
-- that.
abbrev pub GoesFrom : List ℕ → List ℕ → Iter → Iter → List Entry → List Entry → ℕ → ℤ → Type 0
GoesFrom b s old new before after count code =
    (t : List ℕ) × (fs : List Frame) × GoesOver b s t fs old new before after count
    × (((count ≡ length before) × HasNoElement (place_of_none b) new × Returns status.Done code)
    ⊎ ((count < length before) × StopsAtEnd b t new.next new × Returns status.Nothing code)
    ⊎ ((count < length before) × StopsAtFault b t new.next new × Returns status.Fault code))

-- the same of an iterator with any fields
abbrev pub FillsEntries : List ℕ → Iter → Iter → List Entry → List Entry → ℕ → ℤ → Type 0
FillsEntries b old new before after count code =
    IsKept old new code
    × (((d s : List ℕ) × GoesThrough b old d s × GoesFrom b s old new before after count code)
    ⊎ (StaysAstray b old new code × (count ≡ 0) × (after ≡ before)))

-- the entry as it is worked out
pub record IsEntryWorkedOut (offset : ℕ) (f : Frame) (e : Entry) : Type 0 where
  pub tag : e.tag ≡ tag_of f.kind
  pub key_at : e.key_at ≡ offset + 1
  pub key_len : e.key_len ≡ length f.key
  pub payload_at : e.payload_at ≡ offset + (2 + length f.key)
  pub payload_len : e.payload_len ≡ length f.payload
