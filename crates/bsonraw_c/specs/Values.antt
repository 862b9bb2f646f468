-- The value of an element. The bytes b are the caller's.
use Rattle.std.specs.Prelude.{◌≡◌, ◌⊎◌, ◌≤◌, ◌+◌, ◌-◌, ℕ, ℤ, pos, true, false, nat_eq, cond, List, length}
use Rattle.raw_bson.specs.Leaf.{double, string, binary, undefined, object_id, boolean, date_time, null, regular_expression, db_pointer, javascript_code, symbol, int32, timestamp, int64, decimal128, max_key, min_key}
use Rattle.raw_bson.specs.Subtype.{subtype_byte}
use Rattle.raw_bson.specs.Frame.{Frame, IsFrame}
use Rattle.raw_bson.specs.Kind.{tag_of}
use Rattle.raw_bson.specs.Meaning.{KeyedFault, Means, RawValue, array, document, faulty, scoped, single, kind_of_raw, value}
use Rattle.bsonraw_c.specs.Codes.{TellsFaultCode}
use Rattle.bsonraw_c.specs.Iters.{GoesThrough, Returns, place_of_none}
use Rattle.bsonraw_c.specs.Places.{StandsAt}
use Rattle.bsonraw_c.specs.declared.codes.Status.TheVariants as status
use Rattle.bsonraw_c.specs.declared.fault.Fault.{Fault}
use Rattle.bsonraw_c.specs.declared.iter.Iter.{Iter}
use Rattle.bsonraw_c.specs.declared.value.Value.{Value}

-- no fault
abbrev pub no_fault : Fault
no_fault = record { why = record { kind = 0; reason = 0; number = 0; left = 0 }; offset = 0 }

-- no value, with this tag
abbrev pub no_value : ℕ → ℕ → Value
no_value end tag = record { tag = tag; subtype = 0; integer = pos 0; bits = 0; text_at = end; text_len = 0; more_at = end; more_len = 0; time = 0; increment = 0; fault = no_fault }

-- x is what it was but for a text, or bytes, which are in b at this offset
abbrev pub HasPart : List ℕ → Value → ℕ → List ℕ → Value → Type 0
HasPart b none at text x = StandsAt b at (length text) text × (x ≡ record none { text_at = at; text_len = length text })

-- the same but for two
abbrev pub HasParts : List ℕ → Value → ℕ → List ℕ → ℕ → List ℕ → Value → Type 0
HasParts b none at text behind more x =
    StandsAt b at (length text) text × StandsAt b behind (length more) more
    × (x ≡ record none { text_at = at; text_len = length text; more_at = behind; more_len = length more })

-- How many bytes of a binary are before those that it holds: four for their length, one for the subtype, and four for the
-- inner length of an old one.
abbrev pub binary_head : ℕ → ℕ
binary_head byte = cond (nat_eq byte 2) 9 5

-- x says this value, whose payload begins at this offset of b: four bytes before a text are its length, and a 0 is after it
abbrev pub SaysParts : List ℕ → ℕ → RawValue → Value → Value → Type 0
SaysParts b at (single (double bits)) none x = x ≡ record none { bits = bits }
SaysParts b at (single (string text)) none x = HasPart b none (at + 4) text x
SaysParts b at (single (binary subtype bytes)) none x =
    HasPart b (record none { subtype = subtype_byte subtype }) (at + binary_head (subtype_byte subtype)) bytes x
SaysParts b at (single undefined) none x = x ≡ none
SaysParts b at (single (object_id id)) none x = HasPart b none at id x
SaysParts b at (single (boolean false)) none x = x ≡ none
SaysParts b at (single (boolean true)) none x = x ≡ record none { integer = pos 1 }
SaysParts b at (single (date_time millis)) none x = x ≡ record none { integer = millis }
SaysParts b at (single null) none x = x ≡ none
SaysParts b at (single (regular_expression pattern options)) none x = HasParts b none at pattern (at + (length pattern + 1)) options x
SaysParts b at (single (db_pointer namespace id)) none x = HasParts b none (at + 4) namespace (at + (length namespace + 5)) id x
SaysParts b at (single (javascript_code code)) none x = HasPart b none (at + 4) code x
SaysParts b at (single (symbol text)) none x = HasPart b none (at + 4) text x
SaysParts b at (single (int32 z)) none x = x ≡ record none { integer = z }
SaysParts b at (single (timestamp time increment)) none x = x ≡ record none { time = time; increment = increment }
SaysParts b at (single (int64 z)) none x = x ≡ record none { integer = z }
SaysParts b at (single (decimal128 bytes)) none x = HasPart b none at bytes x
SaysParts b at (single max_key) none x = x ≡ none
SaysParts b at (single min_key) none x = x ≡ none
SaysParts b at (document d) none x = HasPart b none at d x
SaysParts b at (array d) none x = HasPart b none at d x
SaysParts b at (scoped code scope) none x = HasParts b none (at + 8) code (at + (length code + 9)) scope x

-- x says this value, whose payload begins at this offset, with its tag, and nothing else
abbrev pub SaysValue : List ℕ → ℕ → RawValue → Value → Type 0
SaysValue b at v x = SaysParts b at v (no_value (place_of_none b) (tag_of (kind_of_raw v))) x

-- the frame is where the iterator says the key of its element, in the document that it goes through
pub record IsOn (b : List ℕ) (it : Iter) (f : Frame) : Type 0 where
  pub d : List ℕ
  pub s : List ℕ
  pub r : List ℕ
  pub begun : 1 ≤ it.key_at
  pub there : GoesThrough b (record it { next = it.key_at - 1 }) d s
  pub stands : IsFrame s f r

-- where the payload of this frame begins, which the iterator is on: after the key and its 0
abbrev pub payload_begins : Iter → Frame → ℕ
payload_begins it f = it.key_at + (length f.key + 1)

-- What is returned of the value of the element that an iterator with any fields is at: the value; or why its payload means
-- none; or that no element is there.
abbrev pub GivesValue : List ℕ → Iter → Value → ℤ → Type 0
GivesValue b it x code =
    ((f : Frame) × (v : RawValue) × IsOn b it f × Means f (value v) × SaysValue b (payload_begins it f) v x × Returns status.Done code)
    ⊎ ((f : Frame) × (fault : KeyedFault) × IsOn b it f × Means f (faulty fault) × TellsFaultCode fault.fault x.fault.why × (x.fault.offset + 1 ≡ it.key_at)
    × (x ≡ record (no_value (place_of_none b) 0) { fault = x.fault }) × Returns status.Fault code)
    ⊎ (((f : Frame) → ¬ IsOn b it f) × (x ≡ no_value (place_of_none b) 0) × Returns status.BadOffset code)
