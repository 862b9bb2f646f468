-- Values as texts in the caller's room: ObjectIds as hex digits, Decimal128s, and times. The room is the caller's, before and after.
use Rattle.std.specs.Prelude.{◌≡◌, ◌≢◌, ◌⊎◌, ℕ, suc, ℤ, List, [], ◌∷◌, ◌++◌, length, take, drop, Ok}
use Rattle.std.specs.Int.{w32, from_be_bytes}
use Rattle.hex.specs.Hex.{decode_sized}
use Rattle.bson_from_json.specs.DecimalTexts.{WritesDecimal}
use Rattle.bson_from_json.specs.Times.{WritesTime}
use Rattle.bson_to_json.specs.Dates.{HasInstantText, IsInstantText}
use Rattle.bson_to_json.specs.Decimals.{decimal128_text}
use Rattle.bsonraw_c.specs.Iters.{Returns}
use Rattle.bsonraw_c.specs.declared.codes.Status.TheVariants as status

-- A text is 24 hex digits, whose letters may have either case, and the room has the twelve bytes that they write; or it is no such
-- text, and the room is as it was.
abbrev pub ReadsHex : List ℕ → List ℕ → List ℕ → ℤ → Type 0
ReadsHex text before after code =
    ((decode_sized text 12 ≡ Ok after) × Returns status.Done code)
    ⊎ (((id : List ℕ) → decode_sized text 12 ≢ Ok id) × (after ≡ before) × Returns status.Fault code)

-- the seconds from 1970 on that an ObjectId says: its first four bytes, the greatest first
abbrev pub seconds_of : List ℕ → ℕ
seconds_of id = from_be_bytes w32 (take 4 id)

-- a text with a 0 after it is at the front of the room, and after them is what stood there
abbrev pub HasText : List ℕ → List ℕ → List ℕ → Type 0
HasText text before after = after ≡ (text ++ (0 ∷ [])) ++ drop (suc (length text)) before

-- the room has the text of the Decimal128 of these bytes
abbrev pub PutsDecimal : List ℕ → List ℕ → List ℕ → ℤ → Type 0
PutsDecimal bytes before after code = HasText (decimal128_text bytes) before after × Returns status.Done code

-- the room has the text of a time; or the time isn't of the years 0 to 9999, and the room is as it was
abbrev pub PutsTime : ℤ → List ℕ → List ℕ → ℤ → Type 0
PutsTime millis before after code =
    ((text : List ℕ) × IsInstantText millis text × HasText text before after × Returns status.Done code)
    ⊎ ((¬ HasInstantText millis) × (after ≡ before) × Returns status.Fault code)

-- a text writes a Decimal128, whose bytes are in the room; or none, and the room is as it was
abbrev pub ReadsDecimal : List ℕ → List ℕ → List ℕ → ℤ → Type 0
ReadsDecimal text before after code =
    (WritesDecimal text after × Returns status.Done code)
    ⊎ (((bytes : List ℕ) → ¬ WritesDecimal text bytes) × (after ≡ before) × Returns status.Fault code)

-- a text writes a time, whose milliseconds are in the room; or none, and the room is as it was
abbrev pub ReadsTime : List ℕ → ℤ → ℤ → ℤ → Type 0
ReadsTime text before after code =
    (WritesTime text after × Returns status.Done code)
    ⊎ (((millis : ℤ) → ¬ WritesTime text millis) × (after ≡ before) × Returns status.Fault code)
