-- Objects that write one value for which JSON has no notation: the type wrappers of Extended JSON v2, each known by its key. These are the
-- wrappers that hold no other values. The comment of each is its line of the specification's table, written from memory.
use Rattle.std.specs.Prelude.{◌≡◌, ◌⊎◌, ◌==◌, ◌||◌, ℕ, ℤ, pos, ◌<◌, ◌^◌, Bool, List, [], ◌∷◌, Some, Ok, codes, FitsSigned, if◌then◌else◌}
use Rattle.std.specs.Int.{w64}
use Rattle.base64.specs.Engines.{standard}
use Rattle.base64.specs.GeneralPurpose.{decode_of}
use Rattle.hex.specs.Hex.{decode_sized}
use Rattle.uuid.specs.Text.{parsed_hyphenated}
use Rattle.json.specs.Json.{Json, boolean, number, string, object, Members, no_members, member}
use Rattle.bson_model.specs.Bytes.{NulFree}
use Rattle.bson_model.specs.Leaf.{Leaf, binary, undefined, object_id, date_time, regular_expression, db_pointer, javascript_code, symbol, timestamp, max_key, min_key}
use Rattle.bson_model.specs.Options.{sorted_options}
use Rattle.bson_model.specs.Subtype.{subtype_of}
use Rattle.bson_model.specs.declared.binaries.BinarySubtype.TheVariants.{Uuid}
use Rattle.values_from_json.specs.Numbers.{WritesInteger, WritesQuotedInteger, IsQuotedInt32, IsQuotedInt64, IsQuotedDouble}
use Rattle.values_from_json.specs.DecimalTexts.{IsQuotedDecimal}
use Rattle.values_from_json.specs.Spaces.{is_space, trimmed, without_spaces}
use Rattle.values_from_json.specs.Times.{WritesTime}

-- an object of this one member
abbrev pub one_member : List ℕ → Json → Members
one_member key j = member key j no_members

-- an object of these two members, in either order: "parsers MUST NOT consider key order as having significance"
abbrev pub AreTwo : List ℕ → Json → List ℕ → Json → Members → Type 0
AreTwo key j key' j' ms = (ms ≡ member key j (one_member key' j')) ⊎ (ms ≡ member key' j' (one_member key j))

-- ObjectId: {"$oid": <ObjectId bytes as 24-character, big-endian hex string>}
abbrev pub IsOid : Json → Leaf → Type 0
IsOid (string s) l = (id : List ℕ) × (decode_sized s 12 ≡ Ok id) × (l ≡ object_id id)
IsOid _ l = ⊥

-- a string that writes the value
abbrev pub InString : (List ℕ → Leaf → Type 0) → Json → Leaf → Type 0
InString Writes (string s) l = Writes s l
InString Writes _ l = ⊥

-- One or two hex digits. Other programs take white space in place of either of two, and a plus in place of the first.
abbrev pub two_hex_digits : List ℕ → List ℕ
two_hex_digits (digit ∷ []) = 48 ∷ digit ∷ []
two_hex_digits (a ∷ b ∷ []) = if is_space a || (a == 43) then 48 ∷ b ∷ [] else if is_space b then 48 ∷ a ∷ [] else a ∷ b ∷ []
two_hex_digits digits = digits

-- Binary: {"$binary": {"base64": <base64-encoded (with padding as =) payload as a string>, "subType": <BSON binary type as a one- or
-- two-character hex string>}}. The payload of subtype 2 excludes the inner length. White space in base64, as at the end of the lines of
-- MIME, counts for nothing.
abbrev pub IsBinary : Json → Leaf → Type 0
IsBinary (object ms) l =
    (text digits bytes : List ℕ) × (subtype : ℕ) × AreTwo (codes "base64") (string text) (codes "subType") (string digits) ms
    × (decode_of standard (without_spaces text) ≡ Ok bytes) × (decode_sized (two_hex_digits digits) 1 ≡ Ok (subtype ∷ []))
    × (l ≡ binary (subtype_of subtype) bytes)
IsBinary _ l = ⊥

-- Binary in version 1 of Extended JSON: {"$binary": <base64-encoded payload as a string>, "$type": <BSON binary type as a one- or two-character
-- hex string>}. White space around the digits counts for nothing.
abbrev pub IsOldBinary : Members → Leaf → Type 0
IsOldBinary ms l =
    (text digits bytes : List ℕ) × (subtype : ℕ) × AreTwo (codes "$binary") (string text) (codes "$type") (string digits) ms
    × (decode_of standard (without_spaces text) ≡ Ok bytes) × (decode_sized (two_hex_digits (trimmed digits)) 1 ≡ Ok (subtype ∷ []))
    × (l ≡ binary (subtype_of subtype) bytes)

-- {"$uuid": <canonical textual representation of a UUID: hex digits in groups of 8, 4, 4, 4 and 12 with hyphens>}, a Binary
-- of subtype 4
abbrev pub IsUuid : Json → Leaf → Type 0
IsUuid (string s) l = (bytes : List ℕ) × (parsed_hyphenated s ≡ Some bytes) × (l ≡ binary Uuid bytes)
IsUuid _ l = ⊥

-- an object {"$numberLong": <64-bit signed integer as a string>}
abbrev pub IsLongObject : Members → ℤ → Type 0
IsLongObject ms z = (s : List ℕ) × (ms ≡ one_member (codes "$numberLong") (string s)) × WritesQuotedInteger s z

-- Datetime: {"$date": {"$numberLong": <milliseconds relative to the epoch, as a string>}}
-- or {"$date": <ISO-8601 Internet Date/Time Format as in RFC 3339, with maximum time precision of milliseconds, as a string>};
-- dumps of older tools have {"$date": <milliseconds relative to the epoch, as a number>}
abbrev pub IsDate : Json → Leaf → Type 0
IsDate (string s) l = (z : ℤ) × WritesTime s z × (l ≡ date_time z)
IsDate (object ms) l = (z : ℤ) × IsLongObject ms z × FitsSigned w64 z × (l ≡ date_time z)
IsDate (number s) l = (z : ℤ) × WritesInteger s z × FitsSigned w64 z × (l ≡ date_time z)
IsDate _ l = ⊥

-- Regular Expression: {"$regularExpression": {"pattern": <string>, "options": <BSON regular expression options as a string or "">}};
-- options "MUST be in alphabetical order" in BSON, and neither contains U+0000, which would end it
abbrev pub IsRegex : Json → Leaf → Type 0
IsRegex (object ms) l =
    (pattern options : List ℕ) × AreTwo (codes "pattern") (string pattern) (codes "options") (string options) ms
    × NulFree pattern × NulFree options × (l ≡ regular_expression pattern (sorted_options options))
IsRegex _ l = ⊥

-- an unsigned JSON integer of 32 bits
abbrev pub WritesUnsigned : List ℕ → ℕ → Type 0
WritesUnsigned s n = WritesInteger s (pos n) × (n < 2 ^ 32)

-- Timestamp: {"$timestamp": {"t": pos-integer, "i": pos-integer}}: seconds since epoch, and the increment
abbrev pub IsTimestamp : Json → Leaf → Type 0
IsTimestamp (object ms) l =
    (t i : List ℕ) × (time increment : ℕ) × AreTwo (codes "t") (number t) (codes "i") (number i) ms
    × WritesUnsigned t time × WritesUnsigned i increment × (l ≡ timestamp time increment)
IsTimestamp _ l = ⊥

-- DBPointer: {"$dbPointer": {"$ref": <namespace>, "$id": <ObjectId as an extended JSON>}}
abbrev pub IsDbPointer : Json → Leaf → Type 0
IsDbPointer (object ms) l =
    (namespace digits id : List ℕ)
    × AreTwo (codes "$ref") (string namespace) (codes "$id") (object (one_member (codes "$oid") (string digits))) ms
    × (decode_sized digits 12 ≡ Ok id) × (l ≡ db_pointer namespace id)
IsDbPointer _ l = ⊥

-- a member with this key and this value
abbrev pub Under : List ℕ → Json → List ℕ → Json → Type 0
Under name v key j = (key ≡ name) × (j ≡ v)

-- an object of one member, which writes one value
abbrev pub IsWrapped : List ℕ → Json → Leaf → Type 0
IsWrapped key j l =
    ((key ≡ codes "$oid") × IsOid j l)
    ⊎ ((key ≡ codes "$numberInt") × InString IsQuotedInt32 j l)
    ⊎ ((key ≡ codes "$numberLong") × InString IsQuotedInt64 j l)
    ⊎ ((key ≡ codes "$numberDouble") × InString IsQuotedDouble j l)
    ⊎ ((key ≡ codes "$numberDecimal") × InString IsQuotedDecimal j l)
    ⊎ ((key ≡ codes "$binary") × IsBinary j l)
    ⊎ ((key ≡ codes "$uuid") × IsUuid j l)
    ⊎ ((key ≡ codes "$date") × IsDate j l)
    ⊎ ((key ≡ codes "$regularExpression") × IsRegex j l)
    ⊎ ((key ≡ codes "$timestamp") × IsTimestamp j l)
    ⊎ ((key ≡ codes "$dbPointer") × IsDbPointer j l)
    ⊎ ((key ≡ codes "$code") × InString (λ s l. l ≡ javascript_code s) j l)
    ⊎ ((key ≡ codes "$symbol") × InString (λ s l. l ≡ symbol s) j l)
    ⊎ ((b : Bool) × Under (codes "$undefined") (boolean b) key j × (l ≡ undefined))
    ⊎ (Under (codes "$minKey") (number (codes "1")) key j × (l ≡ min_key))
    ⊎ (Under (codes "$maxKey") (number (codes "1")) key j × (l ≡ max_key))

-- an object that writes one value: of one member, or of the two of an old binary
abbrev pub WritesOne : Members → Leaf → Type 0
WritesOne (member key j no_members) l = IsWrapped key j l
WritesOne ms l = IsOldBinary ms l
