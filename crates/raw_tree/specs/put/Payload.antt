-- The bytes of values.
use Rattle.std.specs.Prelude.{ℕ, List, [], ◌∷◌}
use Rattle.std.specs.Str.{IsUtf8}
use Rattle.bson_model.specs.Proper.{IsLeafInRange, IsLeafNulFree}
use Rattle.raw_view.specs.Frame.Envelope.{IsEnvelope}
use Rattle.raw_view.specs.Frame.Format.{leaf_payload, scoped_payload, element_of}
use Rattle.raw_view.specs.Meaning.{RawValue, single, document, array, scoped, kind_of_raw}

-- the payload of a value; for a nested document, an array and a scope these are their bytes
abbrev pub payload_of : RawValue → List ℕ
payload_of (single leaf) = leaf_payload leaf
payload_of (document bytes) = bytes
payload_of (array bytes) = bytes
payload_of (scoped code scope) = scoped_payload code scope

-- the element with this key and this value
abbrev pub element_bytes : List ℕ → RawValue → List ℕ
element_bytes key v = element_of (kind_of_raw v) key (payload_of v)

-- the pattern and the options of the value contain no 0; nested bytes don't matter
abbrev pub IsValueNulFree : RawValue → Type 0
IsValueNulFree (single leaf) = IsLeafNulFree leaf
IsValueNulFree _ = Unit {0}

-- what holds of every value that a call is given: numbers and bytes are in range, texts are UTF-8, and nested
-- documents, arrays and scopes have envelopes
abbrev pub IsRawInRange : RawValue → Type 0
IsRawInRange (single leaf) = IsLeafInRange leaf
IsRawInRange (document bytes) = IsEnvelope bytes
IsRawInRange (array bytes) = IsEnvelope bytes
IsRawInRange (scoped code scope) = IsUtf8 code × IsEnvelope scope

-- the four bytes of a length that isn't set yet
abbrev pub unset : List ℕ
unset = 0 ∷ 0 ∷ 0 ∷ 0 ∷ []
