-- Short texts in arrays: at most 42 bytes, which is the greatest length of the text of a Decimal128.
use Rattle.std.specs.Prelude.{◌≡◌, ◌≤◌, ◌+◌, ℕ, List, ◌++◌, length, take}
use Rattle.bson_to_json.specs.declared.short_text.ShortText.{ShortText}

-- the bytes of a text
abbrev pub short_bytes : ShortText → List ℕ
short_bytes text = take text.len text.bytes

-- these bytes were appended to a text, if there was room for them
pub record Adds (old new : ShortText) (bs : List ℕ) : Type 0 where
  pub put : length (short_bytes old) + length bs ≤ 42 → short_bytes new ≡ short_bytes old ++ bs
