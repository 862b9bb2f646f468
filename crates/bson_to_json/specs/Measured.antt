-- A text that was measured.
use Rattle.std.specs.Prelude.{◌≡◌, ◌≤◌, ◌<◌, ℕ, List, length, string_bytes, IfNone, IfSome}
use Rattle.bson_to_json.specs.declared.sink.Measured.{Measured}

-- its length is that of this text, and it has the text if and only if that is at most `most`
pub record Measures (most : ℕ) (text : List ℕ) (m : Measured) : Type 0 where
  pub len_is : m.len ≡ length text
  pub kept : IfSome m.text (λ kept. (string_bytes kept ≡ text) × (length text ≤ most))
  pub left_out : IfNone m.text (most < length text)
