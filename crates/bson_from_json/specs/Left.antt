-- How much of a text is left, which shows that its reading ends.
use Rattle.std.specs.Prelude.{ℕ, length}
use Rattle.bson_from_json.specs.declared.reading.Reader.{Reader}

-- how many tokens aren't read yet
abbrev pub left_of : Reader → ℕ
left_of reader = length reader.source.tokens
