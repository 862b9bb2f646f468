-- What a text of Extended JSON v2 means.
use Rattle.std.specs.Prelude.{◌≡◌, ◌<◌, ℕ, List, min}
use Rattle.json.specs.Json.{Json}
use Rattle.json.specs.Lex.{tokens}
use Rattle.json.specs.Tree.{json_tokens}
use Rattle.bson_model.specs.Tree.{Entries, document}
use Rattle.raw_tree.specs.Encoding.{encoded_len, encoding}
use Rattle.raw_tree.specs.declared.reader.limits.Limits.{Limits}
use Rattle.raw_view.specs.Frame.Number.{max_length}
use Rattle.values_from_json.specs.Meaning.{IsWhole}
use Rattle.values_from_json.specs.declared.error.JsonReason.{JsonReason}
use Rattle.values_from_json.specs.declared.error.JsonReason.TheVariants.{OutOfMemory, TooManyBytes, TooDeep}
use Rattle.bson_from_json.specs.Depths.{tree_depth}

-- the text is this JSON value (RFC 8259), however deep it is nested: its tokens are those of the value
abbrev pub IsJsonText : List ℕ → Json → Type 0
IsJsonText text j = tokens text ≡ json_tokens j

-- the text writes this document
abbrev pub Says : List ℕ → Entries → Type 0
Says text es = (j : Json) × IsJsonText text j × IsWhole j es

-- the bytes are those of a document that the text writes
abbrev pub IsWritten : List ℕ → List ℕ → Type 0
IsWritten text bytes = (es : Entries) × Says text es × (bytes ≡ encoding (document es))

-- the text writes no document
abbrev pub SaysNone : List ℕ → Type 0
SaysNone text = (es : Entries) → ¬ Says text es

-- these limits, where no document has more bytes than BSON allows
abbrev pub capped : Limits → Limits
capped limits = record { bytes = min limits.bytes max_length; depth = limits.depth }

-- every document that the text writes has more bytes than the limit, or than BSON allows
abbrev pub AreAllTooLong : Limits → List ℕ → Type 0
AreAllTooLong limits text = (es : Entries) → Says text es → (capped limits).bytes < encoded_len (document es)

-- every document that the text writes has more levels than the limit
abbrev pub AreAllTooDeep : Limits → List ℕ → Type 0
AreAllTooDeep limits text = (es : Entries) → Says text es → limits.depth < tree_depth (document es)

-- What holds of a text that isn't read within limits for this reason: it writes no document, or none within the limit. Nothing is said of out
-- of memory.
abbrev pub IsCause : Limits → List ℕ → JsonReason → Type 0
IsCause limits text OutOfMemory = Unit {0}
IsCause limits text TooManyBytes = AreAllTooLong limits text
IsCause limits text TooDeep = AreAllTooDeep limits text
IsCause limits text _ = SaysNone text
