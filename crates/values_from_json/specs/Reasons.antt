-- Why a text isn't that of a document, in words.
use Rattle.std.specs.Prelude.{ℕ, List, ◌++◌, codes, decimal}
use Rattle.values_from_json.specs.declared.error.JsonError.{JsonError}
use Rattle.values_from_json.specs.declared.error.JsonReason.{JsonReason}
use Rattle.values_from_json.specs.declared.error.JsonReason.TheVariants as reason
use Rattle.values_from_json.specs.declared.wrapper.Wrapper.{Wrapper}
use Rattle.values_from_json.specs.declared.wrapper.Wrapper.TheVariants as wrapper

-- an object that isn't what its key says
abbrev pub wrapper_words : Wrapper → List ℕ
wrapper_words wrapper.Oid = codes "this is not {\"$oid\": 24 hex digits}"
wrapper_words wrapper.NumberInt = codes "this is not {\"$numberInt\": a 32-bit integer as a string}"
wrapper_words wrapper.NumberLong = codes "this is not {\"$numberLong\": a 64-bit integer as a string}"
wrapper_words wrapper.NumberDouble = codes "this is not {\"$numberDouble\": a double as a string}"
wrapper_words wrapper.NumberDecimal = codes "this is not {\"$numberDecimal\": a decimal as a string}"
wrapper_words wrapper.Binary = codes "this is not {\"$binary\": {\"base64\": a string, \"subType\": hex digits}}"
wrapper_words wrapper.Uuid = codes "this is not {\"$uuid\": hex digits with hyphens}"
wrapper_words wrapper.Date = codes "this is not {\"$date\": an ISO 8601 time or {\"$numberLong\": milliseconds}}"
wrapper_words wrapper.RegularExpression = codes "this is not {\"$regularExpression\": {\"pattern\": a string, \"options\": a string}}"
wrapper_words wrapper.Timestamp = codes "this is not {\"$timestamp\": {\"t\": seconds, \"i\": increment}}"
wrapper_words wrapper.Code = codes "this is not {\"$code\": a string} or with \"$scope\": a document"
wrapper_words wrapper.Scope = codes "this is not {\"$code\": a string} or with \"$scope\": a document"
wrapper_words wrapper.DbPointer = codes "this is not {\"$dbPointer\": {\"$ref\": a string, \"$id\": an object id}}"
wrapper_words wrapper.Symbol = codes "this is not {\"$symbol\": a string}"
wrapper_words wrapper.Undefined = codes "this is not {\"$undefined\": true}"
wrapper_words wrapper.MinKey = codes "this is not {\"$minKey\": 1}"
wrapper_words wrapper.MaxKey = codes "this is not {\"$maxKey\": 1}"

-- why a text isn't that of a document
abbrev pub reason_words : JsonReason → List ℕ
reason_words reason.OutOfMemory = codes "out of memory"
reason_words reason.TooManyBytes = codes "more bytes than allowed"
reason_words reason.TooDeep = codes "deeper than allowed"
reason_words reason.EndOfText = codes "the text ends too early"
reason_words reason.ByteOrderMark = codes "a byte order mark in front of the text"
reason_words reason.ExpectedDocument = codes "expected a document"
reason_words reason.ExpectedKey = codes "expected a key in quotes"
reason_words reason.ExpectedColon = codes "expected a colon"
reason_words reason.ExpectedComma = codes "expected a comma or the end of the object or array"
reason_words reason.ExpectedValue = codes "expected a value"
reason_words reason.TextBehind = codes "text after the document"
reason_words reason.BadNumber = codes "not a number of JSON"
reason_words reason.IntegerTooLarge = codes "an integer of more than 64 bits"
reason_words reason.NumberTooLarge = codes "a number beyond the greatest double"
reason_words reason.ControlCharacter = codes "a control character that is not escaped"
reason_words reason.BadEscape = codes "not an escape of JSON"
reason_words reason.LoneSurrogate = codes "half a surrogate pair"
reason_words reason.InteriorNul = codes "U+0000 in a key, a pattern or options"
reason_words (reason.Malformed wrapper) = wrapper_words wrapper
reason_words reason.InexactDecimal = codes "a decimal that no Decimal128 is exactly"

-- and where
abbrev pub error_words : JsonError → List ℕ
error_words e = codes "line " ++ decimal e.line ++ codes ", column " ++ decimal e.column ++ codes ": " ++ reason_words e.reason
