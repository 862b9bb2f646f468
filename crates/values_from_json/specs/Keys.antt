-- The keys of wrappers.
use Rattle.std.specs.Prelude.{ℕ, List, codes}
use Rattle.values_from_json.specs.declared.wrapper.Wrapper.{Wrapper}
use Rattle.values_from_json.specs.declared.wrapper.Wrapper.TheVariants as wrapper

-- the first key of a wrapper
abbrev pub wrapper_key : Wrapper → List ℕ
wrapper_key wrapper.Oid = codes "$oid"
wrapper_key wrapper.NumberInt = codes "$numberInt"
wrapper_key wrapper.NumberLong = codes "$numberLong"
wrapper_key wrapper.NumberDouble = codes "$numberDouble"
wrapper_key wrapper.NumberDecimal = codes "$numberDecimal"
wrapper_key wrapper.Binary = codes "$binary"
wrapper_key wrapper.Uuid = codes "$uuid"
wrapper_key wrapper.Date = codes "$date"
wrapper_key wrapper.RegularExpression = codes "$regularExpression"
wrapper_key wrapper.Timestamp = codes "$timestamp"
wrapper_key wrapper.Code = codes "$code"
wrapper_key wrapper.Scope = codes "$scope"
wrapper_key wrapper.DbPointer = codes "$dbPointer"
wrapper_key wrapper.Symbol = codes "$symbol"
wrapper_key wrapper.Undefined = codes "$undefined"
wrapper_key wrapper.MinKey = codes "$minKey"
wrapper_key wrapper.MaxKey = codes "$maxKey"
