-- The values that the types of getters and accessors show.
use Rattle.std.specs.Prelude.{ℕ, ℤ, Bool, List}
use denote.Ref.{Bor}
use Rattle.bson_model.specs.declared.numbers.DoubleBits.{DoubleBits}
use Rattle.bson_model.specs.declared.object_id.ObjectId.{ObjectId}
use Rattle.bson_model.specs.declared.times.DateTime.{DateTime}
use Rattle.bson_model.specs.declared.times.Timestamp.{Timestamp}
use Rattle.bson_model.specs.Leaf.{double, string, binary, object_id, boolean, date_time, null, regular_expression, db_pointer, javascript_code, symbol, int32, timestamp, int64}
use Rattle.bson_model.specs.Scalars.{bytes_of_object_id, millis_of_date_time}
use Rattle.raw_view.specs.declared.document.RawDocument.{RawDocument}
use Rattle.raw_view.specs.declared.array.RawArray.{RawArray}
use Rattle.raw_view.specs.declared.bson_ref.RawBinaryRef.{RawBinaryRef}
use Rattle.raw_view.specs.declared.bson_ref.RawRegexRef.{RawRegexRef}
use Rattle.raw_view.specs.declared.bson_ref.RawDbPointerRef.{RawDbPointerRef}
use Rattle.raw_view.specs.declared.bson_ref.RawJavaScriptCodeWithScopeRef.{RawJavaScriptCodeWithScopeRef}
use Rattle.raw_view.specs.Document.{bytes_of}
use Rattle.raw_view.specs.Meaning.Value.{array_bytes_of, namespace_of, id_of}
use Rattle.raw_view.specs.Meaning.{RawValue, single, document, array, scoped}

-- a double
abbrev pub f64_value : DoubleBits → RawValue
f64_value x = single (double x.0)

-- a string
abbrev pub str_value : Bor (List ℕ) → RawValue
str_value x = single (string x.now)

-- a nested document
abbrev pub document_value : RawDocument → RawValue
document_value x = document (bytes_of x)

-- an array
abbrev pub array_value : RawArray → RawValue
array_value x = array (array_bytes_of x)

-- a binary
abbrev pub binary_value : RawBinaryRef → RawValue
binary_value x = single (binary x.subtype x.bytes.now)

-- an ObjectId
abbrev pub object_id_value : ObjectId → RawValue
object_id_value x = single (object_id (bytes_of_object_id x))

-- a boolean
abbrev pub bool_value : Bool → RawValue
bool_value x = single (boolean x)

-- a date
abbrev pub datetime_value : DateTime → RawValue
datetime_value x = single (date_time (millis_of_date_time x))

-- a regular expression
abbrev pub regex_value : RawRegexRef → RawValue
regex_value x = single (regular_expression x.pattern.now x.options.now)

-- a timestamp
abbrev pub timestamp_value : Timestamp → RawValue
timestamp_value x = single (timestamp x.time x.increment)

-- a 32-bit number
abbrev pub i32_value : ℤ → RawValue
i32_value x = single (int32 x)

-- a 64-bit number
abbrev pub i64_value : ℤ → RawValue
i64_value x = single (int64 x)

-- a symbol
abbrev pub symbol_value : Bor (List ℕ) → RawValue
symbol_value x = single (symbol x.now)

-- null
abbrev pub null_value : Unit {0} → RawValue
null_value x = single null

-- a pointer
abbrev pub db_pointer_value : RawDbPointerRef → RawValue
db_pointer_value x = single (db_pointer (namespace_of x) (id_of x))

-- code without a scope
abbrev pub javascript_value : Bor (List ℕ) → RawValue
javascript_value x = single (javascript_code x.now)

-- code with a scope
abbrev pub javascript_with_scope_value : RawJavaScriptCodeWithScopeRef → RawValue
javascript_with_scope_value x = scoped x.code.now (bytes_of x.scope)
