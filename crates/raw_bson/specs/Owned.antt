-- The values that owned values show.
use Rattle.std.specs.Prelude.{◌≡◌, ℕ, Option, None, Some}
use Rattle.std.specs.String.{string_bytes}
use Rattle.bson_model.specs.Leaf.{double, string, binary, undefined, object_id, boolean, date_time, null, regular_expression, db_pointer, javascript_code, symbol, int32, timestamp, int64, decimal128, max_key, min_key}
use Rattle.bson_model.specs.Scalars.{bytes_of_object_id, millis_of_date_time, bytes_of_decimal128}
use Rattle.raw_view.specs.Meaning.{RawValue, single, document, array, scoped}
use Rattle.raw_bson.specs.declared.bson.RawBson.{RawBson}
use Rattle.raw_bson.specs.declared.bson.RawBson.TheVariants as own

-- the value that an owned value shows; for an array its bytes, without its count
abbrev pub owned_value : RawBson → RawValue
owned_value (own.Double x) = single (double x.0)
owned_value (own.String x) = single (string (string_bytes x))
owned_value (own.Array x) = array x.bytes
owned_value (own.Document x) = document x
owned_value (own.Boolean x) = single (boolean x)
owned_value own.Null = single null
owned_value (own.RegularExpression x) = single (regular_expression (string_bytes x.pattern) (string_bytes x.options))
owned_value (own.JavaScriptCode x) = single (javascript_code (string_bytes x))
owned_value (own.JavaScriptCodeWithScope x) = scoped (string_bytes x.code) x.scope
owned_value (own.Int32 x) = single (int32 x)
owned_value (own.Int64 x) = single (int64 x)
owned_value (own.Timestamp x) = single (timestamp x.time x.increment)
owned_value (own.Binary x) = single (binary x.subtype x.bytes.items)
owned_value (own.ObjectId x) = single (object_id (bytes_of_object_id x))
owned_value (own.DateTime x) = single (date_time (millis_of_date_time x))
owned_value (own.Symbol x) = single (symbol (string_bytes x))
owned_value (own.Decimal128 x) = single (decimal128 (bytes_of_decimal128 x))
owned_value own.Undefined = single undefined
owned_value own.MaxKey = single max_key
owned_value own.MinKey = single min_key
owned_value (own.DbPointer x) = single (db_pointer (string_bytes x.namespace) (bytes_of_object_id x.id))

-- the count of an array
abbrev pub count_in : RawBson → Option ℕ
count_in (own.Array x) = Some x.count
count_in _ = None

-- the two values are of one variant with the same fields
abbrev pub IsSameOwned : RawBson → RawBson → Type 0
IsSameOwned x y = (owned_value y ≡ owned_value x) × (count_in y ≡ count_in x)
