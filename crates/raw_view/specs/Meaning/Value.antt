-- The values that borrowed values show.
use Rattle.std.specs.Prelude.{◌≡◌, ℕ, List, Option, None, Some}
use Rattle.bson_model.specs.Leaf.{double, string, binary, undefined, object_id, boolean, date_time, null, regular_expression, db_pointer, javascript_code, symbol, int32, timestamp, int64, decimal128, max_key, min_key}
use Rattle.bson_model.specs.Scalars.{bytes_of_object_id, millis_of_date_time, bytes_of_decimal128}
use Rattle.raw_view.specs.declared.bson_ref.RawBsonRef.{RawBsonRef}
use Rattle.raw_view.specs.declared.bson_ref.RawBsonRef.TheVariants as ref
use Rattle.raw_view.specs.declared.bson_ref.RawDbPointerRef.{RawDbPointerRef}
use Rattle.raw_view.specs.declared.array.RawArray.{RawArray}
use Rattle.raw_view.specs.declared.level.Holder.{Holder}
use Rattle.raw_view.specs.declared.level.Holder.TheVariants as holder
use Rattle.raw_view.specs.declared.level.RawLevel.{RawLevel}
use Rattle.raw_view.specs.Document.{bytes_of}
use Rattle.raw_view.specs.Meaning.{RawValue, single, document, array, scoped}

-- the bytes that an array views
abbrev pub array_bytes_of : RawArray → List ℕ
array_bytes_of a = bytes_of a.document

-- the namespace of a pointer
abbrev pub namespace_of : RawDbPointerRef → List ℕ
namespace_of p = p.namespace.now

-- the identifier of a pointer
abbrev pub id_of : RawDbPointerRef → List ℕ
id_of p = bytes_of_object_id p.id

-- the value that a borrowed value shows
abbrev pub value_of : RawBsonRef → RawValue
value_of (ref.Double x) = single (double x.0)
value_of (ref.String text) = single (string text.now)
value_of (ref.Array a) = array (array_bytes_of a)
value_of (ref.Document d) = document (bytes_of d)
value_of (ref.Boolean b) = single (boolean b)
value_of ref.Null = single null
value_of (ref.RegularExpression r) = single (regular_expression r.pattern.now r.options.now)
value_of (ref.JavaScriptCode text) = single (javascript_code text.now)
value_of (ref.JavaScriptCodeWithScope c) = scoped c.code.now (bytes_of c.scope)
value_of (ref.Int32 z) = single (int32 z)
value_of (ref.Int64 z) = single (int64 z)
value_of (ref.Timestamp t) = single (timestamp t.time t.increment)
value_of (ref.Binary b) = single (binary b.subtype b.bytes.now)
value_of (ref.ObjectId id) = single (object_id (bytes_of_object_id id))
value_of (ref.DateTime t) = single (date_time (millis_of_date_time t))
value_of (ref.Symbol text) = single (symbol text.now)
value_of (ref.Decimal128 x) = single (decimal128 (bytes_of_decimal128 x))
value_of ref.Undefined = single undefined
value_of ref.MaxKey = single max_key
value_of ref.MinKey = single min_key
value_of (ref.DbPointer p) = single (db_pointer (namespace_of p) (id_of p))

-- the value that holds these bytes
abbrev pub holding : Holder → List ℕ → RawValue
holding holder.Document d = document d
holding holder.Array d = array d
holding (holder.Code code) d = scoped code.now d

-- the value that holds this level
abbrev pub held_value : RawLevel → RawValue
held_value level = holding level.holder (bytes_of level.document)

-- the value holds no others
abbrev pub IsSingle : RawValue → Type 0
IsSingle (single leaf) = Unit {0}
IsSingle (document d) = ⊥
IsSingle (array d) = ⊥
IsSingle (scoped code d) = ⊥

-- the value holds this level, or holds none
abbrev pub HoldsLevel : RawValue → Option RawLevel → Type 0
HoldsLevel v None = IsSingle v
HoldsLevel v (Some level) = v ≡ held_value level
