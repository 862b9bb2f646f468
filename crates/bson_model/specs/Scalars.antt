-- The content of the small values of a fixed size.
use Rattle.std.specs.Prelude.{ℕ, ℤ, List}
use Rattle.bson_model.specs.declared.object_id.ObjectId.{ObjectId}
use Rattle.bson_model.specs.declared.times.DateTime.{DateTime}
use Rattle.bson_model.specs.declared.numbers.Decimal128.{Decimal128}

-- the twelve bytes of an ObjectId
abbrev pub bytes_of_object_id : ObjectId → List ℕ
bytes_of_object_id id = id.bytes

-- the milliseconds of a DateTime
abbrev pub millis_of_date_time : DateTime → ℤ
millis_of_date_time time = time.millis

-- the sixteen bytes of a Decimal128
abbrev pub bytes_of_decimal128 : Decimal128 → List ℕ
bytes_of_decimal128 number = number.bytes
