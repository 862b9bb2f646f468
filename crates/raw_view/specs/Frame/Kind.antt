-- The kinds of element and their tags. BSON 1.1, `element`.
use Rattle.std.specs.Prelude.{ℕ, List, codes}
use Rattle.bson_model.specs.Leaf.{Leaf, double, string, binary, undefined, object_id, boolean, date_time, null, regular_expression, db_pointer, javascript_code, symbol, int32, timestamp, int64, decimal128, max_key, min_key}
use Rattle.raw_view.specs.declared.element_type.ElementType.{ElementType}
use Rattle.raw_view.specs.declared.element_type.ElementType.TheVariants as kind

-- the tag byte of each kind
abbrev pub tag_of : ElementType → ℕ
tag_of kind.Double = 0x01
tag_of kind.String = 0x02
tag_of kind.EmbeddedDocument = 0x03
tag_of kind.Array = 0x04
tag_of kind.Binary = 0x05
tag_of kind.Undefined = 0x06
tag_of kind.ObjectId = 0x07
tag_of kind.Boolean = 0x08
tag_of kind.DateTime = 0x09
tag_of kind.Null = 0x0A
tag_of kind.RegularExpression = 0x0B
tag_of kind.DbPointer = 0x0C
tag_of kind.JavaScriptCode = 0x0D
tag_of kind.Symbol = 0x0E
tag_of kind.JavaScriptCodeWithScope = 0x0F
tag_of kind.Int32 = 0x10
tag_of kind.Timestamp = 0x11
tag_of kind.Int64 = 0x12
tag_of kind.Decimal128 = 0x13
tag_of kind.MaxKey = 0x7F
tag_of kind.MinKey = 0xFF

-- the kind's name, as it is printed
abbrev pub kind_text : ElementType → List ℕ
kind_text kind.Double = codes "Double"
kind_text kind.String = codes "String"
kind_text kind.EmbeddedDocument = codes "EmbeddedDocument"
kind_text kind.Array = codes "Array"
kind_text kind.Binary = codes "Binary"
kind_text kind.Undefined = codes "Undefined"
kind_text kind.ObjectId = codes "ObjectId"
kind_text kind.Boolean = codes "Boolean"
kind_text kind.DateTime = codes "DateTime"
kind_text kind.Null = codes "Null"
kind_text kind.RegularExpression = codes "RegularExpression"
kind_text kind.DbPointer = codes "DbPointer"
kind_text kind.JavaScriptCode = codes "JavaScriptCode"
kind_text kind.Symbol = codes "Symbol"
kind_text kind.JavaScriptCodeWithScope = codes "JavaScriptCodeWithScope"
kind_text kind.Int32 = codes "Int32"
kind_text kind.Timestamp = codes "Timestamp"
kind_text kind.Int64 = codes "Int64"
kind_text kind.Decimal128 = codes "Decimal128"
kind_text kind.MaxKey = codes "MaxKey"
kind_text kind.MinKey = codes "MinKey"

-- some payload of this kind means a fault and no value
abbrev pub CanBeAtFault : ElementType → Type 0
CanBeAtFault kind.String = Unit {0}
CanBeAtFault kind.JavaScriptCode = Unit {0}
CanBeAtFault kind.Symbol = Unit {0}
CanBeAtFault kind.DbPointer = Unit {0}
CanBeAtFault kind.Boolean = Unit {0}
CanBeAtFault kind.Binary = Unit {0}
CanBeAtFault kind.JavaScriptCodeWithScope = Unit {0}
CanBeAtFault _ = ⊥

-- the kind of a value that holds no others
abbrev pub kind_of_leaf : Leaf → ElementType
kind_of_leaf (double _) = kind.Double
kind_of_leaf (string _) = kind.String
kind_of_leaf (binary _ _) = kind.Binary
kind_of_leaf undefined = kind.Undefined
kind_of_leaf (object_id _) = kind.ObjectId
kind_of_leaf (boolean _) = kind.Boolean
kind_of_leaf (date_time _) = kind.DateTime
kind_of_leaf null = kind.Null
kind_of_leaf (regular_expression _ _) = kind.RegularExpression
kind_of_leaf (db_pointer _ _) = kind.DbPointer
kind_of_leaf (javascript_code _) = kind.JavaScriptCode
kind_of_leaf (symbol _) = kind.Symbol
kind_of_leaf (int32 _) = kind.Int32
kind_of_leaf (timestamp _ _) = kind.Timestamp
kind_of_leaf (int64 _) = kind.Int64
kind_of_leaf (decimal128 _) = kind.Decimal128
kind_of_leaf max_key = kind.MaxKey
kind_of_leaf min_key = kind.MinKey
