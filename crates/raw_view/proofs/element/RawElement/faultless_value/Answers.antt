use Rattle.std.proofs.Common.{lit<}
use Rattle.raw_view.proofs.Frames.Shapes.{document_had, double_had, object_id_had, int32_had, decimal128_had}
use Rattle.raw_view.proofs.element.RawElement.faultless_value.Goals as goal

pub framed-requires : goal.framed-requires
framed-requires c = document_had _ (rw c.in-EmbeddedDocument.is at c.args.self.framed)

pub framed-requires-in-Array : goal.framed-requires-in-Array
framed-requires-in-Array c = document_had _ (rw c.in-Array.is at c.args.self.framed)

pub array_of-requires : goal.array_of-requires
array_of-requires c = (lit< tt, object_id_had _ (rw c.in-ObjectId.is at c.args.self.framed))

pub i64_of-requires : goal.i64_of-requires
i64_of-requires c = double_had _ (rw c.in-DateTime.is at c.args.self.framed)

pub i64_of-requires-in-Int64 : goal.i64_of-requires-in-Int64
i64_of-requires-in-Int64 c = double_had _ (rw c.in-Int64.is at c.args.self.framed)

pub timestamp_of-requires : goal.timestamp_of-requires
timestamp_of-requires c = double_had _ (rw c.in-Timestamp.is at c.args.self.framed)

pub i32_of-requires : goal.i32_of-requires
i32_of-requires c = int32_had _ (rw c.in-Int32.is at c.args.self.framed)

pub array_of-requires-in-Decimal128 : goal.array_of-requires-in-Decimal128
array_of-requires-in-Decimal128 c = (lit< tt, decimal128_had _ (rw c.in-Decimal128.is at c.args.self.framed))

pub regex_of-requires : goal.regex_of-requires
regex_of-requires c = rw c.in-RegularExpression.is at c.args.self.framed
