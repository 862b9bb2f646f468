use Rattle.std.proofs.Common.{refl, Result, Ok, Err, IfOk, IfErr}
use Rattle.raw_view.specs.Errors.{IsOutOfMemory}
use Rattle.raw_view.specs.Meaning.{RawValue, value}
use Rattle.raw_view.specs.Meaning.Value.{value_of}
use Rattle.raw_view.specs.declared.error.Error.{Error}
use Rattle.raw_bson.specs.Copies.{IsCopy, CopiesMeaning}
use Rattle.raw_bson.specs.declared.bson.RawBson.{RawBson}
use Rattle.raw_bson.proofs.copies.RawBsonRefToRawBson.TheImpl.Goals as goal

-- what holds of the copy of a value holds of what a value means
copies_value : (v : RawValue) (answer : Result RawBson Error) → IfOk answer (IsCopy v) → IfErr answer IsOutOfMemory → CopiesMeaning (value v) answer
copies_value v (Ok copy) copied none = copied
copies_value v (Err e) copied none = none

pub to_raw_bson-tells : goal.to_raw_bson-tells
to_raw_bson-tells g c = record { copies = (value (value_of c.args.self), refl, copies_value (value_of c.args.self) c.result c.ensures.copied c.ensures.err) }
