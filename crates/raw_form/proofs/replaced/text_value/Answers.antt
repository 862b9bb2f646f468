use Rattle.std.proofs.Common.{refl}
use Rattle.bson_model.specs.Leaf.{string, javascript_code, symbol, db_pointer}
use Rattle.raw_form.proofs.replaced.text_value.Goals as goal

pub returns-in-String-clause-value : goal.returns-in-String-clause-value
returns-in-String-clause-value c = rw c.in-String.is (string c.args.text.now, refl, refl)

pub returns-in-JavaScriptCode-clause-value : goal.returns-in-JavaScriptCode-clause-value
returns-in-JavaScriptCode-clause-value c = rw c.in-JavaScriptCode.is (javascript_code c.args.text.now, refl, refl)

pub returns-in-Symbol-clause-value : goal.returns-in-Symbol-clause-value
returns-in-Symbol-clause-value c = rw c.in-Symbol.is (symbol c.args.text.now, refl, refl)

pub returns-in-DbPointer-clause-value : goal.returns-in-DbPointer-clause-value
returns-in-DbPointer-clause-value c =
    rw (c.in-DbPointer.is, c.new.ensures.namespace, c.new.ensures.id, c.from_bytes-id.ensures, c.twelve.ensures) (db_pointer c.args.text.now c.args.rest.now, refl, refl)
