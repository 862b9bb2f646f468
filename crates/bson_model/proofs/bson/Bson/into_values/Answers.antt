use Rattle.bson_model.proofs.LeftTrees.{members-Array, members-Document, members-Code}
use Rattle.bson_model.proofs.bson.Bson.into_values.Goals as goal

pub returns-in-Array : goal.returns-in-Array
returns-in-Array c = rw c.in-Array.is (members-Array c.in-Array.values)

pub returns-in-Document : goal.returns-in-Document
returns-in-Document c = rw c.in-Document.is (members-Document c.in-Document.document c.into_values.result c.into_values.ensures)

pub returns-in-JavaScriptCodeWithScope : goal.returns-in-JavaScriptCodeWithScope
returns-in-JavaScriptCodeWithScope c =
    let called = c.into_values-in-JavaScriptCodeWithScope in
    rw c.in-JavaScriptCodeWithScope.is (members-Code c.in-JavaScriptCodeWithScope.code called.result called.ensures)
