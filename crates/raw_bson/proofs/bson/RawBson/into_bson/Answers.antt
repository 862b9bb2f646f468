use Rattle.std.proofs.Common.{refl}
use Rattle.std.proofs.lemmas.Result.{err_from_is_err_and}
use Rattle.bson_model.specs.Tree.{entries, pairs_of, with_trees}
use Rattle.bson_model.proofs.Face.{tree_of-JavaScriptCodeWithScope}
use Rattle.raw_view.specs.Meaning as raw
use Rattle.raw_bson.proofs.Converted.{told_of_value}
use Rattle.raw_bson.proofs.bson.RawBson.into_bson.Goals as goal

pub returns-in_err-list_from_raw-in-Array-clause-becomes : goal.returns-in_err-list_from_raw-in-Array-clause-becomes
returns-in_err-list_from_raw-in-Array-clause-becomes c =
    let p = err_from_is_err_and c.from_residual.result c.from_residual.ensures.1 in
    let b = c.in-Array.x.bytes in
    rw c.in-Array.is (rw p.1 (told_of_value (raw.array b) b p.0 refl (rw p.2 (rw c.as_ref.ensures at c.in_err-list_from_raw-in-Array.ensures.fault))))

pub returns-in_err-into_document-in-Document-clause-becomes : goal.returns-in_err-into_document-in-Document-clause-becomes
returns-in_err-into_document-in-Document-clause-becomes c =
    let p = err_from_is_err_and c.from_residual-in_err-into_document-in-Document.result c.from_residual-in_err-into_document-in-Document.ensures.1 in
    let b = c.in-Document.x in
    rw c.in-Document.is (rw p.1 (told_of_value (raw.document b) b p.0 refl (rw p.2 c.in_err-into_document-in-Document.ensures.fault)))

pub returns-in_err-scope-in-JavaScriptCodeWithScope-clause-becomes :
    goal.returns-in_err-scope-in-JavaScriptCodeWithScope-clause-becomes
returns-in_err-scope-in-JavaScriptCodeWithScope-clause-becomes c =
    let p = err_from_is_err_and c.from_residual-in_err-scope-in-JavaScriptCodeWithScope.result c.from_residual-in_err-scope-in-JavaScriptCodeWithScope.ensures.1 in
    let x = c.in-JavaScriptCodeWithScope.x in
    rw c.in-JavaScriptCodeWithScope.is (rw p.1 (told_of_value (raw.scoped x.code.bytes.items x.scope) x.scope p.0 refl (rw p.2 c.in_err-scope-in-JavaScriptCodeWithScope.ensures.fault)))

pub returns-in_ok-scope-in-JavaScriptCodeWithScope-clause-becomes :
    goal.returns-in_ok-scope-in-JavaScriptCodeWithScope-clause-becomes
returns-in_ok-scope-in-JavaScriptCodeWithScope-clause-becomes c =
    let scope = entries (with_trees (pairs_of c.in_ok-scope-in-JavaScriptCodeWithScope.scope)) in
    rw c.in-JavaScriptCodeWithScope.is (scope, c.in_ok-scope-in-JavaScriptCodeWithScope.ensures.tree, tree_of-JavaScriptCodeWithScope _)
