use Rattle.std.proofs.lemmas.Result.{err_from_is_err_and}
use Rattle.raw_view.proofs.Frames.Shapes.{text_had, binary_had, pointer_had, boolean_had}
use Rattle.raw_view.proofs.element.RawElement.resolve.Goals as goal

pub text_of-requires : goal.text_of-requires
text_of-requires c = text_had _ (rw c.in-String.is at c.args.self.framed)

pub text_of-requires-in-JavaScriptCode : goal.text_of-requires-in-JavaScriptCode
text_of-requires-in-JavaScriptCode c = text_had _ (rw c.in-JavaScriptCode.is at c.args.self.framed)

pub text_of-requires-in-Symbol : goal.text_of-requires-in-Symbol
text_of-requires-in-Symbol c = text_had _ (rw c.in-Symbol.is at c.args.self.framed)

pub binary_of-requires : goal.binary_of-requires
binary_of-requires c = binary_had _ (rw c.in-Binary.is at c.args.self.framed)

pub boolean_of-requires : goal.boolean_of-requires
boolean_of-requires c = boolean_had _ (rw c.in-Boolean.is at c.args.self.framed)

pub db_pointer_of-requires : goal.db_pointer_of-requires
db_pointer_of-requires c = pointer_had _ (rw c.in-DbPointer.is at c.args.self.framed)

pub code_with_scope_of-requires : goal.code_with_scope_of-requires
code_with_scope_of-requires c = rw c.in-JavaScriptCodeWithScope.is at c.args.self.framed

pub returns-in_err-text_of-in-String-clause-fault : goal.returns-in_err-text_of-in-String-clause-fault
returns-in_err-text_of-in-String-clause-fault c =
    let e = err_from_is_err_and c.from_residual.result c.from_residual.ensures.1 in
    rw (e.1, e.2, c.in-String.is) c.in_err-text_of-in-String.ensures.fault

pub returns-in_err-text_of-in-JavaScriptCode-clause-fault : goal.returns-in_err-text_of-in-JavaScriptCode-clause-fault
returns-in_err-text_of-in-JavaScriptCode-clause-fault c =
    let e = err_from_is_err_and c.from_residual-in_err-text_of-in-JavaScriptCode.result c.from_residual-in_err-text_of-in-JavaScriptCode.ensures.1 in
    rw (e.1, e.2, c.in-JavaScriptCode.is) c.in_err-text_of-in-JavaScriptCode.ensures.fault

pub returns-in_err-text_of-in-Symbol-clause-fault : goal.returns-in_err-text_of-in-Symbol-clause-fault
returns-in_err-text_of-in-Symbol-clause-fault c =
    let e = err_from_is_err_and c.from_residual-in_err-text_of-in-Symbol.result c.from_residual-in_err-text_of-in-Symbol.ensures.1 in
    rw (e.1, e.2, c.in-Symbol.is) c.in_err-text_of-in-Symbol.ensures.fault

pub returns-in_err-db_pointer_of-in-DbPointer-clause-fault : goal.returns-in_err-db_pointer_of-in-DbPointer-clause-fault
returns-in_err-db_pointer_of-in-DbPointer-clause-fault c =
    let e = err_from_is_err_and c.from_residual-in_err-db_pointer_of-in-DbPointer.result c.from_residual-in_err-db_pointer_of-in-DbPointer.ensures.1 in
    rw (e.1, e.2, c.in-DbPointer.is) c.in_err-db_pointer_of-in-DbPointer.ensures.fault

pub returns-in_err-code_with_scope_of-in-JavaScriptCodeWithScope-clause-fault : goal.returns-in_err-code_with_scope_of-in-JavaScriptCodeWithScope-clause-fault
returns-in_err-code_with_scope_of-in-JavaScriptCodeWithScope-clause-fault c =
    let e = err_from_is_err_and c.from_residual-in_err-code_with_scope_of-in-JavaScriptCodeWithScope.result c.from_residual-in_err-code_with_scope_of-in-JavaScriptCodeWithScope.ensures.1 in
    rw (e.1, e.2, c.in-JavaScriptCodeWithScope.is) c.in_err-code_with_scope_of-in-JavaScriptCodeWithScope.ensures.fault
