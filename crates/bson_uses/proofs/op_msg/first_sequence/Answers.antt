use Rattle.std.proofs.Common.{rules, inl, inr}
use Rattle.std.proofs.lemmas.Result.{err_from_is_err_and}
use Rattle.bson_uses.proofs.op_msg.first_sequence.Goals as goal

pub returns-in_err-documents-clause-refused : goal.returns-in_err-documents-clause-refused
returns-in_err-documents-clause-refused c =
    let q = err_from_is_err_and c.from_residual-in_err-documents.result c.from_residual-in_err-documents.ensures.1 in
    rw (q.1, q.2) (inr (c.in_ok-inside.inside.now, c.in_ok-inside.rest.now, search rules, inr (inr (c.in_ok-text.text.now, c.in_ok-text.behind.now, search rules, search rules, inl (search rules)))))
