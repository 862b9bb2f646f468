use Rattle.std.proofs.Common.{subst}
use Rattle.std.proofs.lemmas.Result.{err_from_is_err_and}
use Rattle.raw_bson.specs.Document.{bytes_of}
use Rattle.raw_bson.specs.Limits.{Limits}
use Rattle.raw_bson.specs.Tree.{tree_of_document}
use Rattle.raw_bson.specs.WithinLimits.{ReadsWithin}
use Rattle.bsonraw.proofs.Forms.{refused_first, refused_forms, written_forms}
use Rattle.bsonraw.proofs.canon.canonical_form.Goals as goal

pub returns-in_err-tree-clause-refused : goal.returns-in_err-tree-clause-refused
returns-in_err-tree-clause-refused c =
    let b = bytes_of c.args.document in
    let p = err_from_is_err_and c.from_residual.result c.from_residual.ensures.1 in
    refused_first b c.limits.result p.0 _ c.from_residual.result c.limits.ensures p.1 p.2 c.in_err-tree.ensures.fault

pub returns-clause-refused : goal.returns-clause-refused
returns-clause-refused c =
    let b = bytes_of c.args.document in
    let t = tree_of_document c.in_ok-tree.tree in
    let read = subst (λ (l : Limits). ReadsWithin l b t) c.limits.ensures c.in_ok-tree.ensures.tree in
    let proper = (c.in_ok-tree.ensures.one_spelling b c.args.document.envelope).proper t read.read in
    refused_forms b t c.from_document.result read proper c.from_document.ensures.err

pub returns-clause-form : goal.returns-clause-form
returns-clause-form c =
    let b = bytes_of c.args.document in
    let t = tree_of_document c.in_ok-tree.tree in
    written_forms b t c.from_document.result (subst (λ (l : Limits). ReadsWithin l b t) c.limits.ensures c.in_ok-tree.ensures.tree) c.from_document.ensures.ok
