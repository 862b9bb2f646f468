use Rattle.std.proofs.Common.{inl, inr, List, ℕ, subst, sym, ◌∙◌}
use Rattle.std.proofs.lemmas.Result.{err_from_is_err_and}
use Rattle.bson_model.specs.Tree.{tree_of_document}
use Rattle.raw_view.specs.Frame.Envelope.{IsEnvelope}
use Rattle.raw_tree.specs.Reading.{Reads, TellsFirstFault}
use Rattle.raw_tree.proofs.Face.{canonical_form}
use Rattle.raw_bson.proofs.Converted.{refused_form, refused_no_nul}
use Rattle.raw_bson.proofs.canonical.canonical_bytes.Goals as goal

pub returns-in_err-tree-clause-refused : goal.returns-in_err-tree-clause-refused
returns-in_err-tree-clause-refused c =
    let p = err_from_is_err_and c.from_residual-in_err-tree.result c.from_residual-in_err-tree.ensures.1 in
    let same = c.in_ok-document.ensures.same in
    let env : IsEnvelope c.args.bytes.now = subst IsEnvelope same c.in_ok-document.document.envelope in
    rw p.1 (inr (env, inl (subst (λ (x : List ℕ). TellsFirstFault x p.0) same (rw p.2 c.in_err-tree.ensures.fault))))

pub returns-in_err-form-clause-refused : goal.returns-in_err-form-clause-refused
returns-in_err-form-clause-refused c =
    let p = err_from_is_err_and c.from_residual-in_err-form.result c.from_residual-in_err-form.ensures.1 in
    let t = tree_of_document c.in_ok-tree.tree in
    let same = c.in_ok-document.ensures.same in
    let env : IsEnvelope c.args.bytes.now = subst IsEnvelope same c.in_ok-document.document.envelope in
    let read : Reads c.args.bytes.now t = subst (λ (x : List ℕ). Reads x t) same c.in_ok-tree.ensures.tree in
    let proper = (c.in_ok-tree.ensures.one_spelling c.args.bytes.now env).proper t read in
    rw p.1 (refused_form c.args.bytes.now t p.0 env read proper (rw p.2 c.in_err-form.ensures.err))

pub returns-in_err-form-clause-no_nul : goal.returns-in_err-form-clause-no_nul
returns-in_err-form-clause-no_nul c =
    let p = err_from_is_err_and c.from_residual-in_err-form.result c.from_residual-in_err-form.ensures.1 in
    let t = tree_of_document c.in_ok-tree.tree in
    let proper = (c.in_ok-tree.ensures.one_spelling _ c.in_ok-document.document.envelope).proper t c.in_ok-tree.ensures.tree in
    rw p.1 (refused_no_nul t p.0 proper.nul_free (rw p.2 c.in_err-form.ensures.err))

pub returns-clause-form : goal.returns-clause-form
returns-clause-form c =
    let t = tree_of_document c.in_ok-tree.tree in
    let same = c.in_ok-document.ensures.same in
    let env : IsEnvelope c.args.bytes.now = subst IsEnvelope same c.in_ok-document.document.envelope in
    let read : Reads c.args.bytes.now t = subst (λ (x : List ℕ). Reads x t) same c.in_ok-tree.ensures.tree in
    let written = c.in_ok-form.ensures.ok in
    canonical_form c.args.bytes.now c.into_bytes.result.items t env read (written.1, sym (c.into_bytes.ensures ∙ written.2))
