use Rattle.std.proofs.Common.{inl, inr, List, ℕ, Ok, Some}
use Rattle.raw_form.proofs.canonical.Common.{Error, IsEnvelope, Limits, ReadsWithin, RefusesFormOf, Tree, as_document, bytes_of, bytes_one_way, canonical_form, canonical_is_own_form, document, document_reads, read_within}
use Rattle.std.proofs.lemmas.Result.{IfErr-weaker, IfOk-weaker}
use Rattle.raw_form.specs.FormsWithin.{RefusesFormWithin}
use Rattle.raw_tree.proofs.Face.{barrier_told}
use Rattle.raw_form.proofs.canonical.form_within.Goals.{In_default-2}
use Rattle.raw_form.proofs.canonical.form_within.Goals as goal

pub returns-in-Some-2-clause-refused : goal.returns-in-Some-2-clause-refused
returns-in-Some-2-clause-refused c =
    let few = rw c.as_bytes-bytes.ensures.bytes at c.if-bytes-limits.false in
    let told = rw c.in-Some-2.is at c.in_ok-barrier.ensures.told in
    let (x, is, there) = barrier_told c.args.limits _ (Ok (Some c.in-Some-2.barrier)) few told in
    inr (c.args.document.envelope, inl (inr (x, (_, _, there), c.error_of.ensures x is)))

pub returns-in_default-clause-form : goal.returns-in_default-clause-form
returns-in_default-clause-form c =
    let few = rw c.as_bytes-bytes.ensures.bytes at c.if-bytes-limits.false in
    let canonical = rw c.in_default.is at c.in_ok-start.ensures.start in
    let (es, read) = document_reads c.args.limits.depth _ canonical in
    rw (c.in_ok-from_slice.ensures.items, c.as_bytes-bytes.ensures.bytes)
    (record { form = canonical_is_own_form _ c.args.document.envelope (c.args.limits.depth, canonical); within = (document es, read_within c.args.limits _ (document es) few read) })

-- why there is no encoding
refused_form : (limits : Limits) (b : List ℕ) (t : Tree) (e : Error) → IsEnvelope b → ReadsWithin limits b t → RefusesFormOf b e → RefusesFormWithin limits b e
refused_form limits b t e env read (inl memory) = inr (env, inl (inl (read.few_bytes, memory)))
refused_form limits b t e env read (inr (u, reads, long)) =
    inr (env, inr (t, read, rw ((bytes_one_way as_document b env).one_tree t u read.read reads) at long))

-- the document is within the limits
read_in : (c : In_default-2) → (t : Tree) × ReadsWithin c.args.limits (bytes_of c.args.document) t
read_in c =
    let (t, read) = rw c.in_default-2.is at c.in_ok-barrier.ensures.told in
    (t, read_within c.args.limits _ t (rw c.as_bytes-bytes.ensures.bytes at c.if-bytes-limits.false) read)

pub returns-clause-form : goal.returns-clause-form
returns-clause-form c =
    let read = read_in (goal.at.returns-clause-form c).In_default-2 in
    IfOk-weaker c.rewrite.result _ _ (λ form is. record { form = canonical_form _ form.items is.0 c.args.document.envelope is.1 is.2; within = read }) c.rewrite.ensures.form

pub returns-clause-refused : goal.returns-clause-refused
returns-clause-refused c =
    let read = read_in (goal.at.returns-clause-refused c).In_default-2 in
    IfErr-weaker c.rewrite.result _ _ (λ e is. refused_form c.args.limits _ read.0 e c.args.document.envelope read.1 is) c.rewrite.ensures.err
