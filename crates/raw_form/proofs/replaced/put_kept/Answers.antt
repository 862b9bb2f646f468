use Rattle.std.proofs.Common.{◌∙◌, inl, arith}
use Rattle.raw_form.proofs.canonical.Common.{Leaf, Means, frame_of, held_value, value}
use Rattle.raw_form.proofs.replaced.Kept.{element_same, exceeds_for, fails_exceed, not_kept, opening_within, plain_within}
use Rattle.raw_form.proofs.rewritten.Members.{shows_leaf}
use Rattle.raw_view.specs.Meaning.{single}
use Rattle.raw_view.specs.Meaning.Value.{value_of}
use Rattle.raw_form.proofs.replaced.put_kept.Goals.{In_default-level}
use Rattle.raw_form.proofs.replaced.put_kept.Goals as goal

pub returns-in_default-bad_text-clause-put : goal.returns-in_default-bad_text-clause-put
returns-in_default-bad_text-clause-put c v kept =
    let h = c.in_default.ensures.fault in
    not_kept (frame_of c.args.element) h.0 v h.1 c.in_default-bad_text.ensures.none kept

-- the value that is put as it is
leaf_in : (c : In_default-level) → (l : Leaf) × Means (frame_of c.args.element) (value (single l))
leaf_in c =
    let (l, is) = shows_leaf (value_of c.in-Ok.value) c.in_default-level.ensures in
    (l, rw is at c.in-Ok.ensures.value)

pub returns-in_err-put_plain-clause-err : goal.returns-in_err-put_plain-clause-err
returns-in_err-put_plain-clause-err c =
    let f = frame_of c.args.element in
    let (l, means) = leaf_in (goal.at.returns-in_err-put_plain-clause-err c).In_default-level in
    exceeds_for f (single l) (inl means) _ _ (plain_within c.args.element l means _) c.from_residual-in_err-put_plain.result c.in_err-put_plain.field-0.0
    c.from_residual-in_err-put_plain.ensures.1 (fails_exceed _ _ (rw c.key.ensures at c.in_err-put_plain.ensures.err))

pub returns-in_default-level-clause-put : goal.returns-in_default-level-clause-put
returns-in_default-level-clause-put c =
    let (l, means) = leaf_in (goal.at.returns-in_default-level-clause-put c).In_default-level in
    (l, inl means, (rw c.key.ensures at c.in_ok-put_plain.ensures.items) ∙ element_same c.args.element (single l) _ means)

pub returns-in_err-put_level-clause-err : goal.returns-in_err-put_level-clause-err
returns-in_err-put_level-clause-err c =
    let f = frame_of c.args.element in
    let held = c.in-Some-level.held in
    let means : Means f (value (held_value held)) = rw c.in-Some-level.ensures at c.in-Ok.ensures.value in
    exceeds_for f (held_value held) (inl means) _ _
    (λ levels w becomes. omega (arith, opening_within levels held.holder f.key held.document.bytes.now w becomes)) c.from_residual-in_err-put_level.result
    c.in_err-put_level.field-0.0 c.from_residual-in_err-put_level.ensures.1 c.in_err-put_level.ensures.err
