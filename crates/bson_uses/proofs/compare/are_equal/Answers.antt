use Rattle.std.proofs.Common.{◌≡◌, sym, subst, ◌∙◌, inr}
use Rattle.std.proofs.lemmas.Result.{err_from_is_err_and}
use Rattle.raw_bson.specs.Conversion.{RefusesForm}
use Rattle.std.proofs.lemmas.Cmp.{nat_list_eq_equiv}
use Rattle.std.specs.Cmp.Lexicographic.{same_text}
use Rattle.bson_uses.proofs.compare.are_equal.Goals as goal

pub returns-clause-same : goal.returns-clause-same
returns-clause-same c t u first second =
    let a = c.in_ok-canonical_bytes.ensures in
    let b = c.in_ok-canonical_bytes-2.ensures in
    let one : t ≡ a.form.tree = (a.one_reading a.form.envelope).one_tree a.form.tree t a.form.read first in
    let other : u ≡ b.form.tree = (b.one_reading b.form.envelope).one_tree b.form.tree u b.form.read second in
    let same = a.form.same_tree c.args.other.now b.form.tree b.form.envelope b.form.read b.form.spelled.0 in (
      λ equal. one ∙ sym (same.0 (b.form.spelled.1 ∙ sym (same_text _ _ (sym equal ∙ c.eq.ensures)))) ∙ sym other,
      λ equal. c.eq.ensures ∙ rw (sym (same.1 (sym other ∙ sym equal ∙ one)) ∙ b.form.spelled.1) (nat_list_eq_equiv.refl c.in_ok-canonical_bytes-2.field-0.items),
    )

pub returns-in_err-canonical_bytes-2-clause-compares :
    goal.returns-in_err-canonical_bytes-2-clause-compares
returns-in_err-canonical_bytes-2-clause-compares c =
    let e = err_from_is_err_and c.from_residual-in_err-canonical_bytes-2.result c.from_residual-in_err-canonical_bytes-2.ensures.1 in
    rw e.1 (inr (c.in_ok-canonical_bytes.field-0.items, c.in_ok-canonical_bytes.ensures.form, subst (RefusesForm c.args.other.now) (sym e.2) c.in_err-canonical_bytes-2.ensures.refused))
