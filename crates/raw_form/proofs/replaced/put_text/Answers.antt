use Rattle.std.proofs.Common.{◌≡◌, true, false, arith, refl}
use Rattle.raw_form.proofs.canonical.Common.{frame_of}
use Rattle.raw_form.proofs.replaced.Kept.{exceeds_for, fails_exceed, kept_scope, kept_with, opening_within, scope_kept, scope_left, single_within}
use Rattle.raw_view.specs.Meaning.{scoped, single}
use Rattle.raw_view.specs.declared.element_type.ElementType.TheVariants as kind
use Rattle.raw_view.specs.declared.level.Holder.TheVariants as holder
use Rattle.raw_form.proofs.replaced.put_text.Goals.{In_default}
use Rattle.raw_form.proofs.replaced.put_text.Goals as goal

pub returns-in_err-put_value-clause-err : goal.returns-in_err-put_value-clause-err
returns-in_err-put_value-clause-err c =
    let f = frame_of c.args.element in
    let (old, bad, text_is) = c.requires in
    let (l, single_is, with) = c.in-Some.ensures.value in
    let kept = kept_with f old c.args.rest.now c.args.text.now (single l) bad text_is (rw c.element_type.ensures at with) in
    exceeds_for f (single l) kept _ _ (single_within f.key l _) c.from_residual.result c.in_err-put_value.field-0.0 c.from_residual.ensures.1
    (fails_exceed _ _ (rw (c.key.ensures, single_is) at c.in_err-put_value.ensures.err))

-- no other kind holds a level
is_scope : (c : In_default) → c.args.element.kind ≡ kind.JavaScriptCodeWithScope
is_scope c =
    let (old, bad, text_is) = c.requires in
    scope_left c.args.element.kind c.args.element.payload.now old c.args.text.now c.args.rest.now bad (rw c.element_type.ensures at c.in_default.ensures.none)

pub put_level-requires : goal.put_level-requires
put_level-requires c = is_scope (goal.at.put_level-requires c).In_default

pub returns-in_err-level-clause-err : goal.returns-in_err-level-clause-err
returns-in_err-level-clause-err c =
    let f = frame_of c.args.element in
    let (old, bad, text_is) = c.requires in
    let scope = is_scope (goal.at.returns-in_err-level-clause-err c).In_default in
    let kept = kept_scope f old c.args.rest.now c.args.text.now bad text_is scope (c.in-Ok.ensures.sound.0 refl) in
    exceeds_for f (scoped c.args.text.now c.args.rest.now) kept _ _
    (λ levels w becomes. omega (arith, opening_within levels (holder.Code c.args.text) f.key c.args.rest.now w becomes)) c.from_residual-in_err-level.result
    c.in_err-level.field-0.0 c.from_residual-in_err-level.ensures.1 c.in_err-level.ensures.err

pub returns-in_default-from_bytes-clause-put : goal.returns-in_default-from_bytes-clause-put
returns-in_default-from_bytes-clause-put c v kept =
    let (old, bad, text_is) = c.requires in
    let scope = is_scope (goal.at.returns-in_default-from_bytes-clause-put c).In_default in
    let no : false ≡ true = c.in_default-from_bytes.ensures.sound.1 (scope_kept (frame_of c.args.element) old c.args.rest.now v bad scope kept) in
    cc

pub returns-clause-put : goal.returns-clause-put
returns-clause-put c =
    let f = frame_of c.args.element in
    let (old, bad, text_is) = c.requires in
    let scope = is_scope (goal.at.returns-clause-put c).In_default in
    let kept = kept_scope f old c.args.rest.now c.args.text.now bad text_is scope (c.in-Ok.ensures.sound.0 refl) in
    (holder.Code c.args.text, _, rw c.in-Ok.ensures.same kept, c.in_ok-level.ensures.opens)
