use Rattle.std.proofs.Common.{◌≡◌, ◌∷◌, ◌∙◌, [], true, false, cond, ap, sym, rules, inl, inr}
use Rattle.std.proofs.lemmas.Result.{err_from_is_err_and}
use Rattle.std.specs.Str.{bytes_eq}
use Rattle.raw_bson.specs.ElementSteps.{frame_of}
use Rattle.raw_bson.proofs.Face.{HasCopied-none, HasCopied-skip, HasCopied-element, HasCopied-stop, HasCopied-end, IsNoLonger-none, IsNoLonger-skip, IsNoLonger-element, IsNoLonger-refused}
use Rattle.bson_uses.proofs.without.copy_without.Goals as goal

pub loop-element-init : goal.loop-element-init
loop-element-init c =
    let begins = c.into_iter-element-iterator.ensures.into_iter_gives ∙ c.iter_elements-element-items.ensures.begins in
    (HasCopied-none c.in_ok-copy.ensures.empty begins, IsNoLonger-none c.args.document.envelope c.in_ok-copy.ensures.empty begins)

pub loop-element-preserved : goal.loop-element-preserved
loop-element-preserved c =
    let f = frame_of c.in_ok-element.element in
    let same : bytes_eq f.key c.args.key.now ≡ true = search rules in
    let gives = sym (ap (λ q. cond q [] (f ∷ [])) same) in
    (HasCopied-skip c.loop-element.invariant.0 c.in-Some.ensures.steps c.in_ok-element.was gives, IsNoLonger-skip c.loop-element.invariant.1 c.in-Some.ensures.steps c.in_ok-element.was)

pub loop-element-preserved-in-Continue-branch-3 : goal.loop-element-preserved-in-Continue-branch-3
loop-element-preserved-in-Continue-branch-3 c =
    let f = frame_of c.in_ok-element.element in
    let other : bytes_eq f.key c.args.key.now ≡ false = search rules in
    let gives = sym (ap (λ q. cond q [] (f ∷ [])) other) in (
      HasCopied-element c.loop-element.invariant.0 c.in-Some.ensures.steps c.in_ok-element.was gives c.in_ok-append_element.ensures.walk,
      IsNoLonger-element c.loop-element.invariant.1 c.in-Some.ensures.steps c.in_ok-element.was c.in_ok-append_element.ensures.appends,
    )

pub returns-in_err-element-clause-refused : goal.returns-in_err-element-clause-refused
returns-in_err-element-clause-refused c =
    let e = err_from_is_err_and c.from_residual-in_err-element.result c.from_residual-in_err-element.ensures.1 in
    rw (e.1, e.2) (inl (HasCopied-stop c.next.new.self c.loop-element.invariant.0 c.in-Some.ensures.steps c.in_err-element.was))

pub returns-in_err-append_element-clause-refused :
    goal.returns-in_err-append_element-clause-refused
returns-in_err-append_element-clause-refused c =
    let e = err_from_is_err_and c.from_residual-in_err-append_element.result c.from_residual-in_err-append_element.ensures.1 in
    rw (e.1, e.2) (inr (IsNoLonger-refused c.next.new.self _ c.in_err-append_element.field-0.0 c.args.document.envelope c.loop-element.invariant.1
    c.in-Some.ensures.steps c.in_ok-element.was c.in_err-append_element.ensures.appends))

pub returns-clause-copied : goal.returns-clause-copied
returns-clause-copied c = HasCopied-end c.next.new.self c.loop-element.invariant.0 c.in-None.ensures.steps
