use Rattle.std.proofs.Common.{◌≡◌, None, arith, rules, subst}
use Rattle.std.specs.Option.{option_map}
use Rattle.std.proofs.lemmas.Str.Pattern.{split_parts}
use Rattle.raw_view.specs.Document.{bytes_of}
use Rattle.dump_commands.specs.elements.Pick.{FindsInner, dot}
use Rattle.dump_commands.proofs.elements.Picked.{leads_last, leads_more, leads_out}
use Rattle.dump_commands.proofs.elements.pick.element_at.Goals as goal

pub steps-init : goal.steps-init
steps-init c = (λ goal leads. leads, search rules)

pub returns-in_err-level : goal.returns-in_err-level
returns-in_err-level c =
    let l = c.steps in
    let cut = rw c.in-Some.is at (split_parts dot l.rest.now c.split_once.result c.split_once.ensures.cases (omega arith)) in
    let gone : c.from_residual.result ≡ None = grind arith in
    let finds = subst (λ o. FindsInner (bytes_of l.level) c.in-Some.step.now (option_map bytes_of o)) c.in_err-level.was c.inside.ensures in
    rw gone (leads_out _ _ _ _ _ _ l.invariant.0 cut.0 cut.1 finds)

pub steps-preserved : goal.steps-preserved
steps-preserved c =
    let l = c.steps in
    let cut = rw c.in-Some.is at (split_parts dot l.rest.now c.split_once.result c.split_once.ensures.cases (omega arith)) in
    (leads_more _ _ _ _ _ _ _ l.invariant.0 cut.0 cut.1 c.in_ok-level.ensures, search rules)

pub returns : goal.returns
returns c =
    let l = c.steps in
    let none = rw c.in_default.is at (split_parts dot l.rest.now c.split_once.result c.split_once.ensures.cases (omega arith)) in
    leads_last _ _ _ _ _ l.invariant.0 none c.first_with.ensures
