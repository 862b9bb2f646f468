use Rattle.std.proofs.Common.{Some, ap, arith, refl, subst}
use Rattle.raw_tree.proofs.Common.{RawValue, faulty, value, value_of}
use Rattle.raw_tree.proofs.walk.Common.{BreachesItself, HoldsAsTold, IsSingleWith}
use Rattle.raw_tree.specs.declared.validator.breach.Cause.TheVariants as cause
use Rattle.raw_tree.proofs.validator.step.validate_value.Goals as goal

descends : (v : RawValue) → IsSingleWith (λ A. ¬ A) v → BreachesItself (value v) cause.Options
descends v h = grind arith

pub returns-in_default : goal.returns-in_default
returns-in_default c =
    let fault = c.in_default.ensures.fault in
    (ap Some c.key.ensures, faulty fault.0, fault.1, refl)

pub returns-in-Nothing : goal.returns-in-Nothing
returns-in-Nothing c =
    let v = value_of c.in-Ok.value in
    (refl, v, c.in-Ok.ensures.value, subst (HoldsAsTold v) c.in-Nothing.is c.held_by.ensures)

pub returns-in-Descending : goal.returns-in-Descending
returns-in-Descending c =
    let v = value_of c.in-Ok.value in
    (ap Some c.key-in-Descending.ensures, value v, c.in-Ok.ensures.value, descends v (subst (HoldsAsTold v) c.in-Descending.is c.held_by.ensures))

pub returns-in-Level : goal.returns-in-Level
returns-in-Level c =
    let v = value_of c.in-Ok.value in
    (refl, v, c.in-Ok.ensures.value, subst (HoldsAsTold v) c.in-Level.is c.held_by.ensures)
