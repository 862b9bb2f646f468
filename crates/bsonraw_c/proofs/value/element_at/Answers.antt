use Rattle.std.proofs.Common.{Err, None, Some, ℕ, subst, sym}
use Rattle.std.specs.Option.{option_copied}
use Rattle.bsonraw_c.specs.Iters.{GoesThrough}
use Rattle.bsonraw_c.proofs.Placing.{given}
use Rattle.bsonraw_c.proofs.Valuing.{on_none, on_stop}
use Rattle.bsonraw_c.proofs.value.element_at.Goals as goal

pub returns-in_err-elements-clause-none : goal.returns-in_err-elements-clause-none
returns-in_err-elements-clause-none c =
    let none = c.in_err-elements.ensures.none in
    let at = c.in_ok-here.ensures in
    rw (c.from_residual-in_err-elements.ensures) (λ f on. none on.d on.s (subst (λ (n : ℕ). GoesThrough c.args.bytes.now (record c.args.iter.now { next = n }) on.d on.s) (sym at.1) on.there))

pub returns-in_err-element-clause-none : goal.returns-in_err-element-clause-none
returns-in_err-element-clause-none c =
    let g = c.in_ok-elements.ensures.left in
    let here = subst (λ (n : ℕ). GoesThrough c.args.bytes.now (record c.args.iter.now { next = n }) g.0 g.1) c.in_ok-here.ensures.1 g.2 in
    let st = given g.1 c.in_ok-elements.elements c.next.new.self c.next.result None g.3 c.in_err-element.was c.next.ensures.steps in
    rw (c.from_residual-in_err-element.ensures) (on_none c.args.bytes.now g.0 g.1 c.args.iter.now here st.0)

pub returns-in_default-clause-none : goal.returns-in_default-clause-none
returns-in_default-clause-none c =
    let g = c.in_ok-elements.ensures.left in
    let here = subst (λ (n : ℕ). GoesThrough c.args.bytes.now (record c.args.iter.now { next = n }) g.0 g.1) c.in_ok-here.ensures.1 g.2 in
    let stop = c.in_default.field-0 in
    let st = given g.1 c.in_ok-elements.elements c.next.new.self c.next.result (Some (Err stop)) g.3 (rw (← c.in_default.is) c.in_ok-element.was) c.next.ensures.steps in
    on_stop c.args.bytes.now g.0 g.1 c.args.iter.now here stop.kind (option_copied stop.key) st.0
