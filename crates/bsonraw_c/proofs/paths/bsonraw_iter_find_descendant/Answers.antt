use Rattle.std.proofs.Common.{◌≡◌, ◌∷◌, ◌++◌, List, ℕ, Bor, IfNone, IfSome, Option, ℤ, subst, sym}
use Rattle.bsonraw_c.specs.Iters.{Descends}
use Rattle.bsonraw_c.specs.Paths.{FindsStep}
use Rattle.bsonraw_c.proofs.Descending.{path_found}
use Rattle.bsonraw_c.proofs.Iterating.{crosses, is_not_zero, is_zero}
use Rattle.bsonraw_c.proofs.Stepping.{IsBefore, bars_at, goes_in, last_step, stops_at}
use Rattle.bsonraw_c.proofs.paths.bsonraw_iter_find_descendant.Goals as goal

pub returns-in_default : goal.returns-in_default
returns-in_default c =
    let step = c.first_step.result.0.now in
    let found = c.find_step-code.result in
    let last = subst (λ (o : Option (Bor (List ℕ))). IfNone o (c.loop-rest.path.now ≡ step)) c.in_default.is c.first_step.ensures.last in
    let finds = subst (λ (z : ℤ). FindsStep c.args.bytes.now c.loop-rest.in_array step c.loop-rest.iter c.find_step-code.new.iter z)
    (sym (crosses found c.find_step-code.type_inv)) c.find_step-code.ensures in
    path_found c.args.bytes.now c.args.path.now c.args.separator c.args.iter.now _ _
    (last_step c.loop-rest.invariant step last c.first_step.ensures.none c.find_step-code.new.iter _ finds)

pub returns-then-code-ne0 : goal.returns-then-code-ne0
returns-then-code-ne0 c =
    let step = c.first_step.result.0.now in
    let found = c.find_step-code.result in
    let more = subst (λ (o : Option (Bor (List ℕ))). IfSome o (λ rest. c.loop-rest.path.now ≡ step ++ c.args.separator ∷ rest.now)) c.in-Some.is c.first_step.ensures.more in
    let before : IsBefore c.args.separator c.loop-rest.path.now step c.in-Some.rest.now = record { is = more; none = c.first_step.ensures.none } in
    let finds = subst (λ (z : ℤ). FindsStep c.args.bytes.now c.loop-rest.in_array step c.loop-rest.iter c.find_step-code.new.iter z)
    (sym (crosses found c.find_step-code.type_inv)) c.find_step-code.ensures in
    path_found c.args.bytes.now c.args.path.now c.args.separator c.args.iter.now _ _
    (stops_at c.loop-rest.invariant before c.find_step-code.new.iter _
    (is_not_zero found c.find_step-code.type_inv c.if-code-ne0.true) finds)

pub returns-then-code-ne0-2 : goal.returns-then-code-ne0-2
returns-then-code-ne0-2 c =
    let step = c.first_step.result.0.now in
    let found = c.find_step-code.result in
    let begins = c.bsonraw_iter_recurse-code.result in
    let more = subst (λ (o : Option (Bor (List ℕ))). IfSome o (λ rest. c.loop-rest.path.now ≡ step ++ c.args.separator ∷ rest.now)) c.in-Some.is c.first_step.ensures.more in
    let before : IsBefore c.args.separator c.loop-rest.path.now step c.in-Some.rest.now = record { is = more; none = c.first_step.ensures.none } in
    let down = subst (λ (z : ℤ). Descends c.args.bytes.now c.find_step-code.new.iter c.bsonraw_iter_recurse-code.new.child z)
    (sym (crosses begins c.bsonraw_iter_recurse-code.type_inv)) c.bsonraw_iter_recurse-code.ensures in
    path_found c.args.bytes.now c.args.path.now c.args.separator c.args.iter.now _ _
    (bars_at c.loop-rest.invariant before c.find_step-code.new.iter found c.find_step-code.ensures
    (is_zero found c.find_step-code.type_inv c.if-code-ne0.false) c.bsonraw_iter_recurse-code.new.child _
    (is_not_zero begins c.bsonraw_iter_recurse-code.type_inv c.if-code-ne0-2.true) down)

pub loop-rest-preserved : goal.loop-rest-preserved
loop-rest-preserved c =
    let step = c.first_step.result.0.now in
    let found = c.find_step-code.result in
    let begins = c.bsonraw_iter_recurse-code.result in
    let more = subst (λ (o : Option (Bor (List ℕ))). IfSome o (λ rest. c.loop-rest.path.now ≡ step ++ c.args.separator ∷ rest.now)) c.in-Some.is c.first_step.ensures.more in
    let before : IsBefore c.args.separator c.loop-rest.path.now step c.in-Some.rest.now = record { is = more; none = c.first_step.ensures.none } in
    goes_in c.loop-rest.invariant before c.find_step-code.new.iter found c.find_step-code.ensures
    (is_zero found c.find_step-code.type_inv c.if-code-ne0.false) c.bsonraw_iter_recurse-code.new.child begins c.bsonraw_iter_recurse-code.ensures
    (is_zero begins c.bsonraw_iter_recurse-code.type_inv c.if-code-ne0-2.false)
