use Rattle.std.proofs.Common.{◌≡◌, ◌+◌, inr, length, take, drop, ap, sym, arith}
use Rattle.std.proofs.lemmas.List.{take-append-drop, length-take-le}
use Rattle.std.proofs.lemmas.Result.{err_from_is_err_and}
use Rattle.raw_view.specs.declared.error.Reason.TheVariants as reason
use Rattle.raw_view.proofs.Frames.Payloads.{pointer_found, no_pointer, pointer_within}
use Rattle.raw_view.proofs.front.payload.db_pointer_len.Goals as goal

pub returns-in_err-size-clause-none : goal.returns-in_err-size-clause-none
returns-in_err-size-clause-none c =
    let e = err_from_is_err_and c.from_residual.result c.from_residual.ensures.1 in
    rw e.1 (no_pointer c.args.rest.now c.in_err-size.ensures.none)

pub returns-then-rest-size-clause-none : goal.returns-then-rest-size-clause-none
returns-then-rest-size-clause-none c p r e d =
    omega (arith, c.if-rest-size.true, pointer_within c.args.rest.now p r c.in_ok-size.field-0 c.in_ok-size.ensures.found c.in_ok-size.ensures.within e d)

pub returns-then-rest-size-clause-reason : goal.returns-then-rest-size-clause-reason
returns-then-rest-size-clause-reason c =
    let z = c.args.rest.now in
    let n = c.in_ok-size.field-0 in
    let size : length (take n z) ≡ n = length-take-le n z c.in_ok-size.ensures.within in
    inr (take n z, drop n z, sym (take-append-drop n z), c.in_ok-size.ensures.found, ap (λ x. reason.PastEnd (x + 12) (length z)) (sym size))

pub returns-clause-found : goal.returns-clause-found
returns-clause-found c = pointer_found c.args.rest.now c.in_ok-size.field-0 c.in_ok-size.ensures.found (omega arith)
