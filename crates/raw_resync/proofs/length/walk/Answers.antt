use Rattle.std.proofs.Common.{◌≡◌, ◌+◌, arith, length, nat_eq, subst}
use Rattle.std.proofs.lemmas.Bool.Decides.{nat_tests}
use Rattle.raw_view.specs.Frame.Envelope.{IsEnvelope}
use Rattle.raw_resync.specs.Charge.{IsWalked}
use Rattle.raw_resync.proofs.Explaining.{walked_on}
use Rattle.raw_resync.proofs.length.walk.Goals as goal

pub returns-clause-framed : goal.returns-clause-framed
returns-clause-framed c =
    let b = c.args.piece.now in
    let n = c.walked_len-cost.result in
    walked_on b n (nat_eq (n + 1) (length b)) (subst IsEnvelope c.in-Ok.ensures.same c.in-Ok.document.envelope) (subst (λ l. IsWalked l n) c.in-Ok.ensures.same c.walked_len-cost.ensures.walked)
    (λ is. grind (arith, nat_tests, is)) (λ isnt same. grind (arith, nat_tests, isnt, same))
