use Rattle.std.proofs.Common.{arith}
use Rattle.values_from_json.proofs.Decimals.{above_zero, first_room, full_too_long, one_zero}
use Rattle.values_from_json.proofs.decimal.Kept.with_digit.Goals as goal

pub returns-then-self-lt-LEAST_FULL-clause-some : goal.returns-then-self-lt-LEAST_FULL-clause-some
returns-then-self-lt-LEAST_FULL-clause-some c =
    let s = c.args.self in
    omega (arith, c.from.ensures, first_room s.coefficient s.zeros c.args.digit s.room c.if-self-lt-LEAST_FULL.true)

pub returns-then-digit-eq0-clause-some : goal.returns-then-digit-eq0-clause-some
returns-then-digit-eq0-clause-some c = omega (arith, one_zero c.args.self.coefficient c.args.self.zeros)

pub returns-clause-none : goal.returns-clause-none
returns-clause-none c =
    let s = c.args.self in
    λ _. full_too_long s.coefficient s.zeros c.args.digit c.if-self-lt-LEAST_FULL.false (above_zero _ c.if-digit-eq0.false) c.requires.digit
