use Rattle.values_from_json.proofs.Decimals.{divided, none_divided, multiplied, none_multiplied}
use Rattle.values_from_json.proofs.decimal.settle.Goals as goal

pub returns-in_err-coefficient-clause-none : goal.returns-in_err-coefficient-clause-none
returns-in_err-coefficient-clause-none c = λ _. none_divided c.args.coefficient c.args.up c.args.down c.if-up-down.true (c.without_zeros.ensures.none c.in_err-coefficient.was)

pub returns-then-up-down-clause-some : goal.returns-then-up-down-clause-some
returns-then-up-down-clause-some c = divided c.args.coefficient c.args.up c.args.down _ c.requires.few c.if-up-down.true c.in_ok-coefficient.ensures.some

pub returns-in_err-coefficient-2-clause-none : goal.returns-in_err-coefficient-2-clause-none
returns-in_err-coefficient-2-clause-none c =
    λ _. none_multiplied c.args.coefficient c.args.up c.args.down c.if-exponent-le-GREATEST.false (c.with_zeros.ensures.none c.in_err-coefficient-2.was)

pub returns-clause-some : goal.returns-clause-some
returns-clause-some c =
    let is = c.in_ok-coefficient-2.ensures.some in multiplied c.args.coefficient c.args.up c.args.down _ c.if-exponent-le-GREATEST.false is.0 is.1
