use Rattle.values_from_json.proofs.Decimals.{none_before, none_behind_digit, one_less}
use Rattle.values_from_json.proofs.decimal.without_zeros.Goals as goal

pub returns-then-count-gt33-clause-none : goal.returns-then-count-gt33-clause-none
returns-then-count-gt33-clause-none c = λ _ before e. none_before c.args.number c.args.count before c.requires.some c.requires.few c.if-count-gt33.true e

pub returns-then-left-ne0-clause-none : goal.returns-then-left-ne0-clause-none
returns-then-left-ne0-clause-none c =
    λ _ before e. none_behind_digit c.args.number c.loop.left c.loop.counter c.args.count before c.loop.invariant c.loop-test.true c.if-left-ne0.true e

pub loop-preserved : goal.loop-preserved
loop-preserved c = one_less c.args.number c.loop.left c.loop.counter c.loop.invariant c.if-left-ne0.false
