use Rattle.values_from_json.proofs.Decimals.{small, too_many}
use Rattle.values_from_json.proofs.decimal.with_zeros.Goals as goal

pub returns-then-count-gt33-clause-none : goal.returns-then-count-gt33-clause-none
returns-then-count-gt33-clause-none c = λ _. too_many c.args.number c.args.count c.requires.some c.if-count-gt33.true

pub pow-power-requires : goal.pow-power-requires
pow-power-requires c = small c.args.count c.if-count-gt33.false
