use Rattle.values_from_json.proofs.Times.{fraction_1, fraction_2, fraction_3}
use Rattle.values_from_json.proofs.date.fraction.Goals as goal

pub returns-in_default-digit-clause-fraction : goal.returns-in_default-digit-clause-fraction
returns-in_default-digit-clause-fraction c = fraction_1 c.in-Some.ensures.some c.in_ok-tenths.ensures.some.1 c.in_ok-tenths.ensures.some.0

pub returns-in_default-digit-2-clause-fraction : goal.returns-in_default-digit-2-clause-fraction
returns-in_default-digit-2-clause-fraction c =
    fraction_2 c.in-Some.ensures.some c.in_ok-tenths.ensures.some.1 c.in_ok-tenths.ensures.some.0 c.in-Some-digit.ensures.some.1 c.in-Some-digit.ensures.some.0

pub returns-clause-fraction : goal.returns-clause-fraction
returns-clause-fraction c = fraction_3 c.in-Some.ensures.some c.in_ok-tenths.ensures.some.1 c.in_ok-tenths.ensures.some.0 c.in-Some-digit.ensures.some.1 c.in-Some-digit.ensures.some.0
    c.in-Some-digit-2.ensures.some.1 c.in-Some-digit-2.ensures.some.0
