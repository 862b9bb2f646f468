use Rattle.std.proofs.Common.{rules}
use Rattle.values_from_json.proofs.Times.{written}
use Rattle.values_from_json.proofs.Only.{no_clock, no_letter}
use Rattle.values_from_json.proofs.date.millis_of.Goals as goal

pub returns-clause-some : goal.returns-clause-some
returns-clause-some c = written c.args.text.now c.in_ok-days.rest.now c.in_ok-letter.field-0.now _ c.in_ok-days.days c.in_ok-millis.ahead c.in_ok-millis.millis
    c.in_ok-days.ensures.date c.in_ok-letter.ensures.some c.in_ok-millis.ensures.clock (first_of (search rules, cc))

pub returns-in_err-millis-clause-none : goal.returns-in_err-millis-clause-none
returns-in_err-millis-clause-none c =
    λ _. no_clock c.args.text.now c.in_ok-days.rest.now c.in_ok-letter.field-0.now c.in_ok-days.ensures.only c.in_ok-letter.ensures.only (c.clock.ensures.none c.in_err-millis.was)

pub returns-in_err-letter-clause-none : goal.returns-in_err-letter-clause-none
returns-in_err-letter-clause-none c = λ _. no_letter c.args.text.now c.in_ok-days.rest.now c.in_ok-days.ensures.only c.in_err-letter.ensures.only
