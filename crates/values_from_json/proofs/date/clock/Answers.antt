use Rattle.values_from_json.proofs.Only.{no_fraction, no_zone}
use Rattle.values_from_json.proofs.date.clock.Goals as goal

pub returns-in_err-millis-clause-none : goal.returns-in_err-millis-clause-none
returns-in_err-millis-clause-none c = λ _. no_fraction c.args.text.now c.in_ok-seconds.rest.now c.in_ok-seconds.ensures.only c.in_err-millis.ensures.only

pub returns-in_err-ahead-clause-none : goal.returns-in_err-ahead-clause-none
returns-in_err-ahead-clause-none c =
    λ _. no_zone c.args.text.now c.in_ok-seconds.rest.now c.in_ok-millis.rest.now c.in_ok-seconds.ensures.only c.in_ok-millis.ensures.only (c.zone.ensures.none c.in_err-ahead.was)
