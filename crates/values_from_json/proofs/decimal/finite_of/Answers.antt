use Rattle.std.proofs.Common.{refl}
use Rattle.values_from_json.proofs.Decimals.{long_finite}
use Rattle.values_from_json.proofs.decimal.finite_of.Goals as goal

pub returns-in_default-clause-none : goal.returns-in_default-clause-none
returns-in_default-clause-none c = long_finite c.args.size.now c.whole-whole.result.now c.fraction-fraction.result.now c.scan-numeral.result c.scan-numeral.ensures.parts
    c.whole-whole.ensures.value c.fraction-fraction.ensures.value (c.in_default.ensures.none refl)
