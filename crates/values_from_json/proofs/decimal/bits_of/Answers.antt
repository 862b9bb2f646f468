use Rattle.values_from_json.proofs.Decimals.{no_bits, no_word, on_err}
use Rattle.values_from_json.proofs.decimal.bits_of.Goals as goal

pub returns-in_err-coefficient-clause-none : goal.returns-in_err-coefficient-clause-none
returns-in_err-coefficient-clause-none c = on_err c.from_residual.result (no_bits c.args.is_negative c.args.size.now (no_word c.if-is_word.false c.is_word.ensures)
    (no_word c.if-is_word-2.false c.is_word-else-is_word.ensures) (no_word c.if-is_word-3.false c.is_word-2.ensures) c.in_err-coefficient.ensures.none)
