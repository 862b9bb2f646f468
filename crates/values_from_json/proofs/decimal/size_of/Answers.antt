use Rattle.std.proofs.Common.{arith}
use Rattle.values_from_json.proofs.Decimals.{after_more, digit_in}
use Rattle.values_from_json.proofs.decimal.size_of.Goals as goal

pub overflow_sub-byte : goal.overflow_sub-byte
overflow_sub-byte c = (digit_in c.args.digits.now c.loop-byte.byte-index c.requires (omega arith)).0

pub loop-byte-preserved : goal.loop-byte-preserved
loop-byte-preserved c = omega (arith, after_more 0 c.args.digits.now c.loop-byte.byte-index c.requires (omega arith))
