use Rattle.std.proofs.Common.{arith, ◌*◌, ◌^◌}
use Rattle.values_from_json.proofs.Decimals.{after_more, digit_in, too_long_at}
use Rattle.values_from_json.proofs.decimal.Kept.with_digits.Goals as goal

pub overflow_sub-byte : goal.overflow_sub-byte
overflow_sub-byte c = (digit_in c.args.digits.now c.loop-byte.byte-index c.requires.digits (omega arith)).0

pub with_digit-requires-clause-digit : goal.with_digit-requires-clause-digit
with_digit-requires-clause-digit c =
    let r = digit_in c.args.digits.now c.loop-byte.byte-index c.requires.digits (omega arith) in
    omega (arith, r.0, r.1)

pub returns-in_err-kept-clause-none : goal.returns-in_err-kept-clause-none
returns-in_err-kept-clause-none c =
    λ _. too_long_at _ _ c.args.digits.now c.loop-byte.byte-index c.requires.digits (omega arith) c.loop-byte.invariant.0 (c.with_digit.ensures.none c.in_err-kept.was)

pub loop-byte-preserved : goal.loop-byte-preserved
loop-byte-preserved c =
    let s = c.args.self in (
      omega (
        arith,
        after_more (s.coefficient * 10 ^ s.zeros) c.args.digits.now c.loop-byte.byte-index c.requires.digits (omega arith),
        c.loop-byte.invariant.0,
        c.in_ok-kept.ensures.some,
      ),
      omega (arith, c.loop-byte.invariant.1, c.in_ok-kept.ensures.bound),
    )
