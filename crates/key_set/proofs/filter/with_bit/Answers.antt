use Rattle.std.proofs.Common.{arith}
use Rattle.std.proofs.lemmas.Bool.{cases_eq}
use Rattle.std.proofs.lemmas.Nat.Bits.{bit_at_set_other, bit_at_set_same}
use Rattle.std.specs.Int.{w64}
use Rattle.key_set.proofs.filter.with_bit.Goals as goal

pub returns-clause-filtered : goal.returns-clause-filtered
returns-clause-filtered c = bit_at_set_same w64 c.args.filter c.args.bit c.requires

pub returns-clause-kept : goal.returns-clause-kept
returns-clause-kept c n h =
    grind (arith, cases_eq n c.args.bit, bit_at_set_same w64 c.args.filter c.args.bit c.requires, bit_at_set_other w64 c.args.filter c.args.bit c.requires n)
