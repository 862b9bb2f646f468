use Rattle.std.specs.Float.{binary64}
use lib.Ieee.Bits.{to_bits-of_bits}
use Rattle.std.proofs.lemmas.Float.{T_from_false}
use Rattle.bson_model.proofs.numbers.DoubleBits.to_f64.Goals as goal

pub returns-clause-back : goal.returns-clause-back
returns-clause-back c = λ number. rw c.f64_from_bits_with_nan.ensures (to_bits-of_bits binary64 c.args.self.0 c.attest_u64.ensures (T_from_false _ (rw c.f64_from_bits_with_nan.ensures at number)))
