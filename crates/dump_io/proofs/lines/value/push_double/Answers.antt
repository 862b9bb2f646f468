use Rattle.std.proofs.Common.{rules, arith}
use Rattle.std.proofs.lemmas.Float.{not_nan_f64_bits}
use Rattle.dump_io.proofs.lines.value.push_double.Goals as goal

pub float_from_bits-bits : goal.float_from_bits-bits
float_from_bits-bits c = not_nan_f64_bits _ (first_of (omega arith, search rules))
