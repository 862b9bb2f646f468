use Rattle.std.proofs.Common.{arith, inl}
use Rattle.dump_io.proofs.input.Ahead.{nil_of_none}
use Rattle.dump_io.proofs.input.window.too_few.Goals as goal

pub returns-then-count-eq0 : goal.returns-then-count-eq0
returns-then-count-eq0 c new s len end most = (nil_of_none s (omega arith), end)

pub returns-else-count-eq0 : goal.returns-else-count-eq0
returns-else-count-eq0 c new s len end most = ((len, omega arith, inl c.requires), end)
