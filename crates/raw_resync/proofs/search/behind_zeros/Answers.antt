use Rattle.std.proofs.Common.{arith, refl}
use Rattle.raw_resync.proofs.Tops.{lacks_zeros}
use Rattle.raw_resync.proofs.search.behind_zeros.Goals as goal

pub returns-clause-none : goal.returns-clause-none
returns-clause-none c j low high =
    lacks_zeros c.args.part.bytes.now c.args.place c.args.end c.zeros_at_front-count.result (omega (arith, c.requires.1)) refl c.zeros_at_front-count.ensures.within
    c.zeros_at_front-count.ensures.zeros j low (omega (arith, high, c.if-count-lt4.false))
