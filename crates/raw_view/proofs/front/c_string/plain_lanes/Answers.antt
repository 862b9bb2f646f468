use Rattle.std.proofs.Common.{arith}
use Rattle.raw_view.proofs.Bytes.PlainLanes.{plain_all, plain_front}
use Rattle.raw_view.proofs.front.c_string.plain_lanes.Goals as goal

pub returns-then-ends-eq0-clause-nul_free : goal.returns-then-ends-eq0-clause-nul_free
returns-then-ends-eq0-clause-nul_free g c = (plain_all g.row.N c.args.bytes.now c.requires.few c.requires.long c.if-ends-eq0.true).0

pub returns-then-ends-eq0-clause-ascii : goal.returns-then-ends-eq0-clause-ascii
returns-then-ends-eq0-clause-ascii g c = (plain_all g.row.N c.args.bytes.now c.requires.few c.requires.long c.if-ends-eq0.true).1

pub returns-clause-within : goal.returns-clause-within
returns-clause-within g c = (plain_front g.row.N c.args.bytes.now c.requires.few c.requires.long (omega (arith, c.if-ends-eq0.false))).0

pub returns-clause-nul_free : goal.returns-clause-nul_free
returns-clause-nul_free g c = (plain_front g.row.N c.args.bytes.now c.requires.few c.requires.long (omega (arith, c.if-ends-eq0.false))).1.0

pub returns-clause-ascii : goal.returns-clause-ascii
returns-clause-ascii g c = (plain_front g.row.N c.args.bytes.now c.requires.few c.requires.long (omega (arith, c.if-ends-eq0.false))).1.1
