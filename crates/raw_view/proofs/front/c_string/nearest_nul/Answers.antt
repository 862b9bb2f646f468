use Rattle.std.proofs.Common.{arith}
use Rattle.raw_view.proofs.Bytes.NulSearch.{nul_of_mask}
use Rattle.raw_view.proofs.front.c_string.nearest_nul.Goals as goal

pub returns : goal.returns
returns c = nul_of_mask c.args.bytes.now (omega (arith, c.if-bytes-lt-LANES.false)) (omega (arith, c.if-nuls-eq0.false))
