use Rattle.std.proofs.Common.{leb-true, arith}
use Rattle.raw_view.proofs.Bytes.AsciiLanes.{ascii_of_empty_mask, ascii_below_lowest}
use Rattle.raw_view.proofs.front.utf8.begins_ascii.Goals as goal

pub returns-then-wide-eq0 : goal.returns-then-wide-eq0
returns-then-wide-eq0 c told = ascii_of_empty_mask c.args.bytes.now c.args.len (omega (arith, c.if-bytes-lt-LANES.false)) (omega (arith, c.if-len-gt-LANES.false)) c.if-wide-eq0.true

pub returns-else-wide-eq0 : goal.returns-else-wide-eq0
returns-else-wide-eq0 c told = ascii_below_lowest c.args.bytes.now c.args.len (omega (arith, c.if-bytes-lt-LANES.false)) (omega (arith, c.if-wide-eq0.false)) (leb-true _ _ told)
