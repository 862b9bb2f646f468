use Rattle.raw_view.proofs.Bytes.NulSearch.{found_near}
use Rattle.raw_view.proofs.front.c_string.first_nul.Goals as goal

pub returns-in-Some : goal.returns-in-Some
returns-in-Some c = found_near c.args.bytes.now 32 c.in-Some.at c.if-bytes-ge-NEAR.true c.in-Some.ensures.0 c.in-Some.ensures.1
