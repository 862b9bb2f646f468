use Rattle.std.proofs.Common.{arith}
use Rattle.bson_to_json.proofs.Escapes.{plain_more}
use Rattle.bson_to_json.proofs.quote.plain_len.Goals as goal

pub loop-len-preserved : goal.loop-len-preserved
loop-len-preserved c = (omega arith, plain_more c.args.bytes.now c.loop-len.len c.loop-len-test.true c.loop-len.invariant.1 (c.is_escaped.ensures c.if-not-is_escaped.true))
