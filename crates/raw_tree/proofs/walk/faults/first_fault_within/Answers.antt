use Rattle.std.proofs.Common.{arith, ap, length}
use Rattle.raw_tree.proofs.Common.{bytes_of}
use Rattle.raw_tree.proofs.reader.Limited.{answered_one_way}
use Rattle.raw_tree.proofs.walk.OneBarrier.{barrier_told}
use Rattle.raw_tree.proofs.walk.faults.first_fault_within.Goals as goal

pub returns-then-as_bytes-limits-clause-one_answer : goal.returns-then-as_bytes-limits-clause-one_answer
returns-then-as_bytes-limits-clause-one_answer c = answered_one_way c.args.limits

pub returns-clause-barrier : goal.returns-clause-barrier
returns-clause-barrier c =
    barrier_told c.args.limits (bytes_of c.args.document) c.first_behind.result (omega (arith, ap length c.as_bytes.ensures.bytes)) c.first_behind.ensures.told

pub returns-clause-one_answer : goal.returns-clause-one_answer
returns-clause-one_answer c = answered_one_way c.args.limits
