use Rattle.raw_tree.proofs.reader.Limited.{answered_one_way}
use Rattle.raw_tree.proofs.reader.limits.document_from_raw_within.Goals as goal

pub returns-then-as_bytes-limits-clause-one_answer : goal.returns-then-as_bytes-limits-clause-one_answer
returns-then-as_bytes-limits-clause-one_answer c = answered_one_way c.args.limits

pub returns-in_err-tree-clause-one_answer : goal.returns-in_err-tree-clause-one_answer
returns-in_err-tree-clause-one_answer c = answered_one_way c.args.limits

pub returns-clause-one_answer : goal.returns-clause-one_answer
returns-clause-one_answer c = answered_one_way c.args.limits
