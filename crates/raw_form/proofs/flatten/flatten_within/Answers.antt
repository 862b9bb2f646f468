use Rattle.std.proofs.Common.{rules}
use Rattle.raw_form.proofs.canonical.Common.{answered_one_way}
use Rattle.raw_form.proofs.flatten.flatten_within.Goals as goal

pub returns-clause-flat : goal.returns-clause-flat
returns-clause-flat c = search (rules, c.flatten_to.ensures c.args.limits.bytes)

pub returns-then-as_bytes-limits-clause-one_answer : goal.returns-then-as_bytes-limits-clause-one_answer
returns-then-as_bytes-limits-clause-one_answer c = answered_one_way c.args.limits

pub returns-in_default-clause-one_answer : goal.returns-in_default-clause-one_answer
returns-in_default-clause-one_answer c = answered_one_way c.args.limits

pub returns-clause-one_answer : goal.returns-clause-one_answer
returns-clause-one_answer c = answered_one_way c.args.limits
