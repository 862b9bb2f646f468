use Rattle.raw_form.proofs.canonical.Common.{answered_one_way, one_form}
use Rattle.raw_form.proofs.canonical.canonical_within.Goals as goal

pub returns-in_err-document-clause-one_answer : goal.returns-in_err-document-clause-one_answer
returns-in_err-document-clause-one_answer c = answered_one_way c.args.limits

pub returns-in_err-document-clause-one_form : goal.returns-in_err-document-clause-one_form
returns-in_err-document-clause-one_form c = one_form

pub returns-clause-one_answer : goal.returns-clause-one_answer
returns-clause-one_answer c = answered_one_way c.args.limits

pub returns-clause-one_form : goal.returns-clause-one_form
returns-clause-one_form c = one_form
