use Rattle.raw_view.proofs.Bytes.NulSearch.{before_no_nul, split_there}
use Rattle.raw_view.proofs.front.c_string.split_text.Goals as goal

pub returns-in-Err-clause-fault : goal.returns-in-Err-clause-fault
returns-in-Err-clause-fault c =
    let none = c.in-Some.ensures.0 in
    (_, _, split_there c.args.bytes.now c.in-Some.at none.high c.in-Some.ensures.1, before_no_nul _ _ none, c.in-Err.ensures.fault)
