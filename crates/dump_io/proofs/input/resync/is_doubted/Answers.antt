use Rattle.dump_io.proofs.input.Deciding.{doubts_explained, doubts_inside, doubts_left, walks_ahead}
use Rattle.dump_io.proofs.lines.Cases.{if_ok}
use Rattle.dump_io.proofs.input.resync.is_doubted.Goals as goal

pub returns-in-Explained-clause-doubts : goal.returns-in-Explained-clause-doubts
returns-in-Explained-clause-doubts g c =
    let (bound, walks) = walks_ahead c.args.len c.args.window.now c.part_of.ensures.at c.part_of.ensures.bytes c.in-Explained.is c.explain_length.ensures.bounded c.explain_length.ensures.walked in
    doubts_explained c.requires.0 c.requires.1 c.requires.2 c.requires.3 c.explain_length.ensures.work bound walks

pub returns-in-LeftOut-clause-doubts : goal.returns-in-LeftOut-clause-doubts
returns-in-LeftOut-clause-doubts g c =
    let (bound, walks) = walks_ahead c.args.len c.args.window.now c.part_of.ensures.at c.part_of.ensures.bytes c.in-LeftOut.is c.explain_length.ensures.bounded c.explain_length.ensures.walked in
    doubts_left c.requires.0 c.requires.1 c.requires.2 c.requires.3 c.explain_length.ensures.work bound walks

pub returns-in-Unexplained-clause-doubts : goal.returns-in-Unexplained-clause-doubts
returns-in-Unexplained-clause-doubts g c =
    let (bound, walks) = walks_ahead c.args.len c.args.window.now c.part_of.ensures.at c.part_of.ensures.bytes c.in-Unexplained.is c.explain_length.ensures.bounded c.explain_length.ensures.walked in
    if_ok c.goes_on_elsewhere.result _ _ (λ doubted sees.
    doubts_inside c.requires.0 c.requires.1 c.requires.2 c.requires.3 c.explain_length.ensures.work bound doubted walks sees)
    c.goes_on_elsewhere.ensures.goes
