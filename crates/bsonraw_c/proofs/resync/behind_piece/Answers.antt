use Rattle.std.proofs.Common.{subst}
use Rattle.std.proofs.lemmas.Result.{IfOk-weaker}
use Rattle.raw_resync.specs.Searches.{Walks}
use Rattle.bsonraw_c.specs.Resync.{GoesInside, GoesOnward}
use Rattle.bsonraw_c.proofs.Resyncing.{behind_explained, behind_left}
use Rattle.bsonraw_c.proofs.resync.behind_piece.Goals as goal

pub returns-in-Explained-clause-onward : goal.returns-in-Explained-clause-onward
returns-in-Explained-clause-onward c =
    let p = c.args.part in
    behind_explained p.limits p.at p.bytes.now p.is_last c.args.len c.requires.2 c.args.work.now c.explain_length.new.work
    (subst (Walks p.at p.bytes.now c.args.len c.args.work.now c.explain_length.new.work) c.in-Explained.is c.explain_length.ensures.walked) c.explain_length.ensures.bounded

pub returns-in-LeftOut-clause-onward : goal.returns-in-LeftOut-clause-onward
returns-in-LeftOut-clause-onward c =
    let p = c.args.part in
    behind_left p.limits p.at p.bytes.now p.is_last c.args.len c.requires.2 c.args.work.now c.explain_length.new.work
    (subst (Walks p.at p.bytes.now c.args.len c.args.work.now c.explain_length.new.work) c.in-LeftOut.is c.explain_length.ensures.walked) c.explain_length.ensures.bounded

pub returns-in-Unexplained-clause-onward : goal.returns-in-Unexplained-clause-onward
returns-in-Unexplained-clause-onward c =
    let p = c.args.part in
    let walks = subst (Walks p.at p.bytes.now c.args.len c.args.work.now c.explain_length.new.work) c.in-Unexplained.is c.explain_length.ensures.walked in
    IfOk-weaker c.inside_or_behind.result (GoesInside p.limits p.at p.bytes.now c.args.len c.explain_length.new.work c.inside_or_behind.new.work)
    (GoesOnward p.limits p.at p.bytes.now c.args.work.now c.inside_or_behind.new.work)
    (λ onward is. is c.args.work.now walks c.explain_length.ensures.bounded) c.inside_or_behind.ensures.onward
