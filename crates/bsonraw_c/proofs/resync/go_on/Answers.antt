use Rattle.std.proofs.lemmas.Result.{IfOk-weaker}
use Rattle.bsonraw_c.specs.Resync.{FindsFirst, GoesOnward}
use Rattle.bsonraw_c.proofs.Resyncing.{first_onward}
use Rattle.bsonraw_c.proofs.resync.go_on.Goals as goal

pub returns-in-None-clause-onward : goal.returns-in-None-clause-onward
returns-in-None-clause-onward c =
    let p = c.args.part in
    IfOk-weaker c.first_place.result (FindsFirst p.limits p.at p.bytes.now c.args.work.now c.first_place.new.work)
    (GoesOnward p.limits p.at p.bytes.now c.args.work.now c.first_place.new.work)
    (λ onward is. first_onward p.limits p.at p.bytes.now p.is_last c.args.work.now c.first_place.new.work onward c.in-None.ensures.none is)
    c.first_place.ensures.place
