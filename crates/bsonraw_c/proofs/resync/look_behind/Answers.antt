use Rattle.std.proofs.Common.{subst}
use Rattle.std.proofs.lemmas.Result.{IfOk-weaker}
use Rattle.raw_resync.specs.Seeking.{Seeks}
use Rattle.raw_resync.specs.declared.search.Places.{Places}
use Rattle.bsonraw_c.specs.Resync.{LooksAtEnd, LooksBehind}
use Rattle.bsonraw_c.proofs.Resyncing.{inside_elsewhere, inside_passed, no_wants}
use Rattle.bsonraw_c.proofs.resync.look_behind.Goals as goal

pub returns-in-Found-clause-behind : goal.returns-in-Found-clause-behind
returns-in-Found-clause-behind c =
    let p = c.args.part in
    let q : Places = record { from = 1; until = c.args.len } in
    inside_elsewhere p.limits p.at p.bytes.now p.is_last c.args.len c.requires.2 c.args.work.now c.seek.new.work c.in-Found.place c.in-Found.all
    (subst (Seeks p.limits p.bytes.now p.is_last p.at q c.args.work.now c.seek.new.work) c.in-Found.is c.in_ok-all.ensures.sought)

pub returns-in-Nowhere-clause-behind : goal.returns-in-Nowhere-clause-behind
returns-in-Nowhere-clause-behind c =
    let p = c.args.part in
    let q : Places = record { from = 1; until = c.args.len } in
    let new = c.look_at_end.new.work in
    IfOk-weaker c.look_at_end.result (LooksAtEnd p.limits p.at p.bytes.now c.args.len c.seek.new.work new c.in-Nowhere.all)
    (LooksBehind p.limits p.at p.bytes.now c.args.len c.args.work.now new)
    (λ behind is. inside_passed p.limits p.at p.bytes.now p.is_last c.args.len c.requires.2 c.args.work.now c.seek.new.work new behind
    (subst (Seeks p.limits p.bytes.now p.is_last p.at q c.args.work.now c.seek.new.work) c.in-Nowhere.is c.in_ok-all.ensures.sought) is) c.look_at_end.ensures.behind

pub unreachable-requires : goal.unreachable-requires
unreachable-requires c =
    let p = c.args.part in
    let q : Places = record { from = 1; until = c.args.len } in
    no_wants p.limits p.bytes.now p.is_last p.at q c.args.work.now c.seek.new.work _ _ _ c.requires.0.0
    (subst (Seeks p.limits p.bytes.now p.is_last p.at q c.args.work.now c.seek.new.work) c.in-Wants.is c.in_ok-all.ensures.sought)
