use Rattle.std.proofs.Common.{subst}
use Rattle.std.proofs.lemmas.Result.{IfOk-weaker}
use Rattle.bsonraw_c.specs.Resync.{FindsFirst, GoesInside, TellsBehind}
use Rattle.bsonraw_c.proofs.Resyncing.{behind_piece, elsewhere_first}
use Rattle.bsonraw_c.proofs.resync.inside_or_behind.Goals as goal

pub returns-then-behind-clause-onward : goal.returns-then-behind-clause-onward
returns-then-behind-clause-onward c =
    let p = c.args.part in
    let behind = c.in_ok-behind.behind in
    let mid = c.look_behind.new.work in
    let goes = subst (λ b. TellsBehind p.limits p.at p.bytes.now c.args.len c.args.work.now mid b behind.all) c.if-behind.true c.in_ok-behind.ensures.behind.0 in
    IfOk-weaker c.first_place.result (FindsFirst p.limits p.at p.bytes.now mid c.first_place.new.work)
    (GoesInside p.limits p.at p.bytes.now c.args.len c.args.work.now c.first_place.new.work)
    (λ onward is start walks bound. elsewhere_first p.limits p.at p.bytes.now c.args.len c.requires.2 start c.args.work.now mid c.first_place.new.work onward (walks, bound)
    ((goes, c.in_ok-behind.ensures.behind.1), is)) c.first_place.ensures.place

pub returns-clause-onward : goal.returns-clause-onward
returns-clause-onward c start walks bound =
    let p = c.args.part in
    let behind = c.in_ok-behind.behind in
    let mid = c.look_behind.new.work in
    let goes = subst (λ b. TellsBehind p.limits p.at p.bytes.now c.args.len c.args.work.now mid b behind.all) c.if-behind.false c.in_ok-behind.ensures.behind.0 in
    behind_piece p.limits p.at p.bytes.now c.args.len c.requires.2 start c.args.work.now mid behind.all (walks, bound) (goes, c.in_ok-behind.ensures.behind.1)
