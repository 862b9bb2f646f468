use Rattle.std.proofs.Common.{◌≤◌, arith, length, subst}
use Rattle.raw_resync.specs.Seeking.{Seeks}
use Rattle.raw_resync.specs.declared.search.Places.{Places}
use Rattle.bsonraw_c.proofs.Resyncing.{found_first, no_wants, passed_within}
use Rattle.bsonraw_c.proofs.resync.first_place.Goals as goal

pub returns-clause-place : goal.returns-clause-place
returns-clause-place c =
    let p = c.args.part in
    let q : Places = record { from = 1; until = 18446744073709551615 } in
    found_first p.limits p.at p.bytes.now p.is_last 18446744073709551615 c.in-Found.place c.args.work.now c.seek.new.work c.in-Found.all
    (subst (Seeks p.limits p.bytes.now p.is_last p.at q c.args.work.now c.seek.new.work) c.in-Found.is c.in_ok-place.ensures.sought)

pub unreachable-requires : goal.unreachable-requires
unreachable-requires c =
    let p = c.args.part in
    let q : Places = record { from = 1; until = 18446744073709551615 } in
    let long : 18446744073709551615 ≤ length p.bytes.now = passed_within p.limits p.bytes.now p.is_last p.at q c.args.work.now c.seek.new.work _
    (subst (Seeks p.limits p.bytes.now p.is_last p.at q c.args.work.now c.seek.new.work) c.in-Nowhere.is c.in_ok-place.ensures.sought) in
    omega (arith, long)

pub unreachable-requires-in-Wants : goal.unreachable-requires-in-Wants
unreachable-requires-in-Wants c =
    let p = c.args.part in
    let q : Places = record { from = 1; until = 18446744073709551615 } in
    no_wants p.limits p.bytes.now p.is_last p.at q c.args.work.now c.seek.new.work _ _ _ c.requires.0.0
    (subst (Seeks p.limits p.bytes.now p.is_last p.at q c.args.work.now c.seek.new.work) c.in-Wants.is c.in_ok-place.ensures.sought)
