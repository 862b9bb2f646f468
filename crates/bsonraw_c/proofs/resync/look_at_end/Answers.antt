use Rattle.std.proofs.Common.{◌≡◌, ◌+◌, ◌≤◌, List, ℕ, arith, drop, length, refl, subst, take, true}
use Rattle.raw_resync.specs.Seeking.{Seeks}
use Rattle.raw_resync.specs.declared.search.Places.{Places}
use Rattle.bsonraw_c.proofs.Resyncing.{found_at_end, no_wants, passed_at_end}
use Rattle.bsonraw_c.proofs.resync.look_at_end.Goals as goal

pub overflow_add-rest : goal.overflow_add-rest
overflow_add-rest c = omega (arith, c.requires.0.2, c.requires.2.0)

pub returns-in-Found-clause-behind : goal.returns-in-Found-clause-behind
returns-in-Found-clause-behind c inside over =
    let p = c.args.part in
    let q : Places = record { from = 0; until = 1 } in
    let seeks = subst (λ (t : List ℕ). Seeks p.limits t true (p.at + c.args.len) q c.args.work.now c.seek.new.work c.in_ok-seek.field-0) c.split_at.ensures.back c.in_ok-seek.ensures.sought in
    found_at_end p.limits p.at p.bytes.now true c.args.len c.requires.2 c.args.work.now c.seek.new.work c.args.all c.in-Found.place c.in-Found.all
    (subst (Seeks p.limits (drop c.args.len p.bytes.now) true (p.at + c.args.len) q c.args.work.now c.seek.new.work) c.in-Found.is seeks) inside over

pub returns-in-Nowhere-clause-behind : goal.returns-in-Nowhere-clause-behind
returns-in-Nowhere-clause-behind c inside over =
    let p = c.args.part in
    let q : Places = record { from = 0; until = 1 } in
    let seeks = subst (λ (t : List ℕ). Seeks p.limits t true (p.at + c.args.len) q c.args.work.now c.seek.new.work c.in_ok-seek.field-0) c.split_at.ensures.back c.in_ok-seek.ensures.sought in
    passed_at_end p.limits p.at p.bytes.now true c.args.len c.requires.2 c.args.work.now c.seek.new.work c.args.all c.in-Nowhere.looked
    (subst (Seeks p.limits (drop c.args.len p.bytes.now) true (p.at + c.args.len) q c.args.work.now c.seek.new.work) c.in-Nowhere.is seeks) inside over

pub unreachable-requires : goal.unreachable-requires
unreachable-requires c =
    let p = c.args.part in
    let q : Places = record { from = 0; until = 1 } in
    no_wants p.limits c.split_at.result.1.now true (p.at + c.args.len) q c.args.work.now c.seek.new.work _ _ _ refl
    (subst (Seeks p.limits c.split_at.result.1.now true (p.at + c.args.len) q c.args.work.now c.seek.new.work) c.in-Wants.is c.in_ok-seek.ensures.sought)
