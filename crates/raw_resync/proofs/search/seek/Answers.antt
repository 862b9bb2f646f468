use Rattle.std.proofs.Common.{◌≡◌, ◌<◌, arith, length, subst}
use Rattle.raw_resync.specs.Seeking.{Checks}
use Rattle.raw_resync.proofs.Passing.{has_passed_left, has_passed_none, has_passed_stop, sought_found, sought_nowhere, sought_wants}
use Rattle.raw_resync.proofs.search.seek.Goals as goal
use Rattle.raw_resync.proofs.search.seek.Goals.{in-Stops, in-LeftOut}

pub looks-init : goal.looks-init
looks-init c = (c.requires.0, c.requires.2, has_passed_none c.requires.1)

pub returns-in-GoesOn-clause-sought : goal.returns-in-GoesOn-clause-sought
returns-in-GoesOn-clause-sought c =
    let p = c.args.part in
    let l = c.looks in
    let high : l.place < c.args.places.until = omega (arith, c.looks-test.true) in
    let told = subst (Checks p.limits p.bytes.now p.is_last p.at l.place l.work c.check_at.new.work) c.in-GoesOn.is c.in_ok-check_at.ensures.checked in
    sought_found c.args.places l.invariant.2 high told

pub returns-in-Wants-clause-sought : goal.returns-in-Wants-clause-sought
returns-in-Wants-clause-sought c =
    let p = c.args.part in
    let l = c.looks in
    let high : l.place < c.args.places.until = omega (arith, c.looks-test.true) in
    let told = subst (Checks p.limits p.bytes.now p.is_last p.at l.place l.work c.check_at.new.work) c.in-Wants.is c.in_ok-check_at.ensures.checked in
    sought_wants c.args.places l.invariant.2 high c.in-Wants.count told

pub next_place-place-requires : goal.next_place-place-requires
next_place-place-requires c =
    let p = c.args.part in
    let l = c.looks in
    let checked = c.in_ok-check_at.ensures.checked in
    let within : l.place < length p.bytes.now =
    elim c.match-branch-2.branch [
      | in-Stops w ↦ (subst (Checks p.limits p.bytes.now p.is_last p.at l.place l.work c.check_at.new.work) w.in-Stops.is checked).here
      | in-LeftOut w ↦ (subst (Checks p.limits p.bytes.now p.is_last p.at l.place l.work c.check_at.new.work) w.in-LeftOut.is checked).here
    ] in
    (within, c.looks-test.true)

pub looks-preserved : goal.looks-preserved
looks-preserved c =
    let p = c.args.part in
    let l = c.looks in
    let next = c.next_place-place in
    let checked = c.in_ok-check_at.ensures.checked in
    elim c.match-branch-2.branch [
      | in-Stops w ↦
          rw w.all-is (
            c.check_at.ensures.work,
            next.ensures.within,
            has_passed_stop l.invariant.2 next.result next.ensures.inside next.ensures.next next.ensures.none
                (subst (Checks p.limits p.bytes.now p.is_last p.at l.place l.work c.check_at.new.work) w.in-Stops.is checked),
          )
      | in-LeftOut w ↦
          rw w.all-is (
            c.check_at.ensures.work,
            next.ensures.within,
            has_passed_left l.invariant.2 next.result next.ensures.inside next.ensures.next next.ensures.none
                (subst (Checks p.limits p.bytes.now p.is_last p.at l.place l.work c.check_at.new.work) w.in-LeftOut.is checked),
          )
    ]

pub returns-clause-sought : goal.returns-clause-sought
returns-clause-sought c =
    let l = c.looks in
    let at : l.place ≡ c.args.places.until = omega (arith, c.looks-test.false, l.invariant.1) in
    sought_nowhere c.args.places l.place l.invariant.2 at
