use Rattle.std.proofs.Common.{◌≡◌, ◌+◌, ◌-◌, List, ℕ, arith, drop, length, refl, take}
use Rattle.raw_resync.proofs.Tops.{hay_len, lacks_on, lacks_tops}
use Rattle.raw_resync.proofs.search.next_place.Goals as goal

pub returns-in-Some-clause-none : goal.returns-in-Some-clause-none
returns-in-Some-clause-none c =
    let p = c.args.part in
    let place = c.args.place in
    let end = c.min-end.result in
    let hay : List ℕ = take (end - (place + 1 + 3)) (drop (place + 1 + 3) p.bytes.now) in
    let found = c.in-Some.ensures.0 in
    lacks_on place (place + 1 + c.in-Some.count) c.behind_zeros.result
    (lacks_tops p.limits.bytes p.is_last p.bytes.now place end (place + 1 + c.in-Some.count) (omega (arith, c.if-part-ge-TOO_LONG.false))
    (omega (arith, c.min-end.ensures)) (omega (arith, c.if-end-next.false)) refl (omega (arith, found.high)) (λ k less. found.before k (omega arith) (omega (arith, less))))
    c.behind_zeros.ensures.none

pub returns-in-None-clause-none : goal.returns-in-None-clause-none
returns-in-None-clause-none c =
    let p = c.args.part in
    let place = c.args.place in
    let end = c.min-end.result in
    let hay : List ℕ = take (end - (place + 1 + 3)) (drop (place + 1 + 3) p.bytes.now) in
    let none = c.in-None.ensures in
    let size : length hay ≡ end - (place + 1 + 3) = hay_len p.bytes.now (place + 1 + 3) end (omega (arith, c.min-end.ensures)) in
    lacks_tops p.limits.bytes p.is_last p.bytes.now place end (end - 3) (omega (arith, c.if-part-ge-TOO_LONG.false))
    (omega (arith, c.min-end.ensures)) (omega (arith, c.if-end-next.false)) refl (omega (arith, size, c.if-end-next.false))
    (λ k less. none k (omega arith) (omega (arith, less, size)))
