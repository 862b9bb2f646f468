use Rattle.std.proofs.Common.{◌≡◌, ◌<◌, ◌≤◌, ◌+◌, ◌^◌, List, ℕ, arith, drop, inl, length, of_z, refl, rules, subst, to_z, w32}
use Rattle.raw_bson.specs.Limits.{Limits}
use Rattle.raw_resync.specs.Charge.{IsBounded}
use Rattle.bsonraw_c.specs.Iters.{Returns}
use Rattle.bsonraw_c.specs.Resync.{GoesOnIn, GoesOnward, damage_of, work_of}
use Rattle.bsonraw_c.specs.declared.codes.Status.TheVariants as status
use Rattle.bsonraw_c.specs.declared.reader.Reader.{Reader}
use Rattle.bsonraw_c.proofs.Resyncing.{bounded_on, goes_on_in}
use Rattle.bsonraw_c.proofs.resync.bsonraw_reader_resync.Goals as goal

pub returns-in-Ok : goal.returns-in-Ok
returns-in-Ok c =
    let b = c.args.bytes.now in
    let limits : Limits = record { bytes = c.args.max_bytes; depth = c.args.max_depth } in
    let old = c.args.reader.now in
    let damage = c.damage-damage.result in
    let onward = c.in-Ok.onward in
    let new : Reader = record old { next = damage + onward.count } in
    let at : damage ≡ damage_of old = c.damage-damage.ensures in
    let within : damage < length b = omega (arith, c.if-bytes-damage.false) in
    let bound : IsBounded (length b) (work_of c.args.resync.now) = search rules in
    let few : length b ≤ 2 ^ 60 = omega (arith, c.if-bytes-gt-MOST_BYTES.false) in
    let left = subst (λ (s : List ℕ). GoesOnward limits damage s c.work-work.result c.go_on.new.work onward) c.split_at.ensures.back c.in-Ok.ensures.onward in
    let goes = subst (λ w. GoesOnward limits damage (drop damage b) w c.go_on.new.work onward) c.work-work.ensures left in
    let done : GoesOnIn limits b damage old new c.args.resync.now c.told.result =
    goes_on_in limits b damage c.args.resync.now c.go_on.new.work onward within bound goes refl c.told.ensures in
    let code : Returns status.Done (to_z w32 (of_z w32 c.number-in-Ok.result)) = search rules in
    inl ((subst (λ (d : ℕ). d < length b) at within, bound), few, subst (λ (d : ℕ). GoesOnIn limits b d old new c.args.resync.now c.told.result) at done, code)

pub told-requires : goal.told-requires
told-requires c =
    let b = c.args.bytes.now in
    let limits : Limits = record { bytes = c.args.max_bytes; depth = c.args.max_depth } in
    let damage = c.damage-damage.result in
    let onward = c.in-Ok.onward in
    let within : damage < length b = omega (arith, c.if-bytes-damage.false) in
    let bound : IsBounded (length b) (work_of c.args.resync.now) = search rules in
    let few : length b ≤ 2 ^ 60 = omega (arith, c.if-bytes-gt-MOST_BYTES.false) in
    let left = subst (λ (s : List ℕ). GoesOnward limits damage s c.work-work.result c.go_on.new.work onward) c.split_at.ensures.back c.in-Ok.ensures.onward in
    let goes = subst (λ w. GoesOnward limits damage (drop damage b) w c.go_on.new.work onward) c.work-work.ensures left in
    let most : IsBounded (length b) c.go_on.new.work = bounded_on limits b damage c.args.resync.now c.go_on.new.work onward within bound goes in
    (omega (arith, most.0, most.1, few), omega (arith, most.1, few))
