use Rattle.std.proofs.Common.{rules, [], ◌≡◌, pos, arith, to_z, of_z, w64}
use Rattle.std.proofs.lemmas.Int.{ints}
use Rattle.values_from_json.proofs.Times.{ahead_zone}
use Rattle.values_from_json.proofs.Only.{no_zone_ahead, no_zone_at_all, no_zone_behind}
use Rattle.values_from_json.proofs.date.zone.Goals as goal

pub returns-in-Some-clause-zone : goal.returns-in-Some-clause-zone
returns-in-Some-clause-zone c =
    let e : to_z w64 (of_z w64 c.from.result) ≡ pos c.in_ok-minutes.minutes = first_of (search rules, grind (arith, ints), omega (arith, ints)) in
    ahead_zone _ c.in-Some.ensures.some c.in_ok-minutes.ensures.distance e

pub returns-in_err-minutes-clause-none : goal.returns-in_err-minutes-clause-none
returns-in_err-minutes-clause-none c = λ _. no_zone_ahead c.args.text.now c.in-Some.behind.now (c.distance.ensures.none c.in_err-minutes.was) c.in-Some.ensures.some

pub returns-in_err-minutes-2-clause-none : goal.returns-in_err-minutes-2-clause-none
returns-in_err-minutes-2-clause-none c =
    λ _. no_zone_behind c.args.text.now c.in-Some-byte.behind.now (c.distance-in-Some-byte.ensures.none c.in_err-minutes-2.was) c.in-Some-byte.ensures.some

pub returns-in_err-rest-clause-none : goal.returns-in_err-rest-clause-none
returns-in_err-rest-clause-none c = λ _. no_zone_at_all c.in_default.ensures.only c.in_default-byte.ensures.only (c.in_err-rest.ensures.only [])
