use Rattle.std.proofs.Common.{w64}
use Rattle.std.proofs.lemmas.Int.{to_z-of_z}
use Rattle.values_from_json.proofs.Times.{settled}
use Rattle.values_from_json.proofs.date.instant.Goals as goal

pub returns : goal.returns
returns c =
    let day = to_z-of_z w64 c.args.days c.ranges.days in
    let part = to_z-of_z w64 c.args.millis c.ranges.millis in
    let zone = to_z-of_z w64 c.args.ahead c.ranges.ahead in
    settled _ _ _ c.args.days c.args.millis c.args.ahead day part zone c.requires.days c.requires.millis c.requires.ahead
