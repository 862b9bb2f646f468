use Rattle.std.proofs.Common.{rules, ◌≡◌, ◌∷◌, false, drop, is_some}
use Rattle.raw_resync.proofs.Begun.{no_kind}
use Rattle.raw_resync.proofs.check.lacks_tag.Goals as goal

pub returns-in-Some : goal.returns-in-Some
returns-in-Some c is =
    let x = c.in-Some.byte.now in
    let r = c.in-Some.field-0-1.now in
    let split : drop 4 c.args.rest.now ≡ x ∷ r = search rules in
    let lacks : is_some c.from.result ≡ false = search rules in
    (x, r, split, no_kind x c.from.result c.from.ensures.cases lacks)
