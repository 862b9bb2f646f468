use Rattle.std.proofs.Common.{rules, ◌≡◌, ◌∷◌, drop}
use Rattle.raw_resync.proofs.Begun.{begins_or_not}
use Rattle.raw_resync.proofs.check.begins_with_tag.Goals as goal

pub returns-in-Some : goal.returns-in-Some
returns-in-Some c =
    let x = c.in-Some.byte.now in
    let r = c.in-Some.field-0-1.now in
    let split : drop 4 c.args.piece.now ≡ x ∷ r = search rules in
    begins_or_not c.args.piece.now x r c.from.result c.is_some.result split c.from.ensures.cases c.is_some.ensures
