use Rattle.std.proofs.Common.{◌∷◌, ◌++◌, sym, arith}
use Rattle.values_from_json.specs.Times.{two_digits}
use Rattle.values_from_json.proofs.date.seconds.Goals as goal

pub returns-in_err-second-clause-only : goal.returns-in_err-second-clause-only
returns-in_err-second-clause-only c =
    λ hour minute second rest h m s e. let seconds = two_digits second ++ rest in
    let minutes = two_digits minute ++ (58 ∷ seconds) in
    let a = c.in_ok-hour.ensures.only hour (58 ∷ minutes) (omega arith) e in
    let b = c.in_ok-byte.ensures.only minutes (sym a.1) in
    let d = c.in_ok-minute.ensures.only minute (58 ∷ seconds) (omega arith) (sym b) in
    let f = c.in_ok-byte-2.ensures.only seconds (sym d.1) in
    absurd (c.in_err-second.ensures.only second rest (omega arith) (sym f))
