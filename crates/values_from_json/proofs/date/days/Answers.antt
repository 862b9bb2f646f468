use Rattle.std.proofs.Common.{◌∷◌, ◌++◌, pos, sym}
use Rattle.values_from_json.specs.Times.{two_digits}
use Rattle.values_from_json.proofs.Only.{day_digits, month_digits}
use Rattle.values_from_json.proofs.date.days.Goals as goal

pub returns-in_err-month-clause-only : goal.returns-in_err-month-clause-only
returns-in_err-month-clause-only c =
    λ year month day rest few civil e. let days = 45 ∷ (two_digits day ++ rest) in
    let months = two_digits month ++ days in
    let a = c.in_ok-year.ensures.only year (45 ∷ months) few e in
    let b = c.in_ok-byte.ensures.only months (sym a.1) in
    absurd (c.in_err-month.ensures.only month days (month_digits (pos year) month day civil) (sym b))

pub returns-in_err-day-clause-only : goal.returns-in_err-day-clause-only
returns-in_err-day-clause-only c =
    λ year month day rest few civil e. let days = two_digits day ++ rest in
    let months = two_digits month ++ (45 ∷ days) in
    let a = c.in_ok-year.ensures.only year (45 ∷ months) few e in
    let b = c.in_ok-byte.ensures.only months (sym a.1) in
    let d = c.in_ok-month.ensures.only month (45 ∷ days) (month_digits (pos year) month day civil) (sym b) in
    let f = c.in_ok-byte-2.ensures.only days (sym d.1) in
    absurd (c.in_err-day.ensures.only day rest (day_digits (pos year) month day civil) (sym f))
