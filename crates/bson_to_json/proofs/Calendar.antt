-- Each day of the years 1970 to 9999 is in the calendar.
use Rattle.bson_to_json.proofs.Common.{IsCivilDate, IsInstantText, cases_lt, day_count, day_count-day, day_count-end, day_count-epoch, day_count-last_of_year, day_count-next_month, day_count-next_year, days_from_civil, days_from_civil-day_count, days_in_month, days_in_month_bounds, days_in_year, ints}
use Rattle.std.proofs.Common.{◌≡◌, ◌+◌, ◌<◌, ◌≤◌, ◌/◌, ◌%◌, ℕ, pos, ◌+ℤ◌, ◌*ℤ◌, zero, suc, List, arith, refl, subst, inl, inr}

-- the day that is n days after 1 January 1970
record Day (n : ℕ) : Type 0 where
  year : ℕ
  month : ℕ
  day : ℕ
  civil : IsCivilDate (pos year) month day
  count : day_count (pos year) month day ≡ n + 4_371_953

next_day : (n : ℕ) → n < 2_932_896 → Day n → Day (suc n)
next_day n few d =
    let y = pos d.year in
    let one = day_count-day y d.month d.day 1 (omega (arith, d.civil.2.0)) (omega arith) in
    elim (cases_lt d.day (days_in_month y d.month)) [
      | inl within ↦ record {
        year = d.year;
        month = d.month;
        day = d.day + 1;
        civil = (d.civil.0, d.civil.1, (omega arith, omega (arith, within)));
        count = omega (arith, d.count, day_count-day y d.month d.day (d.day + 1) (omega (arith, d.civil.2.0)) (omega arith));
      }
      | inr last ↦ elim (cases_lt d.month 12) [
        | inl before ↦ record {
          year = d.year;
          month = d.month + 1;
          day = 1;
          civil = (d.civil.0, (omega arith, omega (arith, before)), (omega arith, omega (arith, (days_in_month_bounds y (d.month + 1)).1)));
          count = omega (arith, d.count, one, last, d.civil.2.1, day_count-next_month y d.month (omega (arith, d.civil.1.0)));
        }
        | inr december ↦
            let twelve : d.month ≡ 12 = omega (arith, december, d.civil.1.1) in
            let at = subst (λ (m : ℕ). day_count y m d.day ≡ n + 4_371_953) twelve d.count in
            let whole = subst (λ (m : ℕ). days_in_month y m ≤ d.day) twelve last in
            let most = subst (λ (m : ℕ). d.day ≤ days_in_month y m) twelve d.civil.2.1 in
            let after : day_count (pos (suc d.year)) 1 1 ≡ day_count y 1 1 + days_in_year y = day_count-next_year y (pos (suc d.year)) (omega (arith, ints)) (omega (arith, ints)) in
            let thirty_one : d.day ≡ 31 = omega (arith, whole, most) in
            let last_day = subst (λ (k : ℕ). day_count y 12 k ≡ n + 4_371_953) thirty_one at in
            let count : day_count (pos (suc d.year)) 1 1 ≡ suc n + 4_371_953 = omega (arith, after, day_count-last_of_year y, last_day) in
            let year : suc d.year ≤ 9999 = elim (cases_lt d.year 9999) [
              | inl below ↦ omega (arith, below)
              | inr above ↦
                  let e : suc d.year ≡ 10000 = omega (arith, ints, above, d.civil.0.1) in
                  absurd (omega (arith, few, day_count-end, subst (λ (k : ℕ). day_count (pos k) 1 1 ≡ suc n + 4_371_953) e count))
            ] in
            record {
              year = suc d.year;
              month = 1;
              day = 1;
              civil = ((omega (arith, ints), omega (arith, ints, year)), (omega arith, omega arith), (omega arith, omega (arith, (days_in_month_bounds (pos (suc d.year)) 1).1)));
              count = count;
            }
      ]
    ]

day_at : (n : ℕ) → n < 2_932_897 → Day n
day_at zero h = record { year = 1970; month = 1; day = 1; civil = ((omega (arith, ints), omega (arith, ints)), (omega arith, omega arith), (omega arith, omega arith)); count = day_count-epoch }
day_at (suc n) h = next_day n (omega (arith, h)) (day_at n (omega (arith, h)))

-- each time of these years has a text
pub instant_has : (millis : ℕ) → millis ≤ 253402300799999 → (text : List ℕ) × IsInstantText (pos millis) text
instant_has millis h =
    let n = millis / 86400000 in
    let d = day_at n (omega (arith, h)) in
    let days : days_from_civil (pos d.year) d.month d.day ≡ pos n = omega (arith, ints, days_from_civil-day_count (pos d.year) d.month d.day, d.count) in
    let is_time : pos millis ≡ (days_from_civil (pos d.year) d.month d.day *ℤ pos 86400000) +ℤ pos (millis % 86400000) = omega (arith, ints, days) in
    (_, (d.year, d.month, d.day, millis % 86400000, d.civil, omega arith, is_time, refl))
