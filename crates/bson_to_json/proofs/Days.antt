-- Times as text.
use Rattle.bson_to_json.proofs.Common.{HasInstantText, IsCivilDate, IsDateJson, IsInstantText, Relaxed, day_count, day_count-lt_year, days_from_civil, days_from_civil-day_count, fraction_text, ints, nat_tests, second_text, three_digits}
use Rattle.std.proofs.Common.{◌≡◌, ◌<◌, ◌+◌, ◌/◌, ◌%◌, ℕ, List, [], ◌∷◌, ◌++◌, codes, arith, refl, sym, ap, ◌∙◌, subst, inl, ℤ, pos, negsuc, neg_ℤ, ◌+ℤ◌, ◌*ℤ◌, ◌≤ℤ◌, unsigned_abs, cond, nat_eq}
use Rattle.jiff_core.proofs.MarchLemmas.{day_count-early}
use Rattle.jiff_core.proofs.DateLemmas.{civil}
use Rattle.jiff_core.specs.Date.{epoch_day}
use Rattle.jiff_core.specs.declared.civil.date.Date.{Date}
use borrow.Author.Differences.{up, down}

pub day_count-year_0 : day_count (pos 0) 1 1 ≡ 3_652_425
day_count-year_0 = day_count-early (pos 0) 9999 1 1 refl (omega arith) (omega arith) (omega arith)

-- a day of the year 0 or later is in a year that is not negative
pub later_year : (y : ℤ) (m d : ℕ) → IsCivilDate y m d → neg_ℤ (pos 719_528) ≤ℤ days_from_civil y m d → (k : ℕ) × (y ≡ pos k) × (k < 10000)
later_year (pos k) m d h e = (k, refl, omega (arith, ints, h.0.1))
later_year (negsuc k) m d h e =
    let count : up (days_from_civil (negsuc k) m d) + 4_371_953 ≡ down (days_from_civil (negsuc k) m d) + day_count (negsuc k) m d = days_from_civil-day_count (negsuc k) m d in
    let before : day_count (negsuc k) m d < day_count (pos 0) 1 1 = day_count-lt_year (negsuc k) m d (pos 0) 1 1 h (omega arith) (omega (arith, ints)) in
    absurd (omega (arith, ints, before, count, day_count-year_0, e))

-- the year of a day of the year 0 or later
pub year_of : (d : Date) → neg_ℤ (pos 719_528) ≤ℤ epoch_day d → (k : ℕ) × (d.year ≡ pos k) × (k < 10000)
year_of d e = later_year d.year d.month d.day (civil d) e

-- the day of a time, from the milliseconds since the first day
pub day_of_time : (z day : ℤ) (since : ℕ) → HasInstantText z → z +ℤ pos 377_705_116_800_000 ≡ pos since → day +ℤ pos 4_371_587 ≡ pos (since / 86_400_000)
    → (neg_ℤ (pos 719_528) ≤ℤ day) × (z ≡ (day *ℤ pos 86_400_000) +ℤ pos (since % 86_400_000))
day_of_time z day since h e d = (omega (arith, ints, h.0, e, d), omega (arith, ints, e, d))

pub instant_text : (z : ℤ) (since : ℕ) (d : Date) (front behind : List ℕ) → HasInstantText z → z +ℤ pos 377_705_116_800_000 ≡ pos since
    → epoch_day d +ℤ pos 4_371_587 ≡ pos (since / 86_400_000) → front ≡ second_text (unsigned_abs d.year) d.month d.day (since % 86_400_000 / 1000)
    → behind ≡ fraction_text (since % 1000) ++ codes "Z" → IsInstantText z (front ++ behind)
instant_text z since d front behind h e days f b =
    let (late, is_time) = day_of_time z (epoch_day d) since h e days in
    let (k, is, lt) = year_of d late in
    let year : unsigned_abs d.year ≡ k = ap unsigned_abs is in
    let rest : since % 1000 ≡ since % 86_400_000 % 1000 = omega arith in (
      k,
      d.month,
      d.day,
      since % 86_400_000,
      subst (λ (y : ℤ). IsCivilDate y d.month d.day) is (civil d),
      omega arith,
      subst (λ (y : ℤ). z ≡ (days_from_civil y d.month d.day *ℤ pos 86_400_000) +ℤ pos (since % 86_400_000)) is is_time,
      ap (λ (x : List ℕ). x ++ behind) (f ∙ ap (λ (y : ℕ). second_text y d.month d.day (since % 86_400_000 / 1000)) year)
          ∙ ap (λ (x : List ℕ). second_text k d.month d.day (since % 86_400_000 / 1000) ++ x) (b ∙ ap (λ (n : ℕ). fraction_text n ++ codes "Z") rest),
    )

pub no_fraction : (n : ℕ) → n ≡ 0 → codes "Z" ≡ fraction_text n ++ codes "Z"
no_fraction n e = rw e refl

pub dated : (z : ℤ) (text instant : List ℕ) → pos 0 ≤ℤ z → z ≤ℤ pos 253402300799999 → IsInstantText z instant
    → text ≡ codes "{\"$date\":\"" ++ (instant ++ codes "\"}") → IsDateJson Relaxed z text
dated (pos n) text instant low high is e = inl (omega (arith, ints, high), (instant, is, e))
dated (negsuc n) text instant low high is e = absurd (omega (arith, ints, low))

other : (n : ℕ) (a b : List ℕ) → ¬ (n ≡ 0) → cond (nat_eq n 0) a b ≡ b
other n a b h = grind (arith, nat_tests)

pub some_fraction : (n : ℕ) (text : List ℕ) → ¬ (n ≡ 0) → text ≡ 46 ∷ three_digits n → text ++ codes "Z" ≡ fraction_text n ++ codes "Z"
some_fraction n text some e = ap (λ (x : List ℕ). x ++ codes "Z") (e ∙ sym (other n [] (46 ∷ three_digits n) some))
