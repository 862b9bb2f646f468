-- Times in Extended JSON: milliseconds since the beginning of 1970, UTC.
use Rattle.std.specs.Prelude.{◌≡◌, ◌⊎◌, ℕ, ℤ, pos, negsuc, neg_ℤ, ◌+ℤ◌, ◌*ℤ◌, ◌≤ℤ◌, ◌+◌, ◌/◌, ◌%◌, ◌<◌, ◌≤◌, ◌==◌, List, [], ◌∷◌, ◌++◌, codes, if◌then◌else◌}
use Rattle.std.specs.Fmt.{signed_decimal}
use Rattle.jiff_core.specs.Calendar.{IsCivilDate, days_from_civil}
use Rattle.bson_to_json.specs.declared.style.Format.{Format}
use Rattle.bson_to_json.specs.declared.style.Format.TheVariants.{Relaxed, Canonical}

-- the last digit of a number
abbrev pub last_digit : ℕ → ℕ
last_digit n = 48 + n % 10

-- a number below 100 as two digits
abbrev pub two_digits : ℕ → List ℕ
two_digits n = last_digit (n / 10) ∷ last_digit n ∷ []

-- a number below 1,000 as three digits
abbrev pub three_digits : ℕ → List ℕ
three_digits n = last_digit (n / 100) ∷ two_digits n

-- a number below 10,000 as four digits
abbrev pub four_digits : ℕ → List ℕ
four_digits n = last_digit (n / 1000) ∷ three_digits n

-- a day and a second of that day, as in 2012-12-24T12:15:30
abbrev pub second_text : ℕ → ℕ → ℕ → ℕ → List ℕ
second_text year month day second =
    four_digits year ++ (45 ∷ two_digits month ++ (45 ∷ two_digits day ++ (84 ∷ two_digits (second / 3600) ++ (58 ∷ two_digits (second / 60 % 60) ++ (58 ∷ two_digits (second % 60))))))

-- the milliseconds after a second, unless they are 0
abbrev pub fraction_text : ℕ → List ℕ
fraction_text millis = if millis == 0 then [] else 46 ∷ three_digits millis

-- a time of the years 0 to 9999 in ISO 8601, in UTC: a day of the calendar, and a millisecond of that day
abbrev pub IsInstantText : ℤ → List ℕ → Type 0
IsInstantText z text =
    (year month day millis : ℕ) × IsCivilDate (pos year) month day × (millis < 86400000)
    × (z ≡ (days_from_civil (pos year) month day *ℤ pos 86400000) +ℤ pos millis)
    × (text ≡ second_text year month day (millis / 1000) ++ (fraction_text (millis % 1000) ++ codes "Z"))

-- the first millisecond of the year 0
abbrev pub first_millis : ℤ
first_millis = neg_ℤ (pos 62167219200000)

-- the last millisecond of the year 9999
abbrev pub last_millis : ℕ
last_millis = 253402300799999

-- a time of the years 0 to 9999
abbrev pub HasInstantText : ℤ → Type 0
HasInstantText z = (first_millis ≤ℤ z) × (z ≤ℤ pos last_millis)

-- a time as a number, in an object that gives its kind
abbrev pub IsWrappedDate : ℤ → List ℕ → Type 0
IsWrappedDate millis text = text ≡ codes "{\"$date\":{\"$numberLong\":\"" ++ (signed_decimal millis ++ codes "\"}}")

-- a time as text
abbrev pub IsDatedInstant : ℕ → List ℕ → Type 0
IsDatedInstant millis text = (instant : List ℕ) × IsInstantText (pos millis) instant × (text ≡ codes "{\"$date\":\"" ++ (instant ++ codes "\"}"))

-- a time: in the relaxed format one of the years 1970 to 9999 is text; every other is a number
abbrev pub IsDateJson : Format → ℤ → List ℕ → Type 0
IsDateJson Relaxed (pos millis) text = ((millis ≤ last_millis) × IsDatedInstant millis text) ⊎ ((last_millis < millis) × IsWrappedDate (pos millis) text)
IsDateJson Relaxed (negsuc n) text = IsWrappedDate (negsuc n) text
IsDateJson Canonical millis text = IsWrappedDate millis text
