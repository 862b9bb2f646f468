-- Times in ISO 8601, in the form of RFC 3339: milliseconds since the beginning of 1970, UTC.
use Rattle.std.specs.Prelude.{◌≡◌, ◌⊎◌, ℕ, ℤ, pos, neg_ℤ, ◌+◌, ◌*◌, ◌/◌, ◌%◌, ◌<◌, ◌+ℤ◌, ◌-ℤ◌, ◌*ℤ◌, ◌≤ℤ◌, List, [], ◌∷◌, ◌++◌}
use Rattle.jiff_core.specs.Calendar.{IsCivilDate, days_from_civil}

-- the digit of a number below 10
abbrev pub digit_of : ℕ → ℕ
digit_of n = 48 + n

-- a capital letter, which may be a small one, is in front of rest: RFC 3339 has both for T and Z
abbrev pub BeginsWithLetter : ℕ → List ℕ → List ℕ → Type 0
BeginsWithLetter capital text rest = (text ≡ capital ∷ rest) ⊎ (text ≡ (capital + 32) ∷ rest)

-- a number below 100 in two digits
abbrev pub two_digits : ℕ → List ℕ
two_digits n = digit_of (n / 10) ∷ digit_of (n % 10) ∷ []

-- one below 10000 in four
abbrev pub four_digits : ℕ → List ℕ
four_digits n = two_digits (n / 100) ++ two_digits (n % 100)

-- full-date, as in 2012-12-24
abbrev pub date_text : ℕ → ℕ → ℕ → List ℕ
date_text year month day = four_digits year ++ (45 ∷ (two_digits month ++ (45 ∷ two_digits day)))

-- hours and minutes, as in 05:30
abbrev pub clock : ℕ → ℕ → List ℕ
clock hour minute = two_digits hour ++ (58 ∷ two_digits minute)

-- hours, minutes and seconds, as in 12:15:30
abbrev pub time_text : ℕ → ℕ → ℕ → List ℕ
time_text hour minute second = clock hour minute ++ (58 ∷ two_digits second)

-- the milliseconds of a fraction of a second: no fraction, or a point and one to three digits
abbrev pub WritesFraction : List ℕ → ℕ → Type 0
WritesFraction text millis =
    ((text ≡ []) × (millis ≡ 0))
    ⊎ ((a : ℕ) × (a < 10) × (text ≡ 46 ∷ digit_of a ∷ []) × (millis ≡ a * 100))
    ⊎ ((a b : ℕ) × (a < 10) × (b < 10) × (text ≡ 46 ∷ digit_of a ∷ digit_of b ∷ []) × (millis ≡ a * 100 + b * 10))
    ⊎ ((a b c : ℕ) × (a < 10) × (b < 10) × (c < 10) × (text ≡ 46 ∷ digit_of a ∷ digit_of b ∷ digit_of c ∷ []) × (millis ≡ a * 100 + b * 10 + c))

-- hours and minutes of a zone, as in 05:30 or 0530
abbrev pub IsDistance : List ℕ → ℕ → Type 0
IsDistance text minutes =
    (hour minute : ℕ) × (hour < 24) × (minute < 60) × ((text ≡ clock hour minute) ⊎ (text ≡ two_digits hour ++ two_digits minute)) × (minutes ≡ hour * 60 + minute)

-- a zone: Z in either case, or how many minutes its clocks are ahead of UTC or behind it
abbrev pub WritesZone : List ℕ → ℤ → Type 0
WritesZone text ahead =
    (BeginsWithLetter 90 text [] × (ahead ≡ pos 0))
    ⊎ ((distance : List ℕ) × (minutes : ℕ) × IsDistance distance minutes
    × (((text ≡ 43 ∷ distance) × (ahead ≡ pos minutes)) ⊎ ((text ≡ 45 ∷ distance) × (ahead ≡ neg_ℤ (pos minutes)))))

-- a time of day and a zone, after the T: the milliseconds of the day that the clocks show, and how many minutes they are ahead of UTC
abbrev pub WritesClock : List ℕ → ℕ → ℤ → Type 0
WritesClock text millis ahead =
    (hour minute second part : ℕ) × (fraction zone : List ℕ) × (hour < 24) × (minute < 60) × (second < 60)
    × WritesFraction fraction part × WritesZone zone ahead × (text ≡ time_text hour minute second ++ (fraction ++ zone))
    × (millis ≡ ((hour * 60 + minute) * 60 + second) * 1000 + part)

-- a time: a date, T in either case, and what the clocks of the zone show, less the minutes that they are ahead of UTC
abbrev pub WritesTime : List ℕ → ℤ → Type 0
WritesTime s z =
    (year month day millis : ℕ) × (clocks behind : List ℕ) × (ahead : ℤ)
    × (year < 10000) × IsCivilDate (pos year) month day × WritesClock clocks millis ahead
    × (s ≡ date_text year month day ++ behind) × BeginsWithLetter 84 behind clocks
    × (z ≡ ((days_from_civil (pos year) month day *ℤ pos 86400000) +ℤ pos millis) -ℤ (ahead *ℤ pos 60000))

-- less than a day ahead of UTC or behind it
abbrev pub IsAhead : ℤ → Type 0
IsAhead ahead = (neg_ℤ (pos 1440) ≤ℤ ahead) × (ahead ≤ℤ pos 1440)
