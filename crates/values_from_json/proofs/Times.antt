-- Times from their parts.
use Rattle.std.proofs.Common.{◌≡◌, ◌<◌, ◌+◌, ◌*◌, [], ◌∷◌, ◌++◌, ◌∙◌, ℕ, ℤ, pos, ◌+ℤ◌, ◌-ℤ◌, ◌*ℤ◌, List, ap, refl, inl, inr, negsuc, ◌≤ℤ◌, w64, FitsSigned, arith, to_z, of_z}
use Rattle.std.proofs.lemmas.Int.{ints, to_z-of_z}
use Rattle.jiff_core.specs.Calendar.{IsBetween, IsCivilDate, days_from_civil}
use Rattle.values_from_json.specs.Times.{digit_of, BeginsWithLetter, date_text, time_text, IsDistance, WritesFraction, WritesZone, WritesClock, WritesTime}

-- a text begins with the day of this number
abbrev pub BeginsWithDay : List ℕ → List ℕ → ℤ → Type 0
BeginsWithDay text behind days = (year month day : ℕ) × (year < 10000) × IsCivilDate (pos year) month day
    × (text ≡ date_text year month day ++ behind) × (days ≡ days_from_civil (pos year) month day)

pub written : (text behind clocks : List ℕ) (z days ahead : ℤ) (millis : ℕ) → BeginsWithDay text behind days → BeginsWithLetter 84 behind clocks
    → WritesClock clocks millis ahead → z ≡ ((days *ℤ pos 86400000) +ℤ pos millis) -ℤ (ahead *ℤ pos 60000) → WritesTime text z
written text behind clocks z days ahead millis (year, month, day, few, civil, is, number) t clock e = (
  year,
  month,
  day,
  millis,
  clocks,
  behind,
  ahead,
  few,
  civil,
  clock,
  is,
  t,
  e ∙ ap (λ (d : ℤ). ((d *ℤ pos 86400000) +ℤ pos millis) -ℤ (ahead *ℤ pos 60000)) number,
)

-- a fraction, and what follows it
abbrev pub FractionThen : List ℕ → ℕ → List ℕ → Type 0
FractionThen text millis behind = (fraction : List ℕ) × WritesFraction fraction millis × (text ≡ fraction ++ behind)

pub fraction_1 : {text r0 r1 : List ℕ} {a : ℕ} → text ≡ 46 ∷ r0 → r0 ≡ digit_of a ∷ r1 → a < 10 → FractionThen text (a * 100) r1
fraction_1 {text} {r0} {r1} {a} t r x = (46 ∷ digit_of a ∷ [], inr (inl (a, x, refl, refl)), t ∙ ap (λ (l : List ℕ). 46 ∷ l) r)

pub fraction_2 : {text r0 r1 r2 : List ℕ} {a b : ℕ} → text ≡ 46 ∷ r0 → r0 ≡ digit_of a ∷ r1 → a < 10 → r1 ≡ digit_of b ∷ r2 → b < 10
    → FractionThen text (a * 100 + b * 10) r2
fraction_2 {text} {r0} {r1} {r2} {a} {b} t r x s y = (
  46 ∷ digit_of a ∷ digit_of b ∷ [],
  inr (inr (inl (a, b, x, y, refl, refl))),
  t ∙ ap (λ (l : List ℕ). 46 ∷ l) (r ∙ ap (λ (l : List ℕ). digit_of a ∷ l) s),
)

pub fraction_3 : {text r0 r1 r2 r3 : List ℕ} {a b c : ℕ} → text ≡ 46 ∷ r0 → r0 ≡ digit_of a ∷ r1 → a < 10 → r1 ≡ digit_of b ∷ r2 → b < 10
    → r2 ≡ digit_of c ∷ r3 → c < 10 → FractionThen text (a * 100 + b * 10 + c) r3
fraction_3 {text} {r0} {r1} {r2} {r3} {a} {b} {c} t r x s y u z = (
  46 ∷ digit_of a ∷ digit_of b ∷ digit_of c ∷ [],
  inr (inr (inr (a, b, c, x, y, z, refl, refl))),
  t ∙ ap (λ (l : List ℕ). 46 ∷ l) (r ∙ ap (λ (l : List ℕ). digit_of a ∷ l) (s ∙ ap (λ (l : List ℕ). digit_of b ∷ l) u)),
)

pub ahead_zone : {text behind : List ℕ} {minutes : ℕ} (z : ℤ) → text ≡ 43 ∷ behind → IsDistance behind minutes → z ≡ pos minutes → WritesZone text z
ahead_zone {text} {behind} {minutes} z t d e = inr (behind, minutes, d, inl (t, e))

-- a text begins with a time of day of this many seconds
abbrev pub SecondsThen : List ℕ → List ℕ → ℕ → Type 0
SecondsThen text behind seconds = (hour minute second : ℕ) × (hour < 24) × (minute < 60) × (second < 60)
    × (text ≡ time_text hour minute second ++ behind) × (seconds ≡ (hour * 60 + minute) * 60 + second)

-- a number far from the limits of 64 bits
pub fits : (z : ℤ) → negsuc 9000000000000000000 ≤ℤ z → z ≤ℤ pos 9000000000000000000 → FitsSigned w64 z
fits (pos n) low high = record { sfits = omega (arith, ints, high) }
fits (negsuc n) low high = record { sfits = omega (arith, ints, low) }

-- what is computed of such numbers in 64 bits is exact
plainly : (d m a : ℤ) → negsuc 4371586 ≤ℤ d → d ≤ℤ pos 2932896 → pos 0 ≤ℤ m → m ≤ℤ pos 86399999 → negsuc 1439 ≤ℤ a → a ≤ℤ pos 1440
    → to_z w64 (of_z w64 (to_z w64 (of_z w64 (to_z w64 (of_z w64 (d *ℤ pos 86400000)) +ℤ m)) -ℤ to_z w64 (of_z w64 (a *ℤ pos 60000))))
    ≡ ((d *ℤ pos 86400000) +ℤ m) -ℤ (a *ℤ pos 60000)
plainly d m a d0 d1 m0 m1 a0 a1 =
    let p = to_z-of_z w64 (d *ℤ pos 86400000) (fits _ (omega (arith, ints, d0, d1)) (omega (arith, ints, d0, d1))) in
    let q = to_z-of_z w64 (a *ℤ pos 60000) (fits _ (omega (arith, ints, a0, a1)) (omega (arith, ints, a0, a1))) in
    let s = to_z-of_z w64 ((d *ℤ pos 86400000) +ℤ m) (fits _ (omega (arith, ints, d0, d1, m0, m1)) (omega (arith, ints, d0, d1, m0, m1))) in
    let t = to_z-of_z w64 (((d *ℤ pos 86400000) +ℤ m) -ℤ (a *ℤ pos 60000)) (fits _ (omega (arith, ints, d0, d1, m0, m1, a0, a1)) (omega (arith, ints, d0, d1, m0, m1, a0, a1))) in
    simp (p, q, s, t) refl

pub settled : (x y z d m a : ℤ) → x ≡ d → y ≡ m → z ≡ a → IsBetween (negsuc 4371586) (pos 2932896) d → IsBetween (pos 0) (pos 86399999) m
    → IsBetween (negsuc 1439) (pos 1440) a
    → to_z w64 (of_z w64 (to_z w64 (of_z w64 (to_z w64 (of_z w64 (x *ℤ pos 86400000)) +ℤ y)) -ℤ to_z w64 (of_z w64 (z *ℤ pos 60000))))
    ≡ ((d *ℤ pos 86400000) +ℤ m) -ℤ (a *ℤ pos 60000)
settled x y z d m a p q r day part zone = rw p (rw q (rw r (plainly d m a day.0 day.1 part.0 part.1 zone.0 zone.1)))
