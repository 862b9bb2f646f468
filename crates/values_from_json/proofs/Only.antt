-- Texts that write no time.
use Rattle.std.proofs.Common.{◌≡◌, ◌<◌, [], ◌∷◌, ◌++◌, ◌∙◌, ℕ, ℤ, pos, List, get_or, inl, inr, sym, ap, subst, arith}
use Rattle.jiff_core.specs.Calendar.{IsCivilDate}
use Rattle.jiff_core.proofs.CalendarLemmas.{days_in_month_bounds}
use Rattle.values_from_json.specs.Times.{BeginsWithLetter, date_text, time_text, IsDistance, WritesClock, WritesFraction, WritesTime, WritesZone}

-- a month and a day have two digits
pub month_digits : (year : ℤ) (month day : ℕ) → IsCivilDate year month day → month < 100
month_digits year month day civil = omega (arith, civil.1)

pub day_digits : (year : ℤ) (month day : ℕ) → IsCivilDate year month day → day < 100
day_digits year month day civil = omega (arith, civil.2, days_in_month_bounds year month)

first : (a b : ℕ) (xs ys s : List ℕ) → s ≡ a ∷ xs → s ≡ b ∷ ys → a ≡ b
first a b xs ys s e f = ap (λ (l : List ℕ). get_or l 0 0) (sym e ∙ f)

behind_first : (a : ℕ) (xs ys s : List ℕ) → s ≡ a ∷ xs → s ≡ a ∷ ys → ys ≡ xs
behind_first a xs ys s e f = cc

module _ (text behind : List ℕ) (none : (minutes : ℕ) → IsDistance behind minutes → ⊥) where
  pub no_zone_ahead : text ≡ 43 ∷ behind → (ahead : ℤ) → WritesZone text ahead → ⊥
  no_zone_ahead t ahead (inl (inl e, is)) = omega (arith, first 43 90 behind [] text t e)
  no_zone_ahead t ahead (inl (inr e, is)) = omega (arith, first 43 122 behind [] text t e)
  no_zone_ahead t ahead (inr (d, minutes, far, inl (e, is))) = none minutes (subst (λ (x : List ℕ). IsDistance x minutes) (behind_first 43 behind d text t e) far)
  no_zone_ahead t ahead (inr (d, minutes, far, inr (e, is))) = omega (arith, first 43 45 behind d text t e)

  pub no_zone_behind : text ≡ 45 ∷ behind → (ahead : ℤ) → WritesZone text ahead → ⊥
  no_zone_behind t ahead (inl (inl e, is)) = omega (arith, first 45 90 behind [] text t e)
  no_zone_behind t ahead (inl (inr e, is)) = omega (arith, first 45 122 behind [] text t e)
  no_zone_behind t ahead (inr (d, minutes, far, inl (e, is))) = omega (arith, first 45 43 behind d text t e)
  no_zone_behind t ahead (inr (d, minutes, far, inr (e, is))) = none minutes (subst (λ (x : List ℕ). IsDistance x minutes) (behind_first 45 behind d text t e) far)

-- no sign is in front, and no letter alone
pub no_zone_at_all : {text : List ℕ} → ((rest : List ℕ) → text ≡ 43 ∷ rest → ⊥) → ((rest : List ℕ) → text ≡ 45 ∷ rest → ⊥) → (BeginsWithLetter 90 text [] → ⊥)
    → (ahead : ℤ) → WritesZone text ahead → ⊥
no_zone_at_all plus minus letter ahead (inl (l, is)) = letter l
no_zone_at_all plus minus letter ahead (inr (d, minutes, far, inl (e, is))) = plus d e
no_zone_at_all plus minus letter ahead (inr (d, minutes, far, inr (e, is))) = minus d e

-- a time of day ends only here
abbrev pub EndsSeconds : List ℕ → List ℕ → Type 0
EndsSeconds text behind = (hour minute second : ℕ) (rest : List ℕ) → hour < 24 → minute < 60 → second < 60 → text ≡ time_text hour minute second ++ rest → rest ≡ behind

pub no_fraction : (text behind : List ℕ) → EndsSeconds text behind
    → ((part : ℕ) (fraction rest : List ℕ) (ahead : ℤ) → WritesFraction fraction part → WritesZone rest ahead → behind ≡ fraction ++ rest → ⊥)
    → (millis : ℕ) (ahead : ℤ) → WritesClock text millis ahead → ⊥
no_fraction text behind only none millis ahead (hour, minute, second, part, fraction, zone, h, m, s, f, z, e, is) =
    none part fraction zone ahead f z (sym (only hour minute second (fraction ++ zone) h m s e))

pub no_zone : (text behind last : List ℕ) → EndsSeconds text behind
    → ((part : ℕ) (fraction rest : List ℕ) (ahead : ℤ) → WritesFraction fraction part → WritesZone rest ahead → behind ≡ fraction ++ rest → rest ≡ last)
    → ((ahead : ℤ) → WritesZone last ahead → ⊥) → (millis : ℕ) (ahead : ℤ) → WritesClock text millis ahead → ⊥
no_zone text behind last only ends none millis ahead (hour, minute, second, part, fraction, zone, h, m, s, f, z, e, is) =
    none ahead (subst (λ (x : List ℕ). WritesZone x ahead) (ends part fraction zone ahead f z (sym (only hour minute second (fraction ++ zone) h m s e))) z)

pub no_clock : (text behind clocks : List ℕ)
    → ((year month day : ℕ) (rest : List ℕ) → year < 10000 → IsCivilDate (pos year) month day → text ≡ date_text year month day ++ rest → rest ≡ behind)
    → ((rest : List ℕ) → BeginsWithLetter 84 behind rest → rest ≡ clocks) → ((millis : ℕ) (ahead : ℤ) → WritesClock clocks millis ahead → ⊥)
    → (z : ℤ) → WritesTime text z → ⊥
no_clock text behind clocks day ends none z (y, m, d, millis, c, after, ahead, few, civil, w, e, t, is) =
    let letter = subst (λ (x : List ℕ). BeginsWithLetter 84 x c) (day y m d after few civil e) t in
    none millis ahead (subst (λ (x : List ℕ). WritesClock x millis ahead) (ends c letter) w)

-- no T is after the date
pub no_letter : (text behind : List ℕ)
    → ((year month day : ℕ) (rest : List ℕ) → year < 10000 → IsCivilDate (pos year) month day → text ≡ date_text year month day ++ rest → rest ≡ behind)
    → ((rest : List ℕ) → BeginsWithLetter 84 behind rest → ⊥) → (z : ℤ) → WritesTime text z → ⊥
no_letter text behind day none z (y, m, d, millis, c, after, ahead, few, civil, w, e, t, is) =
    none c (subst (λ (x : List ℕ). BeginsWithLetter 84 x c) (day y m d after few civil e) t)
