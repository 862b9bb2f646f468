-- The text of a coefficient and an exponent writes exactly these.
use Rattle.std.proofs.Common.{◌≡◌, ◌+◌, ◌-◌, ◌^◌, ◌<◌, ◌≤◌, ◌||◌, ◌==◌, nat_lt, cond, ℕ, zero, suc, Bool, true, false, List, [], ◌∷◌, ◌++◌, length, length-append, get_or, take, drop, replicate, codes, decimal, inl, inr, refl, sym, ap, ◌∙◌, arith, append-nil}
use Rattle.std.proofs.lemmas.Bool.{cases_Bool, ltb-true, ltb-false, lt-ltb, eqb-true, and_parts, leb-true}
use Rattle.std.proofs.lemmas.Fmt.{decimal_is_IsNumeral_wide}
use Rattle.std.proofs.lemmas.List.{take-append-drop, length-take-le, length-drop, length-replicate}
use Rattle.std.specs.Char.{digit_value, is_ascii_digit}
use Rattle.std.specs.Int.{IsInRange}
use Rattle.std.specs.Float.Numeral.{scan_numeral}
use Rattle.std.specs.Str.Parse.{AllDigits, digits_value}
use Rattle.fast_float.specs.Text.{Parts, digits_of, has_digits, scan, tens_down, tens_up, text_of}
use Rattle.fast_float.proofs.Writing.{scan-text_of}
use Rattle.bson_to_json.specs.Decimals.{behind_point, exponent_text, finite_text, scientific_text}
use Rattle.bson_from_json.specs.DecimalTexts.{WritesNumber}
use Rattle.json_round_trip.proofs.leaves.Plain.{are_plain, plain_both, plain_digits}
use Rattle.json_round_trip.proofs.leaves.Scientific.{parts_of, scan_scientific, scientific}

or_left : (a b : Bool) → (a || b) ≡ false → a ≡ false
or_left false b t = refl
or_left true b t = t

-- the text writes a number whose own exponent, stored plus 6176, is this one
pub record Written (s : List ℕ) (d e : ℕ) : Type 0 where
  pub up : ℕ
  pub down : ℕ
  pub writes : WritesNumber s d up down
  pub level : up + 6176 ≡ e + down
  pub begins : IsInRange 48 57 (get_or s 0 0)

digit_range : (c : ℕ) → is_ascii_digit c ≡ true → IsInRange 48 57 c
digit_range c is = let both = and_parts _ _ is in (leb-true 48 c both.0, leb-true c 57 both.1)

first_is_digit : (s : List ℕ) → 0 < length (scan s).whole → IsInRange 48 57 (get_or s 0 0)
unfolding scan_numeral
first_is_digit [] h = absurd (omega arith)
first_is_digit (c ∷ cs) h = elim (cases_Bool (is_ascii_digit c)) [ inl e ↦ digit_range c e | inr e ↦ absurd (omega (arith, rw e at h)) ]

of_parts : (s : List ℕ) (d e : ℕ) (p : Parts) → scan s ≡ p → 0 < length p.whole → p.len ≡ length s → d ≡ digits_of p → tens_up p + 6176 ≡ e + tens_down p → Written s d e
of_parts s d e p is some len digits level = record {
  up = tens_up p;
  down = tens_down p;
  writes = record {
    some = ap has_digits is ∙ lt-ltb 0 (length p.whole + length p.fraction) (omega arith);
    whole = ap (λ (q : Parts). q.len) is ∙ len;
    digits = digits ∙ ap digits_of (sym is);
    tens_above = ap tens_up (sym is);
    tens_below = ap tens_down (sym is);
  };
  level = level;
  begins = first_is_digit s (rw is some);
}

module _ (d : ℕ) (ds : List ℕ) (e : ℕ) (first : digit_value d < 10) (all : AllDigits 10 ds) (few : length ds < 34) (within : e ≤ 12287) where
  with_exponent : (negative : Bool) (n : ℕ) → n < 20000 → cond negative 0 n + 6176 ≡ e + (length ds + cond negative n 0)
      → Written (scientific d ds negative (decimal n)) (digits_value 10 (d ∷ ds)) e
  with_exponent negative n small level =
      let is = decimal_is_IsNumeral_wide n (omega arith) in
      of_parts (scientific d ds negative (decimal n)) (digits_value 10 (d ∷ ds)) e (parts_of d ds negative (decimal n))
      (scan_scientific d ds negative (decimal n) first all is.0.1 is.0.0) (omega arith) refl refl
      (rw is.1 level)

  scientific_writes : Written (scientific_text (d ∷ ds) e) (digits_value 10 (d ∷ ds)) e
  scientific_writes =
      elim (cases_Bool (nat_lt 6176 (e + suc (length ds)))) [
        | inl over ↦ let lt = ltb-true 6176 _ over in rw over (with_exponent false (e + suc (length ds) - 6177) (omega arith) (omega arith))
        | inr under ↦ let le = ltb-false 6176 _ under in rw under (with_exponent true (6177 - (e + suc (length ds))) (omega arith) (omega arith))
      ]

take_digits : (n : ℕ) (ds : List ℕ) → AllDigits 10 ds → AllDigits 10 (take n ds)
take_digits zero ds h = tt
take_digits (suc n) [] h = tt
take_digits (suc n) (d ∷ ds) h = (h.0, take_digits n ds h.1)

drop_digits : (n : ℕ) (ds : List ℕ) → AllDigits 10 ds → AllDigits 10 (drop n ds)
drop_digits zero ds h = h
drop_digits (suc n) [] h = tt
drop_digits (suc n) (d ∷ ds) h = drop_digits n ds h.1

zeros_before : (n : ℕ) (ds : List ℕ) → AllDigits 10 ds → AllDigits 10 (replicate n 48 ++ ds)
zeros_before zero ds h = h
zeros_before (suc n) ds h = (omega arith, zeros_before n ds h)

zeros_add : (n : ℕ) (ds : List ℕ) → digits_value 10 (replicate n 48 ++ ds) ≡ digits_value 10 ds
zeros_add zero ds = refl
zeros_add (suc n) ds = zeros_add n ds

-- digits, a point and digits
abbrev pointed : List ℕ → List ℕ → Parts
pointed whole fraction = record { whole = whole; point = true; fraction = fraction; exponent_negative = false; exponent = []; len = length (whole ++ 46 ∷ fraction) }

pointed_writes : (whole fraction : List ℕ) (d e : ℕ) → AllDigits 10 whole → AllDigits 10 fraction → 0 < length whole → d ≡ digits_value 10 (whole ++ fraction)
    → 6176 ≡ e + length fraction → Written (whole ++ 46 ∷ fraction) d e
pointed_writes whole fraction d e w f some is level =
    let p = pointed whole fraction in
    let same : text_of p ≡ whole ++ 46 ∷ fraction = ap (λ (l : List ℕ). whole ++ 46 ∷ l) (append-nil fraction) in
    let scanned = scan-text_of p (record {
      whole_digits = w;
      fraction_digits = f;
      exponent_digits = tt;
      no_point = λ x. cc;
      no_exponent = λ x. refl;
      len_is = ap length (sym same);
    }) in
    of_parts (whole ++ 46 ∷ fraction) d e p (rw same at scanned) some refl is (omega arith)

whole_writes : (ds : List ℕ) (d e : ℕ) → AllDigits 10 ds → 0 < length ds → d ≡ digits_value 10 ds → e ≡ 6176 → Written ds d e
whole_writes ds d e w some is level =
    let p : Parts = record { whole = ds; point = false; fraction = []; exponent_negative = false; exponent = []; len = length ds } in
    let same : text_of p ≡ ds = append-nil ds in
    let scanned = scan-text_of p (record {
      whole_digits = w;
      fraction_digits = tt;
      exponent_digits = tt;
      no_point = λ x. refl;
      no_exponent = λ x. refl;
      len_is = ap length (sym same);
    }) in
    of_parts ds d e p (rw same at scanned) some refl (is ∙ ap (digits_value 10) (sym (append-nil ds))) (omega arith)

-- digits with a point before the last of them, or before zeros and all of them
abbrev with_point : List ℕ → ℕ → Bool → List ℕ
with_point ds places within = cond within (take (length ds - places) ds ++ (46 ∷ drop (length ds - places) ds)) (codes "0." ++ (replicate (places - length ds) 48 ++ ds))

module _ (ds : List ℕ) (e places : ℕ) (all : AllDigits 10 ds) (some : 0 < length ds) (level : e + places ≡ 6176) where
  within_digits : (b : Bool) → nat_lt places (length ds) ≡ b → Written (with_point ds places b) (digits_value 10 ds) e
  within_digits true t =
      let lt = ltb-true places (length ds) t in
      let n = length ds - places in
      pointed_writes (take n ds) (drop n ds) _ e (take_digits n ds all) (drop_digits n ds all) (omega (arith, length-take-le n ds (omega arith)))
      (ap (digits_value 10) (sym (take-append-drop n ds))) (omega (arith, length-drop n ds, level))
  within_digits false t =
      let le = ltb-false places (length ds) t in
      let n = places - length ds in
      pointed_writes (48 ∷ []) (replicate n 48 ++ ds) _ e (omega arith, tt) (zeros_before n ds all) (omega arith) (sym (zeros_add n ds))
      (omega (arith, length-append (replicate n 48) ds, length-replicate {A = ℕ} n 48, level))

  plain_writes : (b : Bool) → (places == 0) ≡ b → Written (cond b ds (with_point ds places (nat_lt places (length ds)))) (digits_value 10 ds) e
  plain_writes true t = whole_writes ds _ e all some refl (omega (arith, eqb-true places 0 t, level))
  plain_writes false t = within_digits (nat_lt places (length ds)) refl

scientific_of : (ds : List ℕ) (e : ℕ) → AllDigits 10 ds → 0 < length ds → length ds ≤ 34 → e ≤ 12287 → Written (scientific_text ds e) (digits_value 10 ds) e
scientific_of [] e all some few within = absurd (omega arith)
scientific_of (d ∷ ds) e all some few within = scientific_writes d ds e all.0 all.1 (omega arith) within

pub digits_write : (ds : List ℕ) (e : ℕ) → AllDigits 10 ds → 0 < length ds → length ds ≤ 34 → e ≤ 12287 → Written (finite_text ds e) (digits_value 10 ds) e
digits_write ds e all some few within =
    let far : Bool = nat_lt 6176 e || nat_lt (e + length ds + 5) 6176 in
    elim (cases_Bool far) [
      | inl t ↦ rw t (scientific_of ds e all some few within)
      | inr t ↦ rw t (plain_writes ds e (6176 - e) all some (let n = ltb-false 6176 e (or_left _ _ t) in omega arith) (6176 - e == 0) refl)
    ]

-- it is in a JSON string as it is

behind_plain : (ds : List ℕ) → AllDigits 10 ds → are_plain (behind_point ds) ≡ true
behind_plain [] h = refl
behind_plain (d ∷ ds) h = plain_digits (d ∷ ds) h

decimal_plain : (n : ℕ) → n < 10 ^ 64 → are_plain (decimal n) ≡ true
decimal_plain n h = plain_digits (decimal n) (decimal_is_IsNumeral_wide n h).0.1

exponent_plain : (reach : ℕ) → reach < 20000 → are_plain (exponent_text reach) ≡ true
exponent_plain reach small =
    elim (cases_Bool (nat_lt 6176 reach)) [
      | inl over ↦ rw over (decimal_plain (reach - 6177) (omega arith))
      | inr under ↦ rw under (decimal_plain (6177 - reach) (omega arith))
    ]

scientific_plain : (ds : List ℕ) (e : ℕ) → AllDigits 10 ds → length ds ≤ 34 → e ≤ 12287 → are_plain (scientific_text ds e) ≡ true
scientific_plain ds e all few within =
    plain_both (take 1 ds) _ (plain_digits _ (take_digits 1 ds all))
    (plain_both (behind_point (drop 1 ds)) _ (behind_plain (drop 1 ds) (drop_digits 1 ds all)) (exponent_plain (e + length ds) (omega arith)))

pointed_plain : (ds : List ℕ) (places : ℕ) (a b : Bool) → AllDigits 10 ds → are_plain (cond a ds (with_point ds places b)) ≡ true
pointed_plain ds places true b all = plain_digits ds all
pointed_plain ds places false true all =
    let n = length ds - places in
    plain_both (take n ds) (46 ∷ drop n ds) (plain_digits (take n ds) (take_digits n ds all)) (plain_digits (drop n ds) (drop_digits n ds all))
pointed_plain ds places false false all = plain_digits _ (zeros_before (places - length ds) ds all)

pub finite_plain : (ds : List ℕ) (e : ℕ) → AllDigits 10 ds → length ds ≤ 34 → e ≤ 12287 → are_plain (finite_text ds e) ≡ true
finite_plain ds e all few within =
    let far : Bool = nat_lt 6176 e || nat_lt (e + length ds + 5) 6176 in
    elim (cases_Bool far) [
      | inl t ↦ rw t (scientific_plain ds e all few within)
      | inr t ↦ rw t (pointed_plain ds (6176 - e) (6176 - e == 0) (nat_lt (6176 - e) (length ds)) all)
    ]
