-- A digit, perhaps a point and digits, and an exponent with its sign is read as these parts.
use Rattle.std.proofs.Common.{◌≡◌, ◌+◌, ◌-◌, ◌<◌, ◌||◌, ◌==◌, ℕ, Bool, true, false, cond, List, [], ◌∷◌, ◌++◌, length, length-append, take, drop, get_or, slice_range, refl, sym, ap, ◌∙◌, arith, append-nil}
use Rattle.std.proofs.lemmas.Bool.{le-leb, and_from}
use Rattle.std.proofs.lemmas.List.{get_or-append-add}
use Rattle.std.proofs.Math.Seq.{drop-append-add}
use Rattle.std.proofs.lemmas.Str.Parse.{digit_from_value}
use Rattle.std.specs.Char.{digit_value, is_ascii_digit}
use Rattle.std.specs.Str.Parse.{AllDigits}
use Rattle.std.specs.Float.Numeral.{digits_len, scan_numeral}
use Rattle.fast_float.specs.Text.{Parts, scan, digits_end, exponent_start, has_exponent}
use Rattle.bson_to_json.specs.Decimals.{behind_point}

is_digit : (d : ℕ) → digit_value d < 10 → is_ascii_digit d ≡ true
is_digit d h = let r = digit_from_value d h in and_from _ _ (le-leb 48 d r.0) (le-leb d 57 r.1)

-- a run of digits ends where no digit follows
run_len : (ds r : List ℕ) → AllDigits 10 ds → digits_len r ≡ 0 → digits_len (ds ++ r) ≡ length ds
run_len [] r h none = none
run_len (d ∷ ds) r h none = rw (is_digit d h.0) (omega (arith, run_len ds r h.1 none))

front_of : (ds r : List ℕ) → take (length ds) (ds ++ r) ≡ ds
front_of [] r = refl
front_of (d ∷ ds) r = ap (λ (l : List ℕ). d ∷ l) (front_of ds r)

whole_run : (ds : List ℕ) → take (length ds) ds ≡ ds
whole_run ds = ap (take (length ds)) (sym (append-nil ds)) ∙ front_of ds []

-- the byte of a sign
abbrev pub sign_byte : Bool → ℕ
sign_byte true = 45
sign_byte false = 43

abbrev tail_of : Bool → List ℕ → List ℕ
tail_of negative ds = 69 ∷ sign_byte negative ∷ ds

abbrev pub point_of : List ℕ → Bool
point_of [] = false
point_of (d ∷ ds) = true

abbrev pub scientific : ℕ → List ℕ → Bool → List ℕ → List ℕ
scientific d fraction negative ds = d ∷ (behind_point fraction ++ tail_of negative ds)

abbrev pub parts_of : ℕ → List ℕ → Bool → List ℕ → Parts
parts_of d fraction negative ds = record {
  whole = d ∷ [];
  point = point_of fraction;
  fraction = fraction;
  exponent_negative = negative;
  exponent = ds;
  len = length (scientific d fraction negative ds);
}

-- how the front and the back of a text are cut
abbrev Front : List ℕ → ℕ → ℕ → List ℕ → Bool → List ℕ → Type 0
Front bs a b whole point fraction =
    (digits_end bs 0 ≡ a) × (slice_range bs 0 a ≡ whole) × ((get_or bs a 0 == 46) ≡ point) × (cond point (digits_end bs (a + 1)) a ≡ b)
    × (cond point (slice_range bs (a + 1) b) [] ≡ fraction)

abbrev Back : List ℕ → ℕ → Bool → List ℕ → Type 0
Back bs b negative ds =
    (has_exponent bs b ≡ true) × ((get_or bs (b + 1) 0 == 45) ≡ negative) × (slice_range bs (exponent_start bs b) (digits_end bs (exponent_start bs b)) ≡ ds)
    × (digits_end bs (exponent_start bs b) ≡ length bs)

scan_by : (bs whole fraction ds : List ℕ) (point negative : Bool) (a b : ℕ) → Front bs a b whole point fraction → Back bs b negative ds
    → scan bs ≡ record { whole = whole; point = point; fraction = fraction; exponent_negative = negative; exponent = ds; len = length bs }
unfolding scan_numeral
scan_by bs whole fraction ds point negative a b f e =
    rw (f.0, f.2, f.3, e.0) (λ i. record { whole = f.1 i; point = point; fraction = f.4 i; exponent_negative = e.1 i; exponent = e.2 i; len = e.3 i })

run_alone : (ds : List ℕ) → AllDigits 10 ds → digits_len ds ≡ length ds
run_alone ds h = ap digits_len (sym (append-nil ds)) ∙ run_len ds [] h refl

has_sign : (negative : Bool) → ((sign_byte negative == 45) || (sign_byte negative == 43)) ≡ true
has_sign true = refl
has_sign false = refl

is_minus : (negative : Bool) → (sign_byte negative == 45) ≡ negative
is_minus true = refl
is_minus false = refl

back : (front : List ℕ) (b : ℕ) (negative : Bool) (x : ℕ) (ds : List ℕ) → length front ≡ b → AllDigits 10 (x ∷ ds) → Back (front ++ tail_of negative (x ∷ ds)) b negative (x ∷ ds)
back front b negative x ds at all =
    let t : List ℕ = tail_of negative (x ∷ ds) in
    let bs : List ℕ = front ++ t in
    let byte_0 : get_or bs b 0 ≡ 69 = ap (λ (k : ℕ). get_or bs k 0) (omega (arith, at)) ∙ get_or-append-add front t 0 0 in
    let byte_1 : get_or bs (b + 1) 0 ≡ sign_byte negative = ap (λ (k : ℕ). get_or bs (k + 1) 0) (sym at) ∙ get_or-append-add front t 1 0 in
    let byte_2 : get_or bs (b + 2) 0 ≡ x = ap (λ (k : ℕ). get_or bs (k + 2) 0) (sym at) ∙ get_or-append-add front t 2 0 in
    let left : drop (b + 2) bs ≡ x ∷ ds = ap (λ (k : ℕ). drop (k + 2) bs) (sym at) ∙ drop-append-add front t 2 in
    let start : exponent_start bs b ≡ b + 2 = rw (byte_1, has_sign negative) refl in
    let end : digits_end bs (b + 2) ≡ b + 2 + length (x ∷ ds) = ap (λ (l : List ℕ). b + 2 + digits_len l) left ∙ ap (λ (k : ℕ). b + 2 + k) (run_alone (x ∷ ds) all) in
    let count : b + 2 + length (x ∷ ds) - (b + 2) ≡ length (x ∷ ds) = omega arith in (
      rw (byte_0, start, byte_2) (is_digit x all.0),
      rw byte_1 (is_minus negative),
      rw (start, end, left, count) (whole_run (x ∷ ds)),
      rw (start, end) (omega (arith, length-append front t, at)),
    )

front_alone : (d : ℕ) (negative : Bool) (ds : List ℕ) → digit_value d < 10 → Front (d ∷ tail_of negative ds) 1 1 (d ∷ []) false []
front_alone d negative ds h =
    let one : digits_end (d ∷ tail_of negative ds) 0 ≡ 1 = rw (is_digit d h) refl in
    (one, refl, refl, refl, refl)

front_pointed : (d x : ℕ) (fraction : List ℕ) (negative : Bool) (ds : List ℕ) → digit_value d < 10 → AllDigits 10 (x ∷ fraction)
    → Front (d ∷ 46 ∷ x ∷ (fraction ++ tail_of negative ds)) 1 (2 + length (x ∷ fraction)) (d ∷ []) true (x ∷ fraction)
front_pointed d x fraction negative ds h all =
    let bs : List ℕ = d ∷ 46 ∷ x ∷ (fraction ++ tail_of negative ds) in
    let one : digits_end bs 0 ≡ 1 = rw (is_digit d h) refl in
    let run : digits_end bs 2 ≡ 2 + length (x ∷ fraction) = ap (λ (k : ℕ). 2 + k) (run_len (x ∷ fraction) (tail_of negative ds) all refl) in
    let count : 2 + length (x ∷ fraction) - 2 ≡ length (x ∷ fraction) = omega arith in
    (one, refl, refl, run, ap (λ (k : ℕ). take k (x ∷ (fraction ++ tail_of negative ds))) count ∙ front_of (x ∷ fraction) (tail_of negative ds))

scan_at : (d : ℕ) (fraction : List ℕ) (negative : Bool) (x : ℕ) (ds : List ℕ) → digit_value d < 10 → AllDigits 10 fraction → AllDigits 10 (x ∷ ds)
    → scan (scientific d fraction negative (x ∷ ds)) ≡ parts_of d fraction negative (x ∷ ds)
scan_at d [] negative x ds h f all = scan_by _ (d ∷ []) [] (x ∷ ds) false negative 1 1 (front_alone d negative (x ∷ ds) h) (back (d ∷ []) 1 negative x ds refl all)
scan_at d (y ∷ ys) negative x ds h f all =
    scan_by _ (d ∷ []) (y ∷ ys) (x ∷ ds) true negative 1 (2 + length (y ∷ ys)) (front_pointed d y ys negative (x ∷ ds) h f)
    (back (d ∷ 46 ∷ y ∷ ys) (2 + length (y ∷ ys)) negative x ds (omega arith) all)

pub scan_scientific : (d : ℕ) (fraction : List ℕ) (negative : Bool) (ds : List ℕ) → digit_value d < 10 → AllDigits 10 fraction → AllDigits 10 ds → 0 < length ds
    → scan (scientific d fraction negative ds) ≡ parts_of d fraction negative ds
scan_scientific d fraction negative [] h f all some = absurd (omega arith)
scan_scientific d fraction negative (x ∷ ds) h f all some = scan_at d fraction negative x ds h f all
