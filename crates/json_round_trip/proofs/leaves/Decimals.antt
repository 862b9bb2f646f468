-- The text of a canonical Decimal128 is read as its bytes, and as no others.
use Rattle.std.proofs.Common.{◌≡◌, ◌+◌, ◌*◌, ◌^◌, ◌<◌, ◌≤◌, ℕ, Bool, true, false, List, [], ◌∷◌, ◌++◌, get_or, map, codes, decimal, inl, inr, refl, sym, ap, ◌∙◌, subst, arith}
use Rattle.std.proofs.lemmas.Bool.{false≢true, lt-ltb, ne_eqb}
use Rattle.std.proofs.lemmas.Fmt.{decimal_is_IsNumeral_wide, length-decimal-le_wide}
use Rattle.std.proofs.Math.Nat.{eq_of_mul-eq-mul_right, one-le-pow}
use Rattle.std.specs.Char.{to_ascii_lowercase}
use Rattle.std.specs.Float.Numeral.{scan_numeral}
use Rattle.std.specs.Float.Parse.{without_sign}
use Rattle.std.specs.Fmt.{sign_text}
use Rattle.std.specs.Int.{w128, to_le_bytes, IsInRange}
use Rattle.std.specs.Str.Parse.{starts_with_minus}
use Rattle.fast_float.specs.Text.{has_digits, scan}
use Rattle.bson_to_json.specs.Decimals.{decimal128_text, finite_text}
use Rattle.bson_from_json.specs.DecimalTexts.{IsExactly, IsPreferred, IsWord, WritesBits, WritesDecimal, WritesFinite, distance, sign_bit}
use Rattle.json_round_trip.specs.Returning.{DecimalComesBack, DecimalBitsComeBack}
use Rattle.json_round_trip.proofs.leaves.Halves.{finite_bits, finite_text_is, infinity_text_is, nan_text_is}
use Rattle.json_round_trip.proofs.leaves.Numerals.{Written, digits_write, finite_plain}
use Rattle.json_round_trip.proofs.leaves.Plain.{are_plain, plain_both, sign_plain}

coefficient_writes : (c e : ℕ) → c < 10 ^ 34 → e ≤ 12287 → Written (finite_text (decimal c) e) c e
coefficient_writes c e few within =
    let is = decimal_is_IsNumeral_wide c (omega arith) in
    subst (λ (d : ℕ). Written (finite_text (decimal c) e) d e) is.1
    (digits_write (decimal c) e is.0.1 is.0.0 (length-decimal-le_wide 34 c (omega arith) few (omega arith)) within)

coefficient_plain : (c e : ℕ) → c < 10 ^ 34 → e ≤ 12287 → are_plain (finite_text (decimal c) e) ≡ true
coefficient_plain c e few within =
    finite_plain (decimal c) e (decimal_is_IsNumeral_wide c (omega arith)).0.1 (length-decimal-le_wide 34 c (omega arith) few (omega arith)) within

-- no digit begins a word
lower_digit : (c : ℕ) → IsInRange 48 57 c → to_ascii_lowercase c ≡ c
lower_digit c h = rw (lt-ltb c 65 (omega arith)) refl

first_of : (word s : List ℕ) → IsWord word s → IsInRange 48 57 (get_or s 0 0) → IsInRange 48 57 (get_or word 0 0)
first_of word [] w h = absurd (omega arith)
first_of word (c ∷ cs) w h =
    let same : c ≡ get_or word 0 0 = sym (lower_digit c h) ∙ ap (λ (l : List ℕ). get_or l 0 0) w in
    subst (IsInRange 48 57) same h

no_word : (s : List ℕ) (negative : Bool) (bits : ℕ) → IsInRange 48 57 (get_or s 0 0) → WritesBits negative s bits → (c e : ℕ) × WritesFinite s c e × (bits ≡ finite_bits negative c e)
no_word s negative bits h (inl (inl w, is)) = absurd (omega (arith, first_of (codes "infinity") s w h))
no_word s negative bits h (inl (inr w, is)) = absurd (omega (arith, first_of (codes "inf") s w h))
no_word s negative bits h (inr (inl (w, is))) = absurd (omega (arith, first_of (codes "nan") s w h))
no_word s negative bits h (inr (inr w)) = w

module _ (s : List ℕ) (c e : ℕ) (few : c < 10 ^ 34) (within : e ≤ 12287) (w : Written s c e) where
  exact : IsExactly c w.up w.down c e
  exact = record { few_digits = few; in_range = within; same = ap (λ (x : ℕ). c * 10 ^ x) w.level }

  preferred : IsPreferred c w.up w.down c e
  preferred = record { exact = exact; nearest = λ other n is. let l = w.level in omega arith }

  writes_finite : WritesFinite s c e
  writes_finite = (c, w.up, w.down, w.writes, preferred)

  only_finite : (c' e' : ℕ) → WritesFinite s c' e' → (c' ≡ c) × (e' ≡ e)
  only_finite c' e' (d, up, down, v, p) =
      let digits : d ≡ c = v.digits ∙ sym w.writes.digits in
      let up_is : up ≡ w.up = v.tens_above ∙ sym w.writes.tens_above in
      let down_is : down ≡ w.down = v.tens_below ∙ sym w.writes.tens_below in
      let q : IsPreferred c w.up w.down c' e' = subst (λ (x : ℕ). IsPreferred x w.up w.down c' e') digits
      (subst (λ (x : ℕ). IsPreferred d x w.down c' e') up_is (subst (λ (x : ℕ). IsPreferred d up x c' e') down_is p)) in
      let l = w.level in
      let near : distance (w.up + 6176) (e' + w.down) ≤ distance (w.up + 6176) (e + w.down) = q.nearest c e exact in
      let exponent : e' ≡ e = omega arith in
      let same : c * 10 ^ (w.up + 6176) ≡ c' * 10 ^ (e' + w.down) = q.exact.same in
      let top : e' + w.down ≡ w.up + 6176 = omega arith in
      (sym (eq_of_mul-eq-mul_right (10 ^ (w.up + 6176)) (one-le-pow (w.up + 6176) 10 (omega arith)) c c' (same ∙ ap (λ (x : ℕ). c' * 10 ^ x) top)), exponent)

-- texts after their signs

signed : (negative : Bool) (s : List ℕ) → IsInRange 48 57 (get_or s 0 0) → (starts_with_minus (sign_text negative ++ s) ≡ negative) × (without_sign (sign_text negative ++ s) ≡ s)
signed true s h = (refl, refl)
signed false s h =
    let minus = ne_eqb (get_or s 0 0) 45 (λ e. omega arith) in
    let plus = ne_eqb (get_or s 0 0) 43 (λ e. omega arith) in
    (minus, rw (minus, plus) refl)

-- a text of exactly these bits, which is in a JSON string as it is
pub record WritesJust (s bytes : List ℕ) : Type 0 where
  pub plain : are_plain s ≡ true
  pub writes : WritesDecimal s bytes
  pub only : (other : List ℕ) → WritesDecimal s other → other ≡ bytes

module _ (negative : Bool) (text s : List ℕ) (bits : ℕ) (sign : starts_with_minus text ≡ negative) (left : without_sign text ≡ s) where
  there : WritesBits negative s bits → WritesBits (starts_with_minus text) (without_sign text) bits
  there w = subst (λ (x : Bool). WritesBits x (without_sign text) bits) (sym sign) (subst (λ (x : List ℕ). WritesBits negative x bits) (sym left) w)

  back : WritesBits (starts_with_minus text) (without_sign text) bits → WritesBits negative s bits
  back w = subst (λ (x : List ℕ). WritesBits negative x bits) left (subst (λ (x : Bool). WritesBits x (without_sign text) bits) sign w)

just : (negative : Bool) (text s : List ℕ) (bits : ℕ) → are_plain text ≡ true → (starts_with_minus text ≡ negative) × (without_sign text ≡ s) → WritesBits negative s bits
    → ((other : ℕ) → WritesBits negative s other → other ≡ bits) → WritesJust text (to_le_bytes w128 bits)
just negative text s bits plain cut w only = record {
  plain = plain;
  writes = (bits, there negative text s bits cut.0 cut.1 w, refl);
  only = λ other o. o.2 ∙ ap (to_le_bytes w128) (only o.0 (back negative text s o.0 cut.0 cut.1 o.1));
}

finite_just : (negative : Bool) (c e : ℕ) → c < 10 ^ 34 → e ≤ 12287 → WritesJust (sign_text negative ++ finite_text (decimal c) e) (to_le_bytes w128 (finite_bits negative c e))
finite_just negative c e few within =
    let s = finite_text (decimal c) e in
    let w = coefficient_writes c e few within in
    let plain = plain_both (sign_text negative) s (sign_plain negative) (coefficient_plain c e few within) in
    just negative (sign_text negative ++ s) s (finite_bits negative c e) plain (signed negative s w.begins) (inr (inr (c, e, writes_finite s c e few within w, refl)))
    (λ other v.
    let f = no_word s negative other w.begins v in
    let both = only_finite s c e few within w f.0 f.1 f.2 in
    f.3 ∙ ap (λ (x : ℕ). finite_bits negative x f.1) both.0 ∙ ap (finite_bits negative c) both.1)

-- the words

no_digits : (s : List ℕ) (c e : ℕ) → has_digits (scan s) ≡ false → WritesFinite s c e → ⊥
no_digits s c e none (d, up, down, w, p) = false≢true (sym none ∙ w.some)

infinity_has_none : has_digits (scan (codes "Infinity")) ≡ false
unfolding scan_numeral
infinity_has_none = refl

nan_has_none : has_digits (scan (codes "NaN")) ≡ false
unfolding scan_numeral
nan_has_none = refl

first_same : (xs ys : List ℕ) → xs ≡ ys → get_or xs 0 0 ≡ get_or ys 0 0
first_same xs ys e = ap (λ (l : List ℕ). get_or l 0 0) e

only_infinity : (negative : Bool) (bits : ℕ) → WritesBits negative (codes "Infinity") bits → bits ≡ sign_bit negative + 0x7800 * 2 ^ 112
only_infinity negative bits (inl (w, is)) = is
only_infinity negative bits (inr (inl (w, is))) = absurd (omega (arith, first_same (map to_ascii_lowercase (codes "Infinity")) (codes "nan") w))
only_infinity negative bits (inr (inr (c, e, w, is))) = absurd (no_digits (codes "Infinity") c e infinity_has_none w)

infinity_signed : (negative : Bool) → (starts_with_minus (sign_text negative ++ codes "Infinity") ≡ negative) × (without_sign (sign_text negative ++ codes "Infinity") ≡ codes "Infinity")
infinity_signed true = (refl, refl)
infinity_signed false = (refl, refl)

infinity_just : (negative : Bool) → WritesJust (sign_text negative ++ codes "Infinity") (to_le_bytes w128 (sign_bit negative + 0x7800 * 2 ^ 112))
infinity_just negative =
    let word = codes "Infinity" in
    let plain = plain_both (sign_text negative) word (sign_plain negative) refl in
    just negative (sign_text negative ++ word) word (sign_bit negative + 0x7800 * 2 ^ 112) plain (infinity_signed negative) (inl (inl refl, refl)) (only_infinity negative)

only_nan : (bits : ℕ) → WritesBits false (codes "NaN") bits → bits ≡ 0x7C00 * 2 ^ 112
only_nan bits (inl (inl w, is)) = absurd (omega (arith, first_same (map to_ascii_lowercase (codes "NaN")) (codes "infinity") w))
only_nan bits (inl (inr w, is)) = absurd (omega (arith, first_same (map to_ascii_lowercase (codes "NaN")) (codes "inf") w))
only_nan bits (inr (inl (w, is))) = is
only_nan bits (inr (inr (c, e, w, is))) = absurd (no_digits (codes "NaN") c e nan_has_none w)

nan_just : WritesJust (codes "NaN") (to_le_bytes w128 (0x7C00 * 2 ^ 112))
nan_just = just false (codes "NaN") (codes "NaN") (0x7C00 * 2 ^ 112) refl (refl, refl) (inr (inl (refl, refl))) only_nan

bits_just : (bits : ℕ) → DecimalBitsComeBack bits → WritesJust (decimal128_text (to_le_bytes w128 bits)) (to_le_bytes w128 bits)
bits_just bits (inl (negative, is)) =
    subst (λ (b : ℕ). WritesJust (decimal128_text (to_le_bytes w128 b)) (to_le_bytes w128 b)) (sym is)
    (subst (λ (t : List ℕ). WritesJust t (to_le_bytes w128 (sign_bit negative + 0x7800 * 2 ^ 112))) (sym (infinity_text_is negative)) (infinity_just negative))
bits_just bits (inr (inl is)) =
    subst (λ (b : ℕ). WritesJust (decimal128_text (to_le_bytes w128 b)) (to_le_bytes w128 b)) (sym is)
    (subst (λ (t : List ℕ). WritesJust t (to_le_bytes w128 (0x7C00 * 2 ^ 112))) (sym nan_text_is) nan_just)
bits_just bits (inr (inr (negative, c, e, few, within, is))) =
    subst (λ (b : ℕ). WritesJust (decimal128_text (to_le_bytes w128 b)) (to_le_bytes w128 b)) (sym is)
    (subst (λ (t : List ℕ). WritesJust t (to_le_bytes w128 (finite_bits negative c e))) (sym (finite_text_is negative c e few within)) (finite_just negative c e few within))

pub decimal_just : (bytes : List ℕ) → DecimalComesBack bytes → WritesJust (decimal128_text bytes) bytes
decimal_just bytes (bits, canonical, is) = subst (λ (b : List ℕ). WritesJust (decimal128_text b) b) (sym is) (bits_just bits canonical)
