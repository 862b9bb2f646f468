-- Numbers times powers of ten.
use Rattle.std.proofs.Common.{◌≡◌, ◌⊎◌, inl, inr, ℕ, zero, suc, ◌+◌, ◌-◌, ◌*◌, ◌/◌, ◌%◌, ◌^◌, ◌<◌, ◌≤◌, List, [], ◌∷◌, ◌++◌, length, get_or, take, drop, min, Option, Some, None, IfSome, Bool, codes, false, Result, Ok, Err, OnErr, IsTrue, ◌↔◌, refl, sym, ap, subst, ◌∙◌, arith, lit<}
use Rattle.std.proofs.Math.Nat.{pow-le-pow_right, mul-le-mul_left, mul-le-mul_right, mul_assoc, one-le-pow, eq_of_mul-eq-mul_right, mul-mod_left, eq-zero-or-pos, zero-mul}
use Rattle.std.proofs.lemmas.Nat.{pow-add}
use Rattle.std.proofs.lemmas.Bool.{cases_lt, false≢true}
use Rattle.std.proofs.lemmas.Str.Parse.{digit_from_value}
use Rattle.std.proofs.lemmas.Str.{digit_value_digit}
use Rattle.std.specs.Char.{digit_value}
use Rattle.std.specs.Str.Parse.{AllDigits, digits_value, digits_value_after}
use Rattle.fast_float.specs.Text.{Parts, scan, digits_of}
use Rattle.values_from_json.specs.DecimalTexts.{IsExactly, IsPreferred, IsWord, WritesBits, WritesFinite, distance}
use Rattle.values_from_json.specs.Digits.{FitsDecimal128, FitsNoDecimal128}

pub tens : (i j : ℕ) → i ≤ j → 10 ^ i ≤ 10 ^ j
tens i j le = pow-le-pow_right (lit< tt) le

pub some_tens : (i : ℕ) → 0 < 10 ^ i
some_tens i = one-le-pow i 10 (lit< tt)

-- zeros after zeros
pub joined : (a i j : ℕ) → a * 10 ^ i * 10 ^ j ≡ a * 10 ^ (i + j)
joined a i j = mul_assoc a (10 ^ i) (10 ^ j) ∙ ap (λ (x : ℕ). a * x) (sym (pow-add 10 i j))

one_more : (a i : ℕ) → a * 10 ^ suc i ≡ a * 10 ^ i * 10
one_more a i = let s : suc i ≡ i + 1 = omega arith in ap (λ (x : ℕ). a * 10 ^ x) s ∙ sym (joined a i 1)

pub at_least : (a i : ℕ) → a ≤ a * 10 ^ i
at_least a i = omega (arith, mul-le-mul_left a (some_tens i))

-- zeros that both have are dropped
pub without_both : (a b i j k : ℕ) → a * 10 ^ i ≡ b * 10 ^ k → i + j ≡ k → a ≡ b * 10 ^ j
without_both a b i j k e s =
    let t : k ≡ j + i = omega arith in
    eq_of_mul-eq-mul_right (10 ^ i) (some_tens i) a (b * 10 ^ j) (e ∙ ap (λ (x : ℕ). b * 10 ^ x) t ∙ sym (joined b j i))

-- 10 to at most 33 has room
pub small : (count : ℕ) → count ≤ 33 → 10 ^ count < 340282366920938463463374607431768211456
small count le = omega (arith, tens count 33 le)

-- more than 33 zeros after a number are too many
pub too_many : (a count : ℕ) → 0 < a → 33 < count → 10000000000000000000000000000000000 ≤ a * 10 ^ count
too_many a count some many = omega (arith, mul-le-mul_right (10 ^ count) some, tens 34 count (omega arith))

-- a number of at most 34 digits doesn't end with more zeros
pub none_before : (a count c : ℕ) → 0 < a → a < 10 ^ 34 → 33 < count → a ≡ c * 10 ^ count → ⊥
none_before a count zero some few many e = omega arith
none_before a count (suc c) some few many e = omega (arith, too_many (suc c) count (omega arith) many)

-- if there is a remainder, there is no quotient
none_with_rest : (a m c : ℕ) → (a % m ≡ 0 → ⊥) → a ≡ c * m → ⊥
none_with_rest a m c rest e = rest (ap (λ (x : ℕ). x % m) e ∙ mul-mod_left c m)

-- one zero fewer at the end, if there is one
pub one_less : (a left i : ℕ) → a ≡ left * 10 ^ i → left % 10 ≡ 0 → a ≡ left / 10 * 10 ^ (i + 1)
one_less a left i is none =
    let whole : left ≡ left / 10 * 10 ^ 1 = omega (arith, none) in
    let s : 1 + i ≡ i + 1 = omega arith in
    is ∙ ap (λ (x : ℕ). x * 10 ^ i) whole ∙ joined (left / 10) 1 i ∙ ap (λ (x : ℕ). left / 10 * 10 ^ x) s

-- another digit at the end: no more zeros are dropped
pub none_behind_digit : (a left i count c : ℕ) → a ≡ left * 10 ^ i → i < count → (left % 10 ≡ 0 → ⊥) → a ≡ c * 10 ^ count → ⊥
none_behind_digit a left i count c is less digit e =
    let j = count - i - 1 in
    let s : count - i ≡ suc j = omega arith in
    let same : left ≡ c * 10 ^ (count - i) = without_both left c i (count - i) count (sym is ∙ e) (omega arith) in
    none_with_rest left 10 (c * 10 ^ j) digit (same ∙ ap (λ (x : ℕ). c * 10 ^ x) s ∙ one_more c j)

module _ (a up down : ℕ) where
  pub divided : (c : ℕ) → a < 10 ^ 34 → up + 6176 < down → a ≡ c * 10 ^ (down - (up + 6176)) → IsPreferred a up down c 0
  divided c few less e = record {
    exact = record {
      few_digits = omega (arith, at_least c (down - (up + 6176)));
      in_range = omega arith;
      same = let s : (down - (up + 6176)) + (up + 6176) ≡ 0 + down = omega arith in
          ap (λ (x : ℕ). x * 10 ^ (up + 6176)) e ∙ joined c (down - (up + 6176)) (up + 6176) ∙ ap (λ (x : ℕ). c * 10 ^ x) s;
    };
    nearest = λ other m is. omega arith;
  }

  pub none_divided : up + 6176 < down → ((c : ℕ) → a ≡ c * 10 ^ (down - (up + 6176)) → ⊥) → (c n : ℕ) → IsExactly a up down c n → ⊥
  none_divided less none c n is =
      none (c * 10 ^ n) (without_both a c (up + 6176) (n + (down - (up + 6176))) (n + down) is.same (omega arith) ∙ sym (joined c n (down - (up + 6176))))

  pub multiplied : (c : ℕ) → 12287 < up + 6176 - down → c < 10 ^ 34 → c ≡ a * 10 ^ (up + 6176 - down - 12287) → IsPreferred a up down c 12287
  multiplied c more few e = record {
    exact = record {
      few_digits = few;
      in_range = omega arith;
      same = let s : up + 6176 ≡ (up + 6176 - down - 12287) + (12287 + down) = omega arith in
          ap (λ (x : ℕ). a * 10 ^ x) s ∙ sym (joined a (up + 6176 - down - 12287) (12287 + down)) ∙ ap (λ (x : ℕ). x * 10 ^ (12287 + down)) (sym e);
    };
    nearest = λ other m is. let within = is.in_range in omega arith;
  }

  pub none_multiplied : 12287 < up + 6176 - down → 10 ^ 34 ≤ a * 10 ^ (up + 6176 - down - 12287) → (c n : ℕ) → IsExactly a up down c n → ⊥
  none_multiplied more many c n is =
      let within = is.in_range in
      let e = without_both c a (n + down) (up + 6176 - (n + down)) (up + 6176) (sym is.same) (omega arith) in
      let s : up + 6176 - (n + down) ≡ (up + 6176 - down - 12287) + (12287 - n) = omega arith in
      omega (arith, is.few_digits, e ∙ ap (λ (x : ℕ). a * 10 ^ x) s ∙ sym (joined a (up + 6176 - down - 12287) (12287 - n)), at_least (a * 10 ^ (up + 6176 - down - 12287)) (12287 - n))

-- .. the zeros after the number belong to the exponent
module _ (d a k up down : ℕ) (is : d ≡ a * 10 ^ k) where
  scaled : d * 10 ^ (up + 6176) ≡ a * 10 ^ (up + k + 6176)
  scaled =
      let s : k + (up + 6176) ≡ up + k + 6176 = omega arith in
      ap (λ (x : ℕ). x * 10 ^ (up + 6176)) is ∙ joined a k (up + 6176) ∙ ap (λ (x : ℕ). a * 10 ^ x) s

  with_zeros : (c n : ℕ) → IsExactly a (up + k) down c n → IsExactly d up down c n
  with_zeros c n e = record { few_digits = e.few_digits; in_range = e.in_range; same = scaled ∙ e.same }

  pub without_zeros : (c n : ℕ) → IsExactly d up down c n → IsExactly a (up + k) down c n
  without_zeros c n e = record { few_digits = e.few_digits; in_range = e.in_range; same = sym scaled ∙ e.same }

  -- a full coefficient takes no more zeros
  full_reach : 10 ^ 33 ≤ a → (c n : ℕ) → IsExactly a (up + k) down c n → up + k + 6176 ≤ n + down
  full_reach full c n e =
      elim (cases_lt (n + down) (up + k + 6176)) [
        | inl less ↦ let j = up + k + 6176 - (n + down) in
            let same : c ≡ a * 10 ^ j = without_both c a (n + down) j (up + k + 6176) (sym e.same) (omega arith) in
            omega (arith, e.few_digits, same, mul-le-mul_left a (tens 1 j (omega arith)))
        | inr le ↦ le
      ]

  nearest_of : (n m : ℕ) → up + k + 6176 ≤ n + down → up + k + 6176 ≤ m + down → distance (up + k + 6176) (n + down) ≤ distance (up + k + 6176) (m + down)
      → distance (up + 6176) (n + down) ≤ distance (up + 6176) (m + down)
  nearest_of n m p q r = omega arith

  pub preferred_with_zeros : FitsDecimal128 a k → (c n : ℕ) → IsPreferred a (up + k) down c n → IsPreferred d up down c n
  preferred_with_zeros room c n p = record {
    exact = with_zeros c n p.exact;
    nearest = λ other m e.
        let f = without_zeros other m e in
        elim (eq-zero-or-pos k) [
          | inl none ↦ let s : up + k ≡ up = omega arith in
              subst (λ (x : ℕ). distance (x + 6176) (n + down) ≤ distance (x + 6176) (m + down)) s (p.nearest other m f)
          | inr some ↦ let full = room.1 some in nearest_of n m (full_reach full c n p.exact) (full_reach full other m f) (p.nearest other m f)
        ];
  }

-- exponents that were read: exactly those, or both too great, or both too small
abbrev pub Reaches : ℕ → ℕ → ℕ → ℕ → ℕ → Type 0
Reaches up down k up' down' =
    ((up' ≡ up + k) × (down' ≡ down)) ⊎ ((down + 20000 ≤ up) × (down' + 20000 ≤ up')) ⊎ ((up + k + 20000 ≤ down) × (up' + 20000 ≤ down'))

-- only 0 has too great an exponent
pub none_above : (a up down c n : ℕ) → 0 < a → down + 20000 ≤ up → IsExactly a up down c n → ⊥
none_above a up down c n some far is =
    let within = is.in_range in
    let j = up + 6176 - (n + down) in
    let same : c ≡ a * 10 ^ j = without_both c a (n + down) j (up + 6176) (sym is.same) (omega arith) in
    omega (arith, is.few_digits, same, too_many a j some (omega arith))

-- or too small a one
pub none_below : (a up down c n : ℕ) → 0 < a → a < 10 ^ 34 → up + 20000 ≤ down → IsExactly a up down c n → ⊥
none_below a up down c n some few far is =
    let j = n + down - (up + 6176) in none_before a j c some few (omega arith) (without_both a c (up + 6176) j (n + down) is.same (omega arith))

zero_times : (a i : ℕ) → a ≡ 0 → a * 10 ^ i ≡ 0
zero_times a i e = ap (λ (x : ℕ). x * 10 ^ i) e ∙ zero-mul (10 ^ i)

zero_of : (c i : ℕ) → c * 10 ^ i ≡ 0 → c ≡ 0
zero_of c i e = omega (arith, at_least c i)

exact_zero : (a up down c n : ℕ) → a ≡ 0 → c ≡ 0 → n ≤ 12287 → IsExactly a up down c n
exact_zero a up down c n e f within = record { few_digits = omega arith; in_range = within; same = zero_times a (up + 6176) e ∙ sym (zero_times c (n + down) f) }

-- so 0 has the greatest exponent
greatest : (d up down up' down' c n : ℕ) → d ≡ 0 → down + 20000 ≤ up → down' + 20000 ≤ up' → IsPreferred 0 up' down' c n → IsPreferred d up down c n
greatest d up down up' down' c n e far far' p =
    let none = zero_of c (n + down') (sym p.exact.same ∙ zero-mul (10 ^ (up' + 6176))) in
    let within = p.exact.in_range in
    let near = p.nearest 0 12287 (exact_zero 0 up' down' 0 12287 refl refl (omega arith)) in
    let top : n ≡ 12287 = omega arith in record {
      exact = exact_zero d up down c n e none within;
      nearest = λ other m is. let below = is.in_range in omega arith;
    }

-- .. or the least
least : (d up down up' down' c n : ℕ) → d ≡ 0 → up + 20000 ≤ down → up' + 20000 ≤ down' → IsPreferred 0 up' down' c n → IsPreferred d up down c n
least d up down up' down' c n e far far' p =
    let none = zero_of c (n + down') (sym p.exact.same ∙ zero-mul (10 ^ (up' + 6176))) in
    let within = p.exact.in_range in
    let near = p.nearest 0 0 (exact_zero 0 up' down' 0 0 refl refl (omega arith)) in
    let bottom : n ≡ 0 = omega arith in record {
      exact = exact_zero d up down c n e none within;
      nearest = λ other m is. omega arith;
    }

-- if what was read has no coefficient, it isn't 0
some_there : (a up down : ℕ) → ((c n : ℕ) → IsExactly a up down c n → ⊥) → 0 < a
some_there a up down none =
    elim (eq-zero-or-pos a) [
      | inl e ↦ absurd (none 0 0 (exact_zero a up down 0 0 e refl (omega arith)))
      | inr some ↦ some
    ]

module _ (d a k : ℕ) {up down up' down' : ℕ} (is : d ≡ a * 10 ^ k) (room : FitsDecimal128 a k) where
  pub preferred : Reaches up down k up' down' → (c n : ℕ) → IsPreferred a up' down' c n → IsPreferred d up down c n
  preferred (inl (e, f)) c n p = preferred_with_zeros d a k up down is room c n (subst (λ (x : ℕ). IsPreferred a x down c n) e (subst (λ (x : ℕ). IsPreferred a up' x c n) f p))
  preferred (inr (inl (far, far'))) c n p =
      elim (eq-zero-or-pos a) [
        | inl none ↦ greatest d up down up' down' c n (is ∙ zero_times a k none) far far' (subst (λ (x : ℕ). IsPreferred x up' down' c n) none p)
        | inr some ↦ absurd (none_above a up' down' c n some far' p.exact)
      ]
  preferred (inr (inr (far, far'))) c n p =
      elim (eq-zero-or-pos a) [
        | inl none ↦ least d up down up' down' c n (is ∙ zero_times a k none) (omega arith) far' (subst (λ (x : ℕ). IsPreferred x up' down' c n) none p)
        | inr some ↦ absurd (none_below a up' down' c n some room.0 far' p.exact)
      ]

  pub none_exact : Reaches up down k up' down' → ((c n : ℕ) → IsExactly a up' down' c n → ⊥) → (c n : ℕ) → IsExactly d up down c n → ⊥
  none_exact (inl (e, f)) none c n x = none c n (subst (λ (y : ℕ). IsExactly a y down' c n) (sym e) (subst (λ (y : ℕ). IsExactly a (up + k) y c n) (sym f) (without_zeros d a k up down is c n x)))
  none_exact (inr (inl (far, far'))) none c n x =
      none_above d up down c n (omega (arith, is, some_there a up' down' none, at_least a k)) far x
  none_exact (inr (inr (far, far'))) none c n x =
      none_below a (up + k) down c n (some_there a up' down' none) room.0 far (without_zeros d a k up down is c n x)

pub reaches_up : (x e k k' f : ℕ) → k' ≡ k → k ≤ 2 ^ 63 → f ≤ 2 ^ 63 → e ≡ min x (2 ^ 70) → Reaches x (f + 0) k (k' + e) f
reaches_up x e k k' f same few short is =
    elim (cases_lt x (2 ^ 70)) [
      | inl less ↦ inl (omega arith, omega arith)
      | inr far ↦ inr (inl (omega arith, omega arith))
    ]

pub reaches_down : (x e k k' f : ℕ) → k' ≡ k → k ≤ 2 ^ 63 → f ≤ 2 ^ 63 → e ≡ min x (2 ^ 70) → Reaches 0 (f + x) k k' (f + e)
reaches_down x e k k' f same few short is =
    elim (cases_lt x (2 ^ 70)) [
      | inl less ↦ inl (omega arith, omega arith)
      | inr far ↦ inr (inr (omega arith, omega arith))
    ]

pub moved : (a k up down up' down' : ℕ) → FitsDecimal128 a k → Reaches up down k up' down' → (o : Option (ℕ × ℕ)) → IfSome o (λ r. IsPreferred a up' down' r.0 r.1)
    → IfSome o (λ r. IsPreferred (a * 10 ^ k) up down r.0 r.1)
moved a k up down up' down' room reaches None p = tt
moved a k up down up' down' room reaches (Some r) p = preferred (a * 10 ^ k) a k refl room reaches r.0 r.1 p

-- what digits write, one after the other
all_at : (ds : List ℕ) (i : ℕ) → AllDigits 10 ds → i < length ds → digit_value (get_or ds i 0) < 10
all_at [] i h l = absurd (omega arith)
all_at (d ∷ ds) zero h l = h.0
all_at (d ∷ ds) (suc i) h l = all_at ds i h.1 (omega arith)

pub digit_in : (ds : List ℕ) (i : ℕ) → AllDigits 10 ds → i < length ds
    → (48 ≤ get_or ds i 0) × (get_or ds i 0 ≤ 57) × (digit_value (get_or ds i 0) + 48 ≡ get_or ds i 0)
digit_in ds i h l = let r = digit_from_value (get_or ds i 0) (all_at ds i h l) in (r.0, r.1, digit_value_digit (get_or ds i 0) r)

after_suc : (n : ℕ) (ds : List ℕ) (i : ℕ) → i < length ds
    → digits_value_after 10 n (take (suc i) ds) ≡ digits_value_after 10 n (take i ds) * 10 + digit_value (get_or ds i 0)
after_suc n [] i l = absurd (omega arith)
after_suc n (d ∷ ds) zero l = refl
after_suc n (d ∷ ds) (suc i) l = after_suc (n * 10 + digit_value d) ds i (omega arith)

pub after_more : (n : ℕ) (ds : List ℕ) (i : ℕ) → AllDigits 10 ds → i < length ds
    → digits_value_after 10 n (take (i + 1) ds) ≡ digits_value_after 10 n (take i ds) * 10 + (get_or ds i 0 - 48)
after_more n ds i h l =
    let s : i + 1 ≡ suc i = omega arith in
    let r = digit_in ds i h l in
    omega (arith, ap (λ (x : ℕ). digits_value_after 10 n (take x ds)) s, after_suc n ds i l, r.2, r.0)

pub after-append : (n : ℕ) (xs ys : List ℕ) → digits_value_after 10 n (xs ++ ys) ≡ digits_value_after 10 (digits_value_after 10 n xs) ys
after-append n [] ys = refl
after-append n (x ∷ xs) ys = after-append (n * 10 + digit_value x) xs ys

after_rest : (n : ℕ) (ds : List ℕ) (i : ℕ) → digits_value_after 10 n ds ≡ digits_value_after 10 (digits_value_after 10 n (take i ds)) (drop i ds)
after_rest n [] zero = refl
after_rest n [] (suc i) = refl
after_rest n (d ∷ ds) zero = refl
after_rest n (d ∷ ds) (suc i) = after_rest (n * 10 + digit_value d) ds i

-- a digit for which there is no room
pub full_too_long : (a k digit : ℕ) → 10 ^ 33 ≤ a → 0 < digit → digit < 10 → FitsNoDecimal128 (a * 10 ^ k * 10 + digit)
full_too_long a k digit full some one c zero few e = omega (arith, at_least a k)
full_too_long a k digit full some one c (suc j) few e = omega (arith, one_more c j)

too_long_digit : (v digit : ℕ) → digit < 10 → FitsNoDecimal128 v → FitsNoDecimal128 (v * 10 + digit)
too_long_digit v digit one long c zero few e = long v 0 (omega arith) (omega arith)
too_long_digit v digit one long c (suc j) few e = long c j few (omega (arith, one_more c j))

too_long_after : (v : ℕ) (ds : List ℕ) → AllDigits 10 ds → FitsNoDecimal128 v → FitsNoDecimal128 (digits_value_after 10 v ds)
too_long_after v [] h long = long
too_long_after v (d ∷ ds) h long = too_long_after (v * 10 + digit_value d) ds h.1 (too_long_digit v (digit_value d) h.0 long)

all_behind : (ds : List ℕ) (i : ℕ) → AllDigits 10 ds → AllDigits 10 (drop i ds)
all_behind [] zero h = h
all_behind [] (suc i) h = h
all_behind (d ∷ ds) zero h = h
all_behind (d ∷ ds) (suc i) h = all_behind ds i h.1

pub too_long_whole : (n : ℕ) (ds : List ℕ) (i : ℕ) → AllDigits 10 ds → FitsNoDecimal128 (digits_value_after 10 n (take i ds)) → FitsNoDecimal128 (digits_value_after 10 n ds)
too_long_whole n ds i h long = subst FitsNoDecimal128 (sym (after_rest n ds i)) (too_long_after (digits_value_after 10 n (take i ds)) (drop i ds) (all_behind ds i h) long)

pub first_room : (a k digit : ℕ) → FitsDecimal128 a k → a < 10 ^ 33 → (a * 10 + digit) * 10 ^ 0 ≡ a * 10 ^ k * 10 + digit
first_room a k digit room less =
    elim (eq-zero-or-pos k) [
      | inl e ↦ subst (λ (x : ℕ). (a * 10 + digit) * 10 ^ 0 ≡ a * 10 ^ x * 10 + digit) (sym e) (omega arith)
      | inr some ↦ absurd (omega (arith, room.1 some))
    ]

pub one_zero : (a k : ℕ) → a * 10 ^ (k + 1) ≡ a * 10 ^ k * 10
one_zero a k = sym (joined a k 1)

pub above_zero : (n : ℕ) → (n ≡ 0 → ⊥) → 0 < n
above_zero n some = elim (eq-zero-or-pos n) [ inl e ↦ absurd (some e) | inr p ↦ p ]

pub too_long_at : (n kept : ℕ) (ds : List ℕ) (i : ℕ) → AllDigits 10 ds → i < length ds → digits_value_after 10 n (take i ds) ≡ kept
    → FitsNoDecimal128 (kept * 10 + (get_or ds i 0 - 48)) → FitsNoDecimal128 (digits_value_after 10 n ds)
too_long_at n kept ds i h l is long =
    too_long_whole n ds (i + 1) h (subst FitsNoDecimal128 (sym (after_more n ds i h l ∙ ap (λ (x : ℕ). x * 10 + (get_or ds i 0 - 48)) is)) long)

pub too_long_behind : (xs ys : List ℕ) → AllDigits 10 ys → FitsNoDecimal128 (digits_value_after 10 0 xs) → FitsNoDecimal128 (digits_value_after 10 0 (xs ++ ys))
too_long_behind xs ys h long = subst FitsNoDecimal128 (sym (after-append 0 xs ys)) (too_long_after (digits_value_after 10 0 xs) ys h long)

pub after_both : (xs ys : List ℕ) (n : ℕ) → digits_value_after 10 0 xs ≡ n → digits_value_after 10 0 (xs ++ ys) ≡ digits_value_after 10 n ys
after_both xs ys n e = after-append 0 xs ys ∙ ap (λ (x : ℕ). digits_value_after 10 x ys) e

-- a number with too many digits has no coefficient
pub none_long : (d up down c n : ℕ) → FitsNoDecimal128 d → IsExactly d up down c n → ⊥
none_long d up down c n long is =
    elim (cases_lt (n + down) (up + 6176)) [
      | inl less ↦ let j = up + 6176 - (n + down) in
          let same : c ≡ d * 10 ^ j = without_both c d (n + down) j (up + 6176) (sym is.same) (omega arith) in
          long d 0 (omega (arith, is.few_digits, same, at_least d j)) (omega arith)
      | inr le ↦ let j = n + down - (up + 6176) in long c j is.few_digits (without_both d c (up + 6176) j (n + down) is.same (omega arith))
    ]

pub no_bits : (negative : Bool) (s : List ℕ) → (IsWord (codes "infinity") s → ⊥) → (IsWord (codes "inf") s → ⊥) → (IsWord (codes "nan") s → ⊥)
    → ((c n : ℕ) → WritesFinite s c n → ⊥) → (bits : ℕ) → WritesBits negative s bits → ⊥
no_bits negative s a b c f bits (inl (inl w, is)) = a w
no_bits negative s a b c f bits (inl (inr w, is)) = b w
no_bits negative s a b c f bits (inr (inl (w, is))) = c w
no_bits negative s a b c f bits (inr (inr (d, n, w, is))) = f d n w

pub long_finite : (s whole fraction : List ℕ) (p : Parts) → p ≡ scan s → whole ≡ p.whole → fraction ≡ p.fraction → FitsNoDecimal128 (digits_value 10 (whole ++ fraction))
    → (c n : ℕ) → WritesFinite s c n → ⊥
long_finite s whole fraction p e f g long c n (d, up, down, w, is) =
    let same : digits_value 10 (whole ++ fraction) ≡ digits_of (scan s) =
    ap (λ (x : List ℕ). digits_value 10 (x ++ fraction)) f ∙ ap (λ (x : List ℕ). digits_value 10 (p.whole ++ x)) g ∙ ap digits_of e in
    none_long d up down c n (subst FitsNoDecimal128 (same ∙ sym w.digits) long) is.exact

pub on_err : {T E : Type 0} (r : Result T E) {P : Type 0} → P → OnErr r P
on_err (Ok x) p = tt
on_err (Err e) p = p

pub no_word : {P : Type 0} {b : Bool} → b ≡ false → IsTrue b ↔ P → P → ⊥
no_word other tells p = false≢true (sym other ∙ tells.1 p)
