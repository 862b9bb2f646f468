-- The text of a time: how long it is at most.
use Rattle.std.proofs.Common.{◌≡◌, ℕ, ◌/◌, ◌%◌, ◌<◌, ◌≤◌, Bool, true, false, cond, nat_eq, ℤ, List, [], ◌∷◌, ◌++◌, length, codes, refl, ap, arith}
use Rattle.std.proofs.lemmas.List.{length-append}
use Rattle.bson_to_json.specs.Dates.{IsInstantText, fraction_text, second_text, three_digits}

either_short : (b : Bool) (x y : List ℕ) (n : ℕ) → (b ≡ true → length x ≤ n) → (b ≡ false → length y ≤ n) → length (cond b x y) ≤ n
either_short true x y n h k = h refl
either_short false x y n h k = k refl

fraction_short : (millis : ℕ) → length (fraction_text millis) ≤ 4
fraction_short millis = either_short (nat_eq millis 0) [] (46 ∷ three_digits millis) 4 (λ _. omega arith) (λ _. omega arith)

-- the text of a time
pub instant_short : (z : ℤ) (text : List ℕ) → IsInstantText z text → length text < 25
instant_short z text (year, month, day, millis, civil, few, at, is) =
    let size : length text ≡ length (second_text year month day (millis / 1000) ++ (fraction_text (millis % 1000) ++ codes "Z")) = ap length is in
    omega (arith, size, fraction_short (millis % 1000), length-append (fraction_text (millis % 1000)) (codes "Z"))
