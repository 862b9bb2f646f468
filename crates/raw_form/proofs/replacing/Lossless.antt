-- A text that is replaced is UTF-8.
use Rattle.std.proofs.Common.{◌≡◌, ◌≢◌, ◌≤◌, ◌<◌, ◌++◌, ℕ, zero, suc, List, Bool, true, false, cond, length, take, nat_lt, arith, refl, sym, subst}
use Rattle.std.proofs.lemmas.Bool.Decides.{nat_tests}
use Rattle.std.proofs.lemmas.List.{take_all}
use Rattle.std.proofs.lemmas.Str.{IsUtf8-append, IsUtf8-encode, IsUtf8-from_is_utf8, IsUtf8-nil, utf8_lossy-IsUtf8, utf8_lossy_step}
use Rattle.std.proofs.str.Lossy.{length-after_first_chunk}
use Rattle.std.specs.Str.{IsUtf8, is_utf8}
use Rattle.std.specs.Str.Lossy.{after_first_chunk, replacement_bytes, utf8_lossy, utf8_valid_len, valid_len_up_to}

-- the longest front of bytes that is UTF-8
either : (b : Bool) (n k : ℕ) (bs : List ℕ) → (b ≡ true → IsUtf8 (take n bs)) → IsUtf8 (take k bs) → IsUtf8 (take (cond b n k) bs)
either true n k bs front other = front refl
either false n k bs front other = other

front_to : (bs : List ℕ) (m : ℕ) → IsUtf8 (take (valid_len_up_to bs m) bs)
front_to bs zero = IsUtf8-nil
front_to bs (suc m) = either (is_utf8 (take (suc m) bs)) (suc m) (valid_len_up_to bs m) bs (IsUtf8-from_is_utf8 (take (suc m) bs)) (front_to bs m)

valid_front : (bs : List ℕ) → IsUtf8 (take (utf8_valid_len bs) bs)
unfolding utf8_valid_len
valid_front bs = front_to bs (length bs)

replacement_utf8 : IsUtf8 replacement_bytes
unfolding lib.Utf8.encode
replacement_utf8 = IsUtf8-encode 0xFFFD (search arith)

lossy_step : (bs : List ℕ) (b : Bool) → nat_lt (utf8_valid_len bs) (length bs) ≡ b → ((cs : List ℕ) → length cs < length bs → IsUtf8 (utf8_lossy cs)) → IsUtf8 (utf8_lossy bs)
lossy_step bs true e shorter =
    let short : utf8_valid_len bs < length bs = grind (arith, nat_tests, e) in
    let some : utf8_valid_len bs ≢ length bs = λ same. omega (arith, short, same) in
    rw (utf8_lossy_step bs some)
    (IsUtf8-append (take (utf8_valid_len bs) bs) (replacement_bytes ++ utf8_lossy (after_first_chunk bs)) (valid_front bs)
    (IsUtf8-append replacement_bytes (utf8_lossy (after_first_chunk bs)) replacement_utf8 (shorter (after_first_chunk bs) (length-after_first_chunk bs some))))
lossy_step bs false e shorter =
    let long : length bs ≤ utf8_valid_len bs = grind (arith, nat_tests, e) in
    let whole : take (utf8_valid_len bs) bs ≡ bs = take_all (utf8_valid_len bs) bs long in
    let utf8 : IsUtf8 bs = subst IsUtf8 whole (valid_front bs) in
    subst IsUtf8 (sym (utf8_lossy-IsUtf8 bs utf8)) utf8

lossy_to : (n : ℕ) (bs : List ℕ) → length bs < n → IsUtf8 (utf8_lossy bs)
lossy_to zero bs l = absurd (omega (arith, l))
lossy_to (suc n) bs l = lossy_step bs (nat_lt (utf8_valid_len bs) (length bs)) refl (λ cs less. lossy_to n cs (omega (arith, l, less)))

pub lossy_utf8 : (bs : List ℕ) → IsUtf8 (utf8_lossy bs)
lossy_utf8 bs = lossy_to (suc (length bs)) bs (omega arith)
