-- White space in the strings of wrappers: an encoding in base64 has none.
use Rattle.std.proofs.Common.{◌≡◌, ◌+◌, ◌*◌, ◌/◌, ◌%◌, ◌<◌, ◌&&◌, not, ℕ, zero, suc, Bool, true, false, cond, List, [], ◌∷◌, ◌++◌, length, get_or, replicate, refl, ap, arith}
use Rattle.std.proofs.lemmas.Bool.{and_from, and_parts, false≢true}
use Rattle.base64.specs.Engines.{standard}
use Rattle.base64.specs.GeneralPurpose.{IsBytes, encode_of}
use Rattle.base64.specs.Rfc4648.{encode_symbols, padding_len}
use Rattle.values_from_json.specs.Spaces.{is_space, without_spaces}

-- no white space
abbrev pub are_dense : List ℕ → Bool
are_dense [] = true
are_dense (b ∷ bs) = not (is_space b) && are_dense bs

kept_more : (is : Bool) (b : ℕ) (bs rest : List ℕ) → is ≡ true → rest ≡ bs → cond is (b ∷ rest) rest ≡ b ∷ bs
kept_more true b bs rest e same = ap (λ (l : List ℕ). b ∷ l) same
kept_more false b bs rest e same = absurd (false≢true e)

pub dense_kept : (s : List ℕ) → are_dense s ≡ true → without_spaces s ≡ s
dense_kept [] h = refl
dense_kept (b ∷ bs) h = let both = and_parts _ _ h in kept_more (not (is_space b)) b bs (without_spaces bs) both.0 (dense_kept bs both.1)

pub dense_both : (xs ys : List ℕ) → are_dense xs ≡ true → are_dense ys ≡ true → are_dense (xs ++ ys) ≡ true
dense_both [] ys p q = q
dense_both (x ∷ xs) ys p q = let both = and_parts _ _ p in and_from _ _ both.0 (dense_both xs ys both.1 q)

pub dense_at : (xs : List ℕ) (i : ℕ) → are_dense xs ≡ true → i < length xs → not (is_space (get_or xs i 0)) ≡ true
dense_at [] i h lt = absurd (omega arith)
dense_at (x ∷ xs) zero h lt = (and_parts _ _ h).0
dense_at (x ∷ xs) (suc i) h lt = dense_at xs i (and_parts _ _ h).1 (omega arith)

pub dense_repeated : (x n : ℕ) → not (is_space x) ≡ true → are_dense (replicate n x) ≡ true
dense_repeated x zero h = refl
dense_repeated x (suc n) h = and_from _ _ h (dense_repeated x n h)

module _ (t : List ℕ) (dense : are_dense t ≡ true) (long : length t ≡ 64) where
  symbols_dense : (m : List ℕ) → IsBytes m → are_dense (encode_symbols t m) ≡ true
  unfolding encode_symbols
  symbols_dense [] h = refl
  symbols_dense (a ∷ []) h =
      let f = h 0 in
      and_from _ _ (dense_at t (a / 4) dense (omega arith)) (and_from _ _ (dense_at t (a % 4 * 16) dense (omega arith)) refl)
  symbols_dense (a ∷ b ∷ []) h =
      let f = h 0 in
      let g = h 1 in
      and_from _ _ (dense_at t (a / 4) dense (omega arith))
      (and_from _ _ (dense_at t (a % 4 * 16 + b / 16) dense (omega arith)) (and_from _ _ (dense_at t (b % 16 * 4) dense (omega arith)) refl))
  symbols_dense (a ∷ b ∷ c ∷ rest) h =
      let f = h 0 in
      let g = h 1 in
      let k = h 2 in
      and_from _ _ (dense_at t (a / 4) dense (omega arith))
      (and_from _ _ (dense_at t (a % 4 * 16 + b / 16) dense (omega arith))
      (and_from _ _ (dense_at t (b % 16 * 4 + c / 64) dense (omega arith))
      (and_from _ _ (dense_at t (c % 64) dense (omega arith)) (symbols_dense rest (λ i. h (suc (suc (suc i))))))))

encoding_dense : (m : List ℕ) → IsBytes m → are_dense (encode_of standard m) ≡ true
encoding_dense m h =
    let t = standard.encode_table in
    let n = padding_len (length m) in
    dense_both (encode_symbols t m) (replicate n 61) (symbols_dense t refl refl m h) (dense_repeated 61 n refl)

-- base64 is read as it is
pub encoding_kept : (m : List ℕ) → IsBytes m → without_spaces (encode_of standard m) ≡ encode_of standard m
encoding_kept m h = dense_kept (encode_of standard m) (encoding_dense m h)
