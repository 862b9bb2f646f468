-- What follows for bytes from the mask of comparing them with 0 and with 128.
use Rattle.std.proofs.Common.{◌≡◌, ◌≢◌, ℕ, ◌+◌, ◌%◌, ◌^◌, ◌<◌, ◌≤◌, ◌||◌, ◌++◌, Bool, true, false, cond, eqb, leb, List, [], ◌∷◌, map, length, get_or, take, drop, replicate, IsAscii, refl, sym, ap, ap₂, subst, ◌∙◌, arith}
use Rattle.std.proofs.lemmas.Bool.{true≢false}
use Rattle.std.proofs.lemmas.List.{length-map, take-take}
use Rattle.std.proofs.lemmas.List.Elements.{All-append, All-take}
use Rattle.std.proofs.lemmas.Simd.{length-chunk, zip2_splat, zip2_splat_left, mask_l-mod, none_from_empty_mask, trailing_mask_l, run_in_chunk_fails, run_in_chunk_le}
use Rattle.std.proofs.lemmas.Str.{IsAscii-append, IsAscii-take}
use Rattle.std.proofs.Math.Seq.{take-add}
use Rattle.bson_model.specs.Bytes.{NulFree}
use Rattle.raw_view.proofs.Bytes.AsciiLanes.{wide, ascii_below}
use Rattle.raw_view.proofs.Bytes.NulSearch.{NulFree-below}
use lib.Bits.{bit_or}
use lib.Count.{count_trailing_zeros}
use lib.Lanes.{chunk, zip2, mask_l, top}

-- none of the first n bytes is 0 or over 127
abbrev pub IsPlain : ℕ → List ℕ → Type 0
IsPlain n bs = NulFree (take n bs) × IsAscii (take n bs)

-- a byte at which plain bytes end
abbrev ends : ℕ → Bool
ends b = eqb b 0 || wide b

abbrev is_nul : ℕ → ℕ
is_nul b = cond (eqb b 0) 255 0

abbrev is_wide : ℕ → ℕ
is_wide b = cond (leb 128 b) 255 0

top_of : (p q : Bool) → top 7 (bit_or (cond p 255 0) (cond q 255 0)) ≡ p || q
top_of true true = refl
top_of true false = refl
top_of false true = refl
top_of false false = refl

tops : (v : List ℕ) → map (top 7) (zip2 bit_or (map is_nul v) (map is_wide v)) ≡ map ends v
tops [] = refl
tops (b ∷ v) = ap₂ (λ x xs. x ∷ xs) (top_of (eqb b 0) (leb 128 b)) (tops v)

-- a bit for each of the first n bytes, set where the byte is 0 or over 127
abbrev pub ends_of : ℕ → List ℕ → ℕ
ends_of n bs = mask_l (map (top 7) (zip2 bit_or (zip2 (λ a b. cond (eqb a b) 255 0) (take n bs) (replicate n 0)) (zip2 (λ a b. cond (leb a b) 255 0) (replicate n 128) (take n bs)))) % 2 ^ 64

neither : (p q : Bool) → p || q ≡ false → (p ≡ false) × (q ≡ false)
neither true q e = absurd (true≢false e)
neither false q e = (refl, e)

module _ (n : ℕ) (bs : List ℕ) (few : n ≤ 64) (l : n ≤ length bs) where
  ends_is : ends_of n bs ≡ mask_l (map ends (chunk 0 n bs))
  ends_is =
      let v = chunk 0 n bs in
      let long : length v ≡ n = length-chunk 0 n bs (omega (arith, l)) in
      let lanes = ap₂ (zip2 bit_or) (zip2_splat (λ a b. cond (eqb a b) 255 0) v n 0 long) (zip2_splat_left (λ a b. cond (leb a b) 255 0) 128 n v long) in
      ap (λ z. mask_l (map (top 7) z) % 2 ^ 64) lanes ∙ ap (λ m. mask_l m % 2 ^ 64) (tops v) ∙ mask_l-mod (map ends v) 64 (omega (arith, length-map v ends, long))

  plain_before : (r : ℕ) → r ≤ n → ((k : ℕ) → k < r → ends (get_or bs k 0) ≡ false) → IsPlain r bs
  plain_before r low h = (
    NulFree-below bs r (omega arith) (λ k below z. true≢false (sym (ap (λ x. eqb x 0) z) ∙ (neither (eqb (get_or bs k 0) 0) (wide (get_or bs k 0)) (h k below)).0)),
    ascii_below bs r (λ k below. (neither (eqb (get_or bs k 0) 0) (wide (get_or bs k 0)) (h k below)).1),
  )

  -- where no bit is set
  pub plain_all : ends_of n bs ≡ 0 → IsPlain n bs
  plain_all none = plain_before n (omega arith) (λ k below. none_from_empty_mask ends bs 0 n 0 (omega (arith, l)) (sym ends_is ∙ none) k (omega arith) (omega arith))

  -- before the lowest bit that is set
  pub plain_front : 0 < ends_of n bs → (count_trailing_zeros 64 (ends_of n bs) ≤ n) × IsPlain (count_trailing_zeros 64 (ends_of n bs)) bs
  plain_front some =
      let lowest = trailing_mask_l ends 64 (chunk 0 n bs) (omega (arith, length-chunk 0 n bs (omega (arith, l)))) (omega (arith, ends_is, some)) in
      let counted = ap (λ m. count_trailing_zeros 64 m) ends_is ∙ lowest in
      let within = run_in_chunk_le ends bs 0 n _ 0 (omega (arith, l)) counted in
      (within, plain_before _ within (λ k below. run_in_chunk_fails ends bs 0 n _ 0 (omega (arith, l)) counted k (omega arith) (omega arith)))

-- The first n bytes are plain, and so are r bytes from a place among them on. So all of these are.
pub plain_over : (n b r : ℕ) (bs : List ℕ) → b ≤ n → IsPlain n bs → IsPlain r (drop b bs) → IsPlain (b + r) bs
plain_over n b r bs among front behind =
    let first : take b (take n bs) ≡ take b bs = take-take b n bs among in
    let both : take (b + r) bs ≡ take b bs ++ take r (drop b bs) = take-add b r bs in (
      subst NulFree (sym both) (All-append (λ x. x ≢ 0) (take b bs) (take r (drop b bs)) (subst NulFree first (All-take (λ x. x ≢ 0) b (take n bs) front.0)) behind.0),
      subst IsAscii (sym both) (IsAscii-append (take b bs) (take r (drop b bs)) (subst IsAscii first (IsAscii-take (take n bs) b front.1)) behind.1),
    )
