-- What follows for sixteen bytes from the mask of comparing them with 128.
use Rattle.std.proofs.Common.{◌≡◌, ℕ, ◌%◌, ◌^◌, ◌<◌, ◌≤◌, Bool, false, cond, leb, List, map, length, get_or, take, replicate, IsAscii, ap, sym, subst, ◌∙◌, arith, inl, inr, w8, leb-false}
use Rattle.std.proofs.lemmas.Bool.{cases_lt}
use Rattle.std.proofs.lemmas.List.{get_or-take, length-map, length-take}
use Rattle.std.proofs.lemmas.Simd.{length-chunk, zip2_splat_left, tops_compared, mask_l-mod, none_from_empty_mask, trailing_mask_l, run_in_chunk_fails}
use Rattle.std.proofs.Math.ListN.{get_or-eq_default}
use lib.Count.{count_trailing_zeros}
use lib.Lanes.{chunk, zip2, mask_l, top}

abbrev pub wide : ℕ → Bool
wide b = leb 128 b

-- a bit for each of the first sixteen bytes, set where the byte is over 127
abbrev pub mask_of : List ℕ → ℕ
mask_of bs = mask_l (map (top 7) (zip2 (λ a b. cond (leb a b) 255 0) (replicate 16 128) (take 16 bs))) % 2 ^ 64

mask_is : (bs : List ℕ) → 16 ≤ length bs → mask_of bs ≡ mask_l (map wide (chunk 0 16 bs))
mask_is bs l =
    let long = length-chunk 0 16 bs l in
    ap (λ ms. mask_l ms % 2 ^ 64) (tops_compared w8 leb (replicate 16 128) (chunk 0 16 bs) ∙ zip2_splat_left leb 128 16 (chunk 0 16 bs) long)
    ∙ mask_l-mod (map wide (chunk 0 16 bs)) 64 (omega (arith, length-map (chunk 0 16 bs) wide, long))

-- the bytes before a place, where none of them is over 127
pub ascii_below : (bs : List ℕ) (n : ℕ) → ((k : ℕ) → k < n → wide (get_or bs k 0) ≡ false) → IsAscii (take n bs)
ascii_below bs n h i =
    elim (cases_lt i n) [
      | inl l ↦ subst (λ b. b < 128) (sym (get_or-take n bs i 0 l)) (omega (arith, leb-false _ _ (h i l)))
      | inr l ↦ subst (λ b. b < 128) (sym (get_or-eq_default (take n bs) 0 {n = i} (omega (arith, length-take n bs)))) (omega arith)
    ]

-- where no bit is set
pub ascii_of_empty_mask : (bs : List ℕ) (n : ℕ) → 16 ≤ length bs → n ≤ 16 → mask_of bs ≡ 0 → IsAscii (take n bs)
ascii_of_empty_mask bs n l few none =
    ascii_below bs n (λ k lt. none_from_empty_mask wide bs 0 16 0 l (sym (mask_is bs l) ∙ none) k (omega arith) (omega arith))

-- before the lowest bit that is set
pub ascii_below_lowest : (bs : List ℕ) (n : ℕ) → 16 ≤ length bs → 0 < mask_of bs → n ≤ count_trailing_zeros 64 (mask_of bs) → IsAscii (take n bs)
ascii_below_lowest bs n l some below =
    let same = mask_is bs l in
    let long = length-chunk 0 16 bs l in
    let lowest = trailing_mask_l wide 64 (chunk 0 16 bs) (omega (arith, long)) (omega (arith, same, some)) in
    let counted = ap (λ m. count_trailing_zeros 64 m) same ∙ lowest in
    ascii_below bs n (λ k lt. run_in_chunk_fails wide bs 0 16 _ 0 l counted k (omega arith) (omega arith))
