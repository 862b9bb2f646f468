-- What a search for the first 0 says of the bytes before it, and of a search in the nearest bytes alone.
use Rattle.std.proofs.Common.{◌≡◌, ◌≢◌, ℕ, ◌+◌, ◌<◌, ◌≤◌, ◌%◌, ◌^◌, ◌++◌, ◌∷◌, ◌∙◌, List, true, cond, eqb, eqb-true, length, get_or, map, replicate, take, drop, zero, suc, sym, ap, subst, arith, w8, w16}
use Rattle.std.proofs.lemmas.Bool.{true≢false}
use Rattle.std.proofs.lemmas.Grind.{common_steps}
use Rattle.std.proofs.lemmas.List.{length-map, length-take-le, get_or-take}
use Rattle.std.proofs.lemmas.List.Elements.{All-more}
use Rattle.std.proofs.lemmas.Nat.Bits.{bit_at-trailing_zeros}
use Rattle.std.proofs.lemmas.Simd.{length-chunk, bitmask_splat, trailing_mask_l, mask_l-lt, run_in_chunk_fails, run_in_chunk_stops}
use Rattle.std.proofs.Math.Numerals.{add-one}
use Rattle.bson_model.specs.Bytes.{NulFree}
use Rattle.bson_model.proofs.Face.{NulFree-nil}
use lib.Count.{count_trailing_zeros}
use lib.Lanes.{chunk, zip2, mask_l, top}
use Rattle.memchr.specs.Find.{NoneBefore, Passes, is_byte}

-- the bytes before a place, where none of them is 0
pub NulFree-below : (bs : List ℕ) (i : ℕ) → i ≤ length bs → ((k : ℕ) → k < i → get_or bs k 0 ≢ 0) → NulFree (take i bs)
NulFree-below bs zero l h = NulFree-nil
NulFree-below bs (suc i) l h =
    subst (λ n. NulFree (take n bs)) (add-one i) (All-more (λ b. b ≢ 0) bs i 0 (omega arith) (NulFree-below bs i (omega arith) (λ k b. h k (omega arith))) (h i (omega arith)))

-- before the first that it finds
pub before_no_nul : (bs : List ℕ) (at : ℕ) → NoneBefore (Passes (is_byte 0) bs) 0 (length bs) at → NulFree (take at bs)
before_no_nul bs at h = NulFree-below bs at (omega (arith, h.high)) (λ k l z. h.before k (omega arith) l (ap (λ x. eqb x 0) z))

-- the bytes before it, the 0, and the bytes after it
pub split_there : (bs : List ℕ) (at : ℕ) → at < length bs → Passes (is_byte 0) bs at → bs ≡ take at bs ++ 0 ∷ drop (at + 1) bs
split_there bs at l h =
    let nul : get_or bs at 0 ≡ 0 = eqb-true _ _ h in
    grind (arith, common_steps, nul)

-- the first 0 of the nearest bytes is the first 0
pub found_near : (bs : List ℕ) (w at : ℕ) → w ≤ length bs → NoneBefore (Passes (is_byte 0) (take w bs)) 0 (length (take w bs)) at → Passes (is_byte 0) (take w bs) at
    → NoneBefore (Passes (is_byte 0) bs) 0 (length bs) at × Passes (is_byte 0) bs at
found_near bs w at l h p =
    let long : length (take w bs) ≡ w = length-take-le w bs l in
    let near : at < w = omega (arith, h.high, long) in (
      record {
        low = h.low;
        high = omega (arith, near, l);
        before = λ k low below q. h.before k low below (subst (λ x. eqb x 0 ≡ true) (sym (get_or-take w bs k 0 (omega (arith, below, near)))) q);
      },
      subst (λ x. eqb x 0 ≡ true) (get_or-take w bs at 0 near) p,
    )

-- a bit for each of the first sixteen bytes, set where the byte is 0
abbrev pub nuls_of : List ℕ → ℕ
nuls_of bs = mask_l (map (top 7) (zip2 (λ a b. cond (eqb a b) 255 0) (take 16 bs) (replicate 16 0))) % 2 ^ 64

-- where a bit is set, the lowest is the first 0
pub nul_of_mask : (bs : List ℕ) → 16 ≤ length bs → 0 < nuls_of bs
    → NoneBefore (Passes (is_byte 0) bs) 0 (length bs) (count_trailing_zeros 64 (nuls_of bs)) × Passes (is_byte 0) bs (count_trailing_zeros 64 (nuls_of bs))
nul_of_mask bs l some =
    let long : length (chunk 0 16 bs) ≡ 16 = length-chunk 0 16 bs l in
    let same : nuls_of bs ≡ mask_l (map (is_byte 0) (chunk 0 16 bs)) = bitmask_splat w8 eqb (chunk 0 16 bs) 16 0 long (omega arith) in
    let set : 0 < mask_l (map (is_byte 0) (chunk 0 16 bs)) = omega (arith, same, some) in
    let counted = ap (λ m. count_trailing_zeros 64 m) same ∙ trailing_mask_l (is_byte 0) 64 (chunk 0 16 bs) (omega (arith, long)) set in
    let bound : mask_l (map (is_byte 0) (chunk 0 16 bs)) < 2 ^ 16 =
    subst (λ n. mask_l (map (is_byte 0) (chunk 0 16 bs)) < 2 ^ n) (length-map (chunk 0 16 bs) (is_byte 0) ∙ long)
    (mask_l-lt (map (is_byte 0) (chunk 0 16 bs))) in
    let near : count_trailing_zeros 64 (nuls_of bs) < 16 =
    subst (λ n. n < 16) (trailing_mask_l (is_byte 0) 16 (chunk 0 16 bs) (omega (arith, long)) set ∙ sym counted) (bit_at-trailing_zeros w16 _ set bound).0 in (
      record {
        low = omega arith;
        high = omega (arith, near, l);
        before = λ k low below q. true≢false (sym q ∙ run_in_chunk_fails (is_byte 0) bs 0 16 _ 0 l counted k low (omega (arith, below)));
      },
      subst (λ n. Passes (is_byte 0) bs n) (omega arith) (run_in_chunk_stops (is_byte 0) bs 0 16 _ 0 l counted near),
    )
