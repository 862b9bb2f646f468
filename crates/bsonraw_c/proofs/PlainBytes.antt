-- What follows for bytes from the mask of comparing them with 0 and with 128.
use Rattle.std.proofs.Common.{◌≡◌, ◌≢◌, ℕ, ◌+◌, ◌-◌, ◌%◌, ◌^◌, ◌<◌, ◌≤◌, ◌||◌, ◌++◌, Bool, true, false, cond, eqb, leb, leb-false, List, [], ◌∷◌, map, length, get_or, take, drop, replicate, zero, suc, IsAscii, refl, sym, ap, ap₂, subst, ◌∙◌, arith, inl, inr}
use Rattle.std.proofs.lemmas.Bool.{cases_lt, true≢false}
use Rattle.std.proofs.lemmas.List.{get_or-take, length-map, length-take, take_all, take-append-drop, take-take}
use Rattle.std.proofs.lemmas.List.Elements.{All-append, All-more, All-nil, All-take}
use Rattle.std.proofs.lemmas.Simd.{length-chunk, zip2_splat, zip2_splat_left, mask_l-mod, none_from_empty_mask}
use Rattle.std.proofs.lemmas.Str.{IsAscii-append, IsAscii-take, IsUtf8-append, IsUtf8-from_ascii}
use Rattle.std.proofs.Math.ListN.{get_or-eq_default}
use Rattle.std.proofs.Math.Numerals.{add-one}
use Rattle.std.proofs.Math.Seq.{take-add}
use Rattle.std.specs.Str.{IsUtf8}
use Rattle.raw_bson.specs.Bytes.{NulFree}
use Rattle.bsonraw_c.specs.Build.{IsCText}
use lib.Bits.{bit_or}
use lib.Lanes.{chunk, zip2, mask_l, top}

-- none of the first n bytes is 0 or over 127
abbrev pub IsPlain : ℕ → List ℕ → Type 0
IsPlain n bs = NulFree (take n bs) × IsAscii (take n bs)

abbrev wide : ℕ → Bool
wide b = leb 128 b

-- a byte at which plain bytes end
abbrev ends : ℕ → Bool
ends b = eqb b 0 || wide b

abbrev is_nul : ℕ → ℕ
is_nul b = cond (eqb b 0) 255 0

abbrev is_wide : ℕ → ℕ
is_wide b = cond (leb 128 b) 255 0

nul_free_below : (bs : List ℕ) (i : ℕ) → i ≤ length bs → ((k : ℕ) → k < i → get_or bs k 0 ≢ 0) → NulFree (take i bs)
nul_free_below bs zero l h = All-nil (λ b. b ≢ 0)
nul_free_below bs (suc i) l h =
    subst (λ n. NulFree (take n bs)) (add-one i) (All-more (λ b. b ≢ 0) bs i 0 (omega arith) (nul_free_below bs i (omega arith) (λ k b. h k (omega arith))) (h i (omega arith)))

ascii_below : (bs : List ℕ) (n : ℕ) → ((k : ℕ) → k < n → wide (get_or bs k 0) ≡ false) → IsAscii (take n bs)
ascii_below bs n h i =
    elim (cases_lt i n) [
      | inl l ↦ subst (λ b. b < 128) (sym (get_or-take n bs i 0 l)) (omega (arith, leb-false _ _ (h i l)))
      | inr l ↦ subst (λ b. b < 128) (sym (get_or-eq_default (take n bs) 0 {n = i} (omega (arith, length-take n bs)))) (omega arith)
    ]

top_of : (p q : Bool) → top 7 (bit_or (cond p 255 0) (cond q 255 0)) ≡ p || q
top_of true true = refl
top_of true false = refl
top_of false true = refl
top_of false false = refl

tops : (v : List ℕ) → map (top 7) (zip2 bit_or (map is_nul v) (map is_wide v)) ≡ map ends v
tops [] = refl
tops (b ∷ v) = ap₂ (λ x xs. x ∷ xs) (top_of (eqb b 0) (leb 128 b)) (tops v)

-- a bit for each of the first n bytes, set where the byte is 0 or over 127
abbrev pub ends_of : ℕ → List ℕ → ℕ
ends_of n bs = mask_l (map (top 7) (zip2 bit_or (zip2 (λ a b. cond (eqb a b) 255 0) (take n bs) (replicate n 0)) (zip2 (λ a b. cond (leb a b) 255 0) (replicate n 128) (take n bs)))) % 2 ^ 64

neither : (p q : Bool) → p || q ≡ false → (p ≡ false) × (q ≡ false)
neither true q e = absurd (true≢false e)
neither false q e = (refl, e)

module _ (n : ℕ) (bs : List ℕ) (few : n ≤ 64) (l : n ≤ length bs) where
  ends_is : ends_of n bs ≡ mask_l (map ends (chunk 0 n bs))
  ends_is =
      let v = chunk 0 n bs in
      let long : length v ≡ n = length-chunk 0 n bs (omega (arith, l)) in
      let lanes = ap₂ (zip2 bit_or) (zip2_splat (λ a b. cond (eqb a b) 255 0) v n 0 long) (zip2_splat_left (λ a b. cond (leb a b) 255 0) 128 n v long) in
      ap (λ z. mask_l (map (top 7) z) % 2 ^ 64) lanes ∙ ap (λ m. mask_l m % 2 ^ 64) (tops v) ∙ mask_l-mod (map ends v) 64 (omega (arith, length-map v ends, long))

  -- where no bit is set
  pub plain_all : ends_of n bs ≡ 0 → IsPlain n bs
  plain_all none =
      let none_ends : (k : ℕ) → k < n → ends (get_or bs k 0) ≡ false = λ k below. none_from_empty_mask ends bs 0 n 0 (omega (arith, l)) (sym ends_is ∙ none) k (omega arith) (omega arith) in (
        nul_free_below bs n (omega (arith, l)) (λ k below z. true≢false (sym (ap (λ x. eqb x 0) z) ∙ (neither (eqb (get_or bs k 0) 0) (wide (get_or bs k 0)) (none_ends k below)).0)),
        ascii_below bs n (λ k below. (neither (eqb (get_or bs k 0) 0) (wide (get_or bs k 0)) (none_ends k below)).1),
      )

-- The first n bytes are plain, and so are the last n, which begin among them or right after them. So all are.
pub plain_over : (n : ℕ) (bs : List ℕ) → n ≤ length bs → length bs ≤ n + n → IsPlain n bs → IsPlain n (drop (length bs - n) bs) → IsCText bs
plain_over n bs long short front behind =
    let b = length bs - n in
    let first : take b (take n bs) ≡ take b bs = take-take b n bs (omega (arith, short)) in
    let whole : bs ≡ take b bs ++ take n (drop b bs) = sym (take_all (b + n) bs (omega (arith, long))) ∙ take-add b n bs in (
      subst NulFree (sym whole) (All-append (λ x. x ≢ 0) (take b bs) (take n (drop b bs)) (subst NulFree first (All-take (λ x. x ≢ 0) b (take n bs) front.0)) behind.0),
      IsUtf8-from_ascii bs (subst IsAscii (sym whole) (IsAscii-append (take b bs) (take n (drop b bs)) (subst IsAscii first (IsAscii-take (take n bs) b front.1)) behind.1)),
    )

-- the first n bytes are plain, and what comes after them is a text without a 0: so all is
pub plain_more : (n : ℕ) (bs : List ℕ) → IsPlain n bs → IsCText (drop n bs) → IsCText bs
plain_more n bs front behind =
    let whole : take n bs ++ drop n bs ≡ bs = take-append-drop n bs in (
      subst NulFree whole (All-append (λ x. x ≢ 0) (take n bs) (drop n bs) front.0 behind.0),
      subst IsUtf8 whole (IsUtf8-append (take n bs) (drop n bs) (IsUtf8-from_ascii (take n bs) front.1) behind.1),
    )
