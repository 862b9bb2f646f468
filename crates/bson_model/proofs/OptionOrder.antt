-- The result of putting the options of a regular expression in order.
use Rattle.std.proofs.Common.{◌≡◌, ◌≢◌, ◌⊎◌, inl, inr, ℕ, Bool, true, false, cond, ◌&&◌, List, [], ◌∷◌, ◌++◌, All, refl, ap, sym, subst, true≢false, ◌∙◌, lit<}
use Rattle.std.proofs.Math.Dec.{leb}
use Rattle.std.proofs.Math.Utf8.{scalars, scalar, encode, encodes}
use Rattle.std.specs.Cmp.Lexicographic.{bytes_decides}
use Rattle.std.specs.Prelude.{encode_utf8_all}
use Rattle.std.specs.List.Sorted.{IsNonDecreasing}
use Rattle.std.specs.Str.{bytes_eq, chars, IsUtf8}
use Rattle.std.proofs.lemmas.Str.{chars-encodes, encodes-chars, scalars-chars, encode_ascii, inside_one}
use Rattle.std.proofs.lemmas.List.Elements.{All-nil, All-cons, All-head, All-tail, All-append, All-from_get_or}
use Rattle.std.proofs.lemmas.List.Sorted.{All-permutation}
use Rattle.bson_model.specs.Bytes.{NulFree}
use Rattle.bson_model.specs.Options.{put_in_order, ascending, sorted_options, OptionsAscend, OrdersOptions}
use Rattle.bson_model.proofs.Ascending.{IsPermutation-ascending, IsNonDecreasing-ascending, ascending_same}

scalars-put_in_order : (c : ℕ) (ds : List ℕ) → scalar c ≡ true → scalars ds ≡ true → scalars (put_in_order c ds) ≡ true
scalars-put_in_order c [] e h = rw e refl
scalars-put_in_order c (d ∷ ds) e h =
    elim (leb c d) as (λ t. scalars (cond t (c ∷ d ∷ ds) (d ∷ put_in_order c ds)) ≡ true) [
      | true ↦ rw e h
      | false ↦ both_true (scalar d) (scalars ds) (scalars (put_in_order c ds)) h (λ k. scalars-put_in_order c ds e k)
    ]
  where
    both_true : (a b b' : Bool) → (a && b) ≡ true → (b ≡ true → b' ≡ true) → (a && b') ≡ true
    both_true true b b' e k = k e
    both_true false b b' e k = e

scalars-ascending : (cs : List ℕ) → scalars cs ≡ true → scalars (ascending cs) ≡ true
scalars-ascending [] e = refl
scalars-ascending (c ∷ cs) e = let parts = split (scalar c) (scalars cs) e in scalars-put_in_order c (ascending cs) parts.0 (scalars-ascending cs parts.1)
  where
    split : (a b : Bool) → (a && b) ≡ true → (a ≡ true) × (b ≡ true)
    split true b e = (refl, e)
    split false b e = cc

-- the characters of the sorted text
pub chars-sorted_options : (options : List ℕ) → IsUtf8 options → chars (sorted_options options) ≡ ascending (chars options)
chars-sorted_options options text = chars-encodes (ascending (chars options)) (scalars-ascending (chars options) (scalars-chars options text))

-- it is a text
pub IsUtf8-sorted_options : (options : List ℕ) → IsUtf8 options → IsUtf8 (sorted_options options)
IsUtf8-sorted_options options text = (ascending (chars options), (scalars-ascending (chars options) (scalars-chars options text), refl))

-- it never descends
pub OptionsAscend-sorted_options : (options : List ℕ) → IsUtf8 options → OptionsAscend (sorted_options options)
OptionsAscend-sorted_options options text = rw (chars-sorted_options options text) (IsNonDecreasing-ascending (chars options))

-- it puts the options in order
pub OrdersOptions-sorted_options : (options : List ℕ) → IsUtf8 options → OrdersOptions options (sorted_options options)
OrdersOptions-sorted_options options text = record {
  text = IsUtf8-sorted_options options text;
  same = rw (chars-sorted_options options text) (IsPermutation-ascending (chars options));
  ascend = OptionsAscend-sorted_options options text;
}

-- options that never descend stay as they are
pub sorted_options-same : (options : List ℕ) → IsUtf8 options → OptionsAscend options → sorted_options options ≡ options
sorted_options-same options text ascend = ap encode_utf8_all (ascending_same (chars options) ascend) ∙ encodes-chars options text

-- options never descend, or they do
pub options_decided : (options : List ℕ) → OptionsAscend options ⊎ ¬ OptionsAscend options
options_decided options = decided_by (bytes_eq (ascending (chars options)) (chars options)) refl
  where
    decided_by : (same : Bool) → bytes_eq (ascending (chars options)) (chars options) ≡ same → OptionsAscend options ⊎ ¬ OptionsAscend options
    decided_by true e = inl (subst IsNonDecreasing ((bytes_decides (ascending (chars options)) (chars options)).0 e) (IsNonDecreasing-ascending (chars options)))
    decided_by false e = inr (λ ascend. true≢false (sym ((bytes_decides (ascending (chars options)) (chars options)).1 (ascending_same (chars options) ascend)) ∙ e))

after_front : (xs ys : List ℕ) → NulFree (xs ++ ys) → NulFree ys
after_front [] ys h = h
after_front (x ∷ xs) ys h = after_front xs ys (All-tail (λ b. b ≢ 0) x (xs ++ ys) h)

no_nul_chars : (cs : List ℕ) → NulFree (encodes cs) → All (λ c. c ≢ 0) cs
no_nul_chars [] h = All-nil (λ c. c ≢ 0)
no_nul_chars (c ∷ cs) h =
    All-cons (λ c. c ≢ 0) c cs
    (λ z. let nul : encode c ≡ 0 ∷ [] = ap encode z ∙ encode_ascii 0 (lit< tt) in All-head (λ b. b ≢ 0) 0 (encodes cs) (rw nul at h) refl)
    (no_nul_chars cs (after_front (encode c) (encodes cs) h))

append_nil : (xs : List ℕ) → xs ++ [] ≡ xs
append_nil [] = refl
append_nil (x ∷ xs) = ap (λ l. x ∷ l) (append_nil xs)

NulFree-encode : (c : ℕ) → c ≢ 0 → NulFree (encode c)
NulFree-encode c other =
    All-from_get_or (λ b. b ≢ 0) (encode c) 0
    (λ k within z. other (inside_one c [] (encode c) k (sym (append_nil (encode c))) within (rw z (lit< tt)) ∙ z))

NulFree-encodes : (cs : List ℕ) → All (λ c. c ≢ 0) cs → NulFree (encodes cs)
NulFree-encodes [] h = All-nil (λ b. b ≢ 0)
NulFree-encodes (c ∷ cs) h =
    All-append (λ b. b ≢ 0) (encode c) (encodes cs) (NulFree-encode c (All-head (λ c. c ≢ 0) c cs h)) (NulFree-encodes cs (All-tail (λ c. c ≢ 0) c cs h))

-- it holds no 0 if the options hold none
pub NulFree-sorted_options : (options : List ℕ) → IsUtf8 options → NulFree options → NulFree (sorted_options options)
NulFree-sorted_options options text h =
    let cs = chars options in
    NulFree-encodes (ascending cs) (All-permutation (λ c. c ≢ 0) cs (ascending cs) (IsPermutation-ascending cs) (no_nul_chars cs (rw (encodes-chars options text) h)))
