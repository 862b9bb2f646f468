-- Distinct keys before others, and after others.
use Rattle.std.proofs.Common.{◌≡◌, ◌++◌, ◌∷◌, [], ℕ, List, false, length, arith, refl}
use Rattle.std.proofs.lemmas.Cmp.{nat_list_eq_equiv}
use Rattle.std.proofs.lemmas.List.{get_or_append_left, get_or_at, length-append}
use Rattle.std.proofs.lemmas.List.Folds.{list_any_none}
use Rattle.std.proofs.lemmas.Map.Keys.{IsDistinct-from_apart, apart_from_distinct}
use Rattle.std.specs.List.{IsDistinct, list_any}
use Rattle.std.specs.Str.{bytes_eq}

pub distinct_front : (xs ys : List (List ℕ)) → IsDistinct bytes_eq (xs ++ ys) → IsDistinct bytes_eq xs
distinct_front xs ys h =
    IsDistinct-from_apart bytes_eq xs (λ i j d l m. grind (arith, apart_from_distinct bytes_eq (xs ++ ys) i j d h, get_or_append_left {A = List ℕ}, length-append {A = List ℕ}))

pub distinct_apart : (xs : List (List ℕ)) (key : List ℕ) → IsDistinct bytes_eq (xs ++ key ∷ []) → list_any (bytes_eq key) xs ≡ false
distinct_apart xs key h = list_any_none (bytes_eq key) xs (λ k d l.
    let apart = apart_from_distinct bytes_eq (xs ++ key ∷ []) k (length xs) d h l in
    grind (arith, apart, get_or_append_left xs (key ∷ []) d k l, get_or_at xs key [] d (length xs) refl, length-append xs (key ∷ []), nat_list_eq_equiv.symm))
