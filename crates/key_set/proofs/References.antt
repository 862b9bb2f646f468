-- The texts of references, and what holds of each key.
use Rattle.std.proofs.Common.{arith, ◌<◌, ◌≤◌, ◌≡◌, ◌+◌, ◌++◌, ◌∷◌, [], ℕ, List, Bor, length, drop, take, get_or, ap, sym, ◌∙◌}
use Rattle.std.proofs.lemmas.List.{drop-map, drop_at, take_at, length-map, map-append, take-map, take_more, take_all}
use Rattle.std.proofs.lemmas.List.Elements.{Contains-push_cases}
use Rattle.std.specs.List.{Contains}
use Rattle.key_set.specs.References.{texts}

pub length_texts : (refs : List (Bor (List ℕ))) → length (texts refs) ≡ length refs
length_texts refs = length-map refs (λ (k : Bor (List ℕ)). k.now)

pub texts_behind : (refs : List (Bor (List ℕ))) (below own : List (List ℕ)) (first : ℕ) → first ≡ length below → texts refs ≡ below ++ own → texts (drop first refs) ≡ own
texts_behind refs below own first f e = rw (← drop-map (λ (k : Bor (List ℕ)). k.now) first refs, e) (drop_at below own first (sym f))

pub texts_front : (refs : List (Bor (List ℕ))) (below own : List (List ℕ)) (first : ℕ) → first ≡ length below → texts refs ≡ below ++ own → texts (take first refs) ≡ below
texts_front refs below own first f e = rw (← take-map (λ (k : Bor (List ℕ)). k.now) first refs, e) (take_at below own first (sym f))

pub texts_push : (refs : List (Bor (List ℕ))) (key : Bor (List ℕ)) {after : List (Bor (List ℕ))} → after ≡ refs ++ key ∷ [] → texts after ≡ texts refs ++ key.now ∷ []
texts_push refs key e = ap texts e ∙ map-append (λ (k : Bor (List ℕ)). k.now) refs (key ∷ [])

pub texts_more : (refs : List (Bor (List ℕ))) (i : ℕ) (d : Bor (List ℕ)) → i < length refs → texts (take (i + 1) refs) ≡ texts (take i refs) ++ (get_or refs i d).now ∷ []
texts_more refs i d l = texts_push (take i refs) (get_or refs i d) (take_more refs i d l)

pub texts_all : (refs : List (Bor (List ℕ))) (i : ℕ) → length refs ≤ i → texts (take i refs) ≡ texts refs
texts_all refs i l = ap texts (take_all i refs l)

-- what holds of each key, with one more key
pub each_more : (P Q : List ℕ → Type 0) (keys : List (List ℕ)) (key : List ℕ) → ((k : List ℕ) → Contains keys k → P k) → ((k : List ℕ) → P k → Q k) → Q key
    → (k : List ℕ) → Contains (keys ++ key ∷ []) k → Q k
each_more P Q keys key h kept here k c = grind (arith, Contains-push_cases keys key k c, h k, kept k, here)

-- and with the next reference
pub each_next : (P Q : List ℕ → Type 0) (refs : List (Bor (List ℕ))) (i : ℕ) (d : Bor (List ℕ)) → i < length refs → ((k : List ℕ) → Contains (texts (take i refs)) k → P k)
    → ((k : List ℕ) → P k → Q k) → Q (get_or refs i d).now → (k : List ℕ) → Contains (texts (take (i + 1) refs)) k → Q k
each_next P Q refs i d l h kept here k c = each_more P Q (texts (take i refs)) (get_or refs i d).now h kept here k (rw (texts_more refs i d l) at c)
