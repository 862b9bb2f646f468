-- What is kept of pairs that are inserted one after another.
use Rattle.std.proofs.Common.{◌≡◌, ℕ, Bool, true, false, not, cond, ◌||◌, List, [], ◌∷◌, ◌++◌, map, filter, reverse, fold, Option, Some, option_map, refl, ap, sym, ◌∙◌, append_assoc}
use Rattle.std.specs.List.{AllByRecursion, IsDistinct, filter_map, list_any}
use Rattle.std.specs.Str.{bytes_eq}
use Rattle.std.proofs.lemmas.List.{reverse-append, reverse-reverse}
use Rattle.std.proofs.lemmas.Slice.Eq.{bytes_eq-Decides}
use Rattle.bson_model.specs.Pairs.{first_keys, keys_of, value_at, with_pair, HasDistinctKeys, keep}

abbrev Key : Type 0
Key = List ℕ

same_key : (k l : Key) → bytes_eq k l ≡ true → k ≡ l
same_key k l h = (bytes_eq-Decides k l).0 h

itself : (k : Key) → bytes_eq k k ≡ true
itself k = (bytes_eq-Decides k k).1 refl

pub flipped : (k l : Key) → bytes_eq k l ≡ false → bytes_eq l k ≡ false
flipped k l h =
    elim (bytes_eq l k) as (λ b. bytes_eq l k ≡ b → b ≡ false) [
      | true ↦ λ e. let at : k ≡ l = sym (same_key l k e) in let yes : bytes_eq k l ≡ true = (bytes_eq-Decides k l).1 at in cc
      | false ↦ λ e. refl
    ] refl

-- the keys with one more, unless it is there
abbrev add_key : Key → List Key → List Key
add_key k ks = cond (list_any (bytes_eq k) ks) ks (ks ++ k ∷ [])

after_front : (l k : Key) (ks : List Key) (b : Bool) → l ∷ cond b ks (ks ++ k ∷ []) ≡ cond b (l ∷ ks) ((l ∷ ks) ++ k ∷ [])
after_front l k ks true = refl
after_front l k ks false = refl

keys_of-with_pair : {T : Type 0} (k : Key) (v : T) (ps : List (Key × T)) → keys_of (with_pair k v ps) ≡ add_key k (keys_of ps)
keys_of-with_pair k v [] = refl
keys_of-with_pair {T} k v (p ∷ ps) =
    elim (bytes_eq k p.0) as (λ b. keys_of {T = T} (cond b ((p.0, v) ∷ ps) (p ∷ with_pair k v ps)) ≡ cond (b || list_any (bytes_eq k) (keys_of ps)) (p.0 ∷ keys_of ps) ((p.0 ∷ keys_of ps) ++ k ∷ [])) [
      | true ↦ refl
      | false ↦ ap (λ l. p.0 ∷ l) (keys_of-with_pair k v ps) ∙ after_front p.0 k (keys_of ps) (list_any (bytes_eq k) (keys_of ps))
    ]

-- a key among others, with another key left out
list_any-filter : (k l : Key) (ks : List Key) → bytes_eq k l ≡ false → list_any (bytes_eq k) (filter (λ m. not (bytes_eq l m)) ks) ≡ list_any (bytes_eq k) ks
list_any-filter k l [] h = refl
list_any-filter k l (m ∷ ks) h =
    elim (bytes_eq l m) as (λ b. bytes_eq l m ≡ b → list_any (bytes_eq k)
    (cond (not b) (m ∷ filter (λ m. not (bytes_eq l m)) ks) (filter (λ m. not (bytes_eq l m)) ks)) ≡ (bytes_eq k m || list_any (bytes_eq k) ks)) [
      | true ↦ λ e. let no : bytes_eq k m ≡ false = rw (same_key l m e) at h in list_any-filter k l ks h ∙ ap (λ b. b || list_any (bytes_eq k) ks) (sym no)
      | false ↦ λ e. ap (λ b. bytes_eq k m || b) (list_any-filter k l ks h)
    ] refl

filter-last : (p : Key → Bool) (ks : List Key) (k : Key) → filter p (ks ++ k ∷ []) ≡ filter p ks ++ cond (p k) (k ∷ []) []
filter-last p [] k = elim (p k) as (λ b. cond b (k ∷ []) [] ≡ cond b (k ∷ []) []) [ true ↦ refl | false ↦ refl ]
filter-last p (l ∷ ks) k =
    elim (p l) as (λ b. cond b (l ∷ filter p (ks ++ k ∷ [])) (filter p (ks ++ k ∷ [])) ≡ cond b (l ∷ filter p ks) (filter p ks) ++ cond (p k) (k ∷ []) []) [
      | true ↦ ap (λ t. l ∷ t) (filter-last p ks k)
      | false ↦ filter-last p ks k
    ]

append_nil : {X : Type 0} (xs : List X) → xs ++ [] ≡ xs
append_nil [] = refl
append_nil (x ∷ xs) = ap (λ l. x ∷ l) (append_nil xs)

abbrev others : Key → List Key → List Key
others l ks = filter (λ m. not (bytes_eq l m)) ks

others-itself : (l k : Key) (ks : List Key) (b : Bool) → bytes_eq l k ≡ true → others l (cond b ks (ks ++ k ∷ [])) ≡ others l ks
others-itself l k ks true h = refl
others-itself l k ks false h = filter-last (λ m. not (bytes_eq l m)) ks k ∙ ap (λ c. others l ks ++ cond (not c) (k ∷ []) []) h ∙ append_nil (others l ks)

others-another : (l k : Key) (ks : List Key) (b : Bool) → bytes_eq l k ≡ false → others l (cond b ks (ks ++ k ∷ [])) ≡ cond b (others l ks) (others l ks ++ k ∷ [])
others-another l k ks true h = refl
others-another l k ks false h = filter-last (λ m. not (bytes_eq l m)) ks k ∙ ap (λ c. others l ks ++ cond (not c) (k ∷ []) []) h

add_key-others : (k l : Key) (ks : List Key) → l ∷ others l (add_key k ks) ≡ add_key k (l ∷ others l ks)
add_key-others k l ks =
    elim (bytes_eq k l) as (λ b. bytes_eq k l ≡ b → l ∷ others l (add_key k ks) ≡ cond (b || list_any (bytes_eq k) (others l ks)) (l ∷ others l ks) ((l ∷ others l ks) ++ k ∷ [])) [
      | true ↦ λ e. ap (λ t. l ∷ t) (others-itself l k ks (list_any (bytes_eq k) ks) ((bytes_eq-Decides l k).1 (sym (same_key k l e))))
      | false ↦ λ e. rw (list_any-filter k l ks e) (ap (λ t. l ∷ t) (others-another l k ks (list_any (bytes_eq k) ks) (flipped k l e)) ∙ after_front l k (others l ks) (list_any (bytes_eq k) ks))
    ] refl

first_keys-last : (ks : List Key) (k : Key) → first_keys (ks ++ k ∷ []) ≡ add_key k (first_keys ks)
first_keys-last [] k = refl
first_keys-last (l ∷ ks) k = ap (λ t. l ∷ filter (λ m. not (bytes_eq l m)) t) (first_keys-last ks k) ∙ add_key-others k l (first_keys ks)

replaced : {X : Type 0} (b c : Bool) (new old rest : X) → b ≡ c → cond b new rest ≡ cond c new (cond b old rest)
replaced true true new old rest e = refl
replaced true false new old rest e = cc
replaced false true new old rest e = cc
replaced false false new old rest e = refl

kept : {X : Type 0} (b c : Bool) (new old rest : X) → (b ≡ true → c ≡ false) → cond b old (cond c new rest) ≡ cond c new (cond b old rest)
kept true true new old rest h = absurd (let no = h refl in cc)
kept true false new old rest h = refl
kept false c new old rest h = refl

value_at-with_pair : {T : Type 0} (q k : Key) (v : T) (ps : List (Key × T)) → value_at q (with_pair k v ps) ≡ cond (bytes_eq q k) (Some v) (value_at q ps)
value_at-with_pair q k v [] = refl
value_at-with_pair {T} q k v (p ∷ ps) =
    elim (bytes_eq k p.0) as (λ b. bytes_eq k p.0 ≡ b → value_at {T = T} q (cond b ((p.0, v) ∷ ps) (p ∷ with_pair k v ps)) ≡ cond (bytes_eq q k) (Some v)
    (cond (bytes_eq q p.0) (Some p.1) (value_at q ps))) [
      | true ↦ λ e. replaced (bytes_eq q p.0) (bytes_eq q k) (Some v) (Some p.1) (value_at q ps) (ap (λ m. bytes_eq q m) (sym (same_key k p.0 e)))
      | false ↦ λ e. ap (λ o. cond (bytes_eq q p.0) (Some p.1) o) (value_at-with_pair q k v ps)
          ∙ kept (bytes_eq q p.0) (bytes_eq q k) (Some v) (Some p.1) (value_at q ps) (λ h. ap (λ m. bytes_eq m k) (same_key q p.0 h) ∙ flipped k p.0 e)
    ] refl

none_before : {K : Type 0} (f : K → Key) (l k : K) (ms : List K) → AllByRecursion (λ y. bytes_eq (f l) (f y) ≡ false) ms → bytes_eq (f l) (f k) ≡ false
    → AllByRecursion (λ y. bytes_eq (f l) (f y) ≡ false) (ms ++ k ∷ [])
none_before f l k [] h e = (e, tt)
none_before f l k (m ∷ ms) h e = (h.0, none_before f l k ms h.1 e)

both_false : (a b : Bool) → (a || b) ≡ false → (a ≡ false) × (b ≡ false)
both_false true b e = cc
both_false false b e = (refl, e)

pub distinct_last : {K : Type 0} (f : K → Key) (k : K) (ms : List K) → IsDistinct (λ k l. bytes_eq (f k) (f l)) ms → list_any (λ m. bytes_eq (f k) (f m)) ms ≡ false
    → IsDistinct (λ k l. bytes_eq (f k) (f l)) (ms ++ k ∷ [])
unfolding IsDistinct
distinct_last f k [] h e = (tt, tt)
distinct_last f k (m ∷ ms) h e =
    let parts = both_false (bytes_eq (f k) (f m)) (list_any (λ m. bytes_eq (f k) (f m)) ms) e in
    (none_before f m k ms h.0 (flipped (f k) (f m) parts.0), distinct_last f k ms h.1 parts.1)

distinct_add_key : (k : Key) (ks : List Key) → IsDistinct bytes_eq ks → IsDistinct bytes_eq (add_key k ks)
distinct_add_key k ks h =
    elim (list_any (bytes_eq k) ks) as (λ b. list_any (bytes_eq k) ks ≡ b → IsDistinct bytes_eq (cond b ks (ks ++ k ∷ []))) [
      | true ↦ λ e. h
      | false ↦ λ e. distinct_last (λ l. l) k ks h e
    ] refl

-- keys stay distinct
pub HasDistinctKeys-with_pair : {T : Type 0} (k : Key) (v : T) (ps : List (Key × T)) → HasDistinctKeys ps → HasDistinctKeys (with_pair k v ps)
HasDistinctKeys-with_pair k v ps h = rw (keys_of-with_pair k v ps) (distinct_add_key k (keys_of ps) h)

-- what each key has
abbrev look_up : {T : Type 0} → (Key → Option T) → List Key → List (Key × T)
look_up value ks = filter_map (λ k. option_map (λ v. (k, v)) (value k)) ks

look_up-others : {T : Type 0} (p : Key × T) (ps : List (Key × T)) (ks : List Key) → AllByRecursion (λ y. bytes_eq p.0 y ≡ false) ks
    → look_up (λ k. value_at k (p ∷ ps)) ks ≡ look_up (λ k. value_at k ps) ks
look_up-others p ps [] h = refl
look_up-others p ps (k ∷ ks) h =
    let no = flipped p.0 k h.0 in
    rw (no, look_up-others p ps ks h.1) refl

-- pairs with distinct keys are what each of their keys has
look_up-same : {T : Type 0} (ps : List (Key × T)) → HasDistinctKeys ps → look_up (λ k. value_at k ps) (keys_of ps) ≡ ps
unfolding IsDistinct
look_up-same [] h = refl
look_up-same (p ∷ ps) h = rw (itself p.0) (ap (λ qs. p ∷ qs) (look_up-others p ps (keys_of ps) h.0 ∙ look_up-same ps h.1))

-- the inserted pairs, the last one first
abbrev built : {T : Type 0} → List (Key × T) → List (Key × T) → List (Key × T)
built qs [] = qs
built qs (p ∷ ps) = with_pair p.0 p.1 (built qs ps)

built-append : {T : Type 0} (qs ps rs : List (Key × T)) → built qs (ps ++ rs) ≡ built (built qs rs) ps
built-append qs [] rs = refl
built-append qs (p ∷ ps) rs = ap (λ l. with_pair p.0 p.1 l) (built-append qs ps rs)

abbrev put : {T : Type 0} → List (Key × T) → Key × T → List (Key × T)
put qs p = with_pair p.0 p.1 qs

fold-built : {T : Type 0} (qs ps : List (Key × T)) → fold put qs ps ≡ built qs (reverse ps)
fold-built qs [] = refl
fold-built qs (p ∷ ps) = fold-built (put qs p) ps ∙ sym (built-append qs (reverse ps) (p ∷ [])) ∙ ap (λ rs. built qs rs) (sym (reverse-append (p ∷ []) ps))

distinct_built : {T : Type 0} (ps : List (Key × T)) → HasDistinctKeys (built [] ps)
unfolding IsDistinct
distinct_built [] = tt
distinct_built (p ∷ ps) = HasDistinctKeys-with_pair p.0 p.1 (built [] ps) (distinct_built ps)

value_at-built : {T : Type 0} (q : Key) (ps : List (Key × T)) → value_at q (built [] ps) ≡ value_at q ps
value_at-built q [] = refl
value_at-built q (p ∷ ps) = value_at-with_pair q p.0 p.1 (built [] ps) ∙ ap (λ o. cond (bytes_eq q p.0) (Some p.1) o) (value_at-built q ps)

map-append : {X Y : Type 0} (f : X → Y) (xs ys : List X) → map f (xs ++ ys) ≡ map f xs ++ map f ys
map-append f [] ys = refl
map-append f (x ∷ xs) ys = ap (λ l. f x ∷ l) (map-append f xs ys)

keys_of-built : {T : Type 0} (ps : List (Key × T)) → keys_of (built [] ps) ≡ first_keys (keys_of (reverse ps))
keys_of-built [] = refl
keys_of-built {T} (p ∷ ps) =
    keys_of-with_pair p.0 p.1 (built [] ps) ∙ ap (λ ks. add_key p.0 ks) (keys_of-built ps)
    ∙ sym (first_keys-last (keys_of (reverse ps)) p.0)
    ∙ ap first_keys (sym (map-append (λ (r : Key × T). r.0) (reverse ps) (p ∷ [])) ∙ ap (λ rs. keys_of {T = T} rs) (sym (reverse-append (p ∷ []) ps)))

keep-built : {T : Type 0} (ps : List (Key × T)) → keep ps ≡ built [] (reverse ps)
keep-built ps =
    (λ i. look_up (λ k. sym (value_at-built k (reverse ps)) i) (first_keys (keys_of ps)))
    ∙ ap (λ qs. look_up (λ k. value_at k (built [] (reverse ps))) (first_keys (keys_of qs))) (sym (reverse-reverse ps))
    ∙ ap (λ ks. look_up (λ k. value_at k (built [] (reverse ps))) ks) (sym (keys_of-built (reverse ps)))
    ∙ look_up-same (built [] (reverse ps)) (distinct_built (reverse ps))

-- pairs that are inserted one after another are kept like that
pub fold-keep : {T : Type 0} (ps : List (Key × T)) → fold (λ qs p. with_pair p.0 p.1 qs) [] ps ≡ keep ps
fold-keep ps = fold-built [] ps ∙ sym (keep-built ps)

-- one more pair
pub keep-last : {T : Type 0} (ps : List (Key × T)) (k : Key) (v : T) → keep (ps ++ (k, v) ∷ []) ≡ with_pair k v (keep ps)
keep-last ps k v = keep-built (ps ++ (k, v) ∷ []) ∙ ap (λ rs. built [] rs) (reverse-append ps ((k, v) ∷ [])) ∙ ap (λ qs. with_pair k v qs) (sym (keep-built ps))

-- what is kept has distinct keys
pub HasDistinctKeys-keep : {T : Type 0} (ps : List (Key × T)) → HasDistinctKeys (keep ps)
HasDistinctKeys-keep ps = rw (keep-built ps) (distinct_built (reverse ps))

unlike_later : {T : Type 0} (k : Key) (ps : List (Key × T)) (p : Key × T) (rs : List (Key × T)) → AllByRecursion (λ y. bytes_eq k y ≡ false) (keys_of (ps ++ p ∷ rs)) → bytes_eq k p.0 ≡ false
unlike_later k [] p rs h = h.0
unlike_later k (q ∷ ps) p rs h = unlike_later k ps p rs h.1

with_pair-new : {T : Type 0} (ps : List (Key × T)) (p : Key × T) (rs : List (Key × T)) → HasDistinctKeys (ps ++ p ∷ rs) → with_pair p.0 p.1 ps ≡ ps ++ p ∷ []
unfolding IsDistinct
with_pair-new [] p rs h = refl
with_pair-new (q ∷ ps) p rs h = rw (flipped q.0 p.0 (unlike_later q.0 ps p rs h.0)) (ap (λ l. q ∷ l) (with_pair-new ps p rs h.1))

fold-distinct : {T : Type 0} (qs ps : List (Key × T)) → HasDistinctKeys (qs ++ ps) → fold put qs ps ≡ qs ++ ps
fold-distinct qs [] h = sym (append_nil qs)
fold-distinct qs (p ∷ ps) h =
    ap (λ l. fold put l ps) (with_pair-new qs p ps h) ∙ fold-distinct (qs ++ p ∷ []) ps (rw append_assoc h) ∙ append_assoc qs (p ∷ []) ps

-- pairs with distinct keys are kept as they are
pub keep-distinct : {T : Type 0} (ps : List (Key × T)) → HasDistinctKeys ps → keep ps ≡ ps
keep-distinct ps h = sym (fold-keep ps) ∙ fold-distinct [] ps h
