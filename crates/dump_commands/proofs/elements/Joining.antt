-- Texts with separators between them, and what follows paths.
use Rattle.std.proofs.Common.{◌≡◌, ◌<◌, ◌+◌, ◌∙◌, ℕ, zero, suc, List, [], ◌∷◌, ◌++◌, Bool, Vec, ap, append_assoc, arith, codes, cond, decimal, get_or, length, nat_eq, nat_lt, refl, sym, take}
use Rattle.std.proofs.Math.Dec.{eqb-suc-zero}
use Rattle.std.proofs.lemmas.Bool.{lt-ltb}
use Rattle.std.proofs.lemmas.List.{append-nil, length-map, length-take-le, map_push, take_more}
use Rattle.std.specs.declared.alloc.Global.{Global}
use Rattle.dump_commands.specs.elements.Changes.{changes_words, items_of, separated}
use Rattle.dump_commands.specs.elements.Numbered.{after_paths}

-- one text more
joined_push : (separator first : List ℕ) (texts : List (List ℕ)) (text : List ℕ)
    → separated separator (first ∷ (texts ++ text ∷ [])) ≡ separated separator (first ∷ texts) ++ (separator ++ text)
joined_push separator first [] text = refl
joined_push separator first (next ∷ texts) text =
    ap (λ (rest : List ℕ). first ++ (separator ++ rest)) (joined_push separator next texts text)
    ∙ ap (λ (rest : List ℕ). first ++ rest) (sym (append_assoc separator (separated separator (next ∷ texts)) (separator ++ text)))
    ∙ sym (append_assoc first (separator ++ separated separator (next ∷ texts)) (separator ++ text))

joined_last : (separator : List ℕ) (texts : List (List ℕ)) (text : List ℕ)
    → separated separator (texts ++ text ∷ []) ≡ separated separator texts ++ (cond (nat_lt 0 (length texts)) separator [] ++ text)
joined_last separator [] text = refl
joined_last separator (first ∷ texts) text =
    joined_push separator first texts text
    ∙ ap (λ (b : Bool). separated separator (first ∷ texts) ++ (cond b separator [] ++ text)) (sym (lt-ltb 0 (length (first ∷ texts)) (omega arith)))

pub joined_more : (separator : List ℕ) (texts : List (Vec ℕ Global)) (i : ℕ) (d : Vec ℕ Global) (old new : List ℕ) → i < length texts → old ≡ separated separator (items_of (take i texts))
    → new ≡ old ++ (cond (nat_lt 0 i) separator [] ++ (get_or texts i d).items) → new ≡ separated separator (items_of (take (i + 1) texts))
joined_more separator texts i d old new there so_far is =
    let few = items_of (take i texts) in
    let text = (get_or texts i d).items in
    let size : length few ≡ i = length-map (take i texts) (λ (t : Vec ℕ Global). t.items) ∙ length-take-le i texts (omega (arith, there)) in
    let more : items_of (take (i + 1) texts) ≡ few ++ text ∷ [] = ap items_of (take_more texts i d there) ∙ map_push (λ (t : Vec ℕ Global). t.items) (take i texts) (get_or texts i d) in
    is ∙ (λ k. so_far k ++ (cond (nat_lt 0 (sym size k)) separator [] ++ text)) ∙ sym (joined_last separator few text) ∙ ap (separated separator) (sym more)

-- what tells paths, and what follows
words_with : (texts : List (List ℕ)) (more : ℕ) → separated (codes ", ") texts ++ after_paths (nat_eq (length texts) 0) more ≡ changes_words (record { texts = texts; more = more })
words_with [] zero = refl
words_with [] (suc n) = refl
words_with (text ∷ texts) zero =
    ap (λ (b : Bool). separated (codes ", ") (text ∷ texts) ++ after_paths b zero) (eqb-suc-zero (length texts)) ∙ append-nil (separated (codes ", ") (text ∷ texts))
    ∙ ap (λ (rest : List (List ℕ)). separated (codes ", ") (text ∷ rest)) (sym (append-nil texts))
words_with (text ∷ texts) (suc n) =
    ap (λ (b : Bool). separated (codes ", ") (text ∷ texts) ++ after_paths b (suc n)) (eqb-suc-zero (length texts))
    ∙ sym (joined_push (codes ", ") text texts (codes "and " ++ decimal (suc n) ++ codes " more"))

pub words_told : (paths : List (Vec ℕ Global)) (more : ℕ) (text : List ℕ) (none : Bool) → none ≡ nat_eq (length paths) 0
    → text ≡ separated (codes ", ") (items_of paths) ++ after_paths none more → text ≡ changes_words (record { texts = items_of paths; more = more })
words_told paths more text none empty is =
    is ∙ ap (λ (b : Bool). separated (codes ", ") (items_of paths) ++ after_paths b more) (empty ∙ ap (λ (n : ℕ). nat_eq n 0) (sym (length-map paths (λ (t : Vec ℕ Global). t.items))))
    ∙ words_with (items_of paths) more
