-- Escapes of texts, run by run.
use Rattle.std.proofs.Common.{◌≡◌, ◌+◌, ◌<◌, ℕ, List, [], ◌∷◌, ◌++◌, length, take, drop, get_or, refl, sym, ap, ◌∙◌, append_assoc, append-nil}
use Rattle.bson_to_json.proofs.Common.{escape, escape_byte, take-add, take-length, take_more}

pub escape-append : (xs ys : List ℕ) → escape (xs ++ ys) ≡ escape xs ++ escape ys
escape-append [] ys = refl
escape-append (x ∷ xs) ys = ap (λ (l : List ℕ). escape_byte x ++ l) (escape-append xs ys) ∙ sym (append_assoc (escape_byte x) _ _)

-- one more byte after a run that is as it is
pub plain_more : (b : List ℕ) (i : ℕ) → i < length b → escape (take i b) ≡ take i b → escape_byte (get_or b i 0) ≡ get_or b i 0 ∷ [] → escape (take (i + 1) b) ≡ take (i + 1) b
plain_more b i lt plain one =
    let x = get_or b i 0 in
    let more : take (i + 1) b ≡ take i b ++ x ∷ [] = take_more b i 0 lt in
    let same : escape (x ∷ []) ≡ x ∷ [] = append-nil (escape_byte x) ∙ one in
    ap escape more ∙ escape-append (take i b) (x ∷ []) ∙ ap (λ (l : List ℕ). l ++ escape (x ∷ [])) plain ∙ ap (λ (l : List ℕ). take i b ++ l) same ∙ sym more

-- a run that is as it is, after what comes before it
pub run_put : (b : List ℕ) (i n m : ℕ) → m ≡ n → escape (take n (drop i b)) ≡ take n (drop i b) → escape (take i b) ++ take m (drop i b) ≡ escape (take (i + n) b)
run_put b i n m e plain =
    ap (λ (k : ℕ). escape (take i b) ++ take k (drop i b)) e ∙ ap (λ (l : List ℕ). escape (take i b) ++ l) (sym plain)
    ∙ sym (escape-append (take i b) (take n (drop i b))) ∙ ap escape (sym (take-add i n b))

pub whole_run : (b : List ℕ) (n : ℕ) → n ≡ length b → escape (take n b) ≡ escape b
whole_run b n e = ap escape (ap (λ (k : ℕ). take k b) e ∙ take-length b)

-- and the byte after it
pub byte_put : (b : List ℕ) (i : ℕ) → i < length b → escape (take i b) ++ escape_byte (get_or b i 0) ≡ escape (take (i + 1) b)
byte_put b i lt =
    let x = get_or b i 0 in
    ap (λ (l : List ℕ). escape (take i b) ++ l) (sym (append-nil (escape_byte x))) ∙ sym (escape-append (take i b) (x ∷ [])) ∙ ap escape (sym (take_more b i 0 lt))
