-- Texts in quotes that need no escape.
use Rattle.std.proofs.Common.{◌≡◌, ◌<◌, ◌++◌, ℕ, suc, List, [], ◌∷◌, ap, arith, flat_map, refl, sym, ◌∙◌}
use Rattle.std.specs.Str.{chars, chars_after, lead_bits}
use Rattle.std.proofs.lemmas.Bool.{cond_below}
use Rattle.dump_io.specs.lines.Quoting.{ArePlain, IsPlain, shown_char, shown_text}

-- the characters of a text that begins with one of ASCII
ascii_first : (x : ℕ) (xs : List ℕ) → x < 128 → chars (x ∷ xs) ≡ x ∷ chars xs
unfolding chars
ascii_first x [] lt =
    ap (λ n. chars_after n (lead_bits x) []) (sym (cond_below x 128 0 _ lt)) ∙ ap (λ c. c ∷ []) (sym (cond_below x 128 x _ lt))
ascii_first x (y ∷ ys) lt =
    ap (λ n. chars_after n (lead_bits x) (y ∷ ys)) (sym (cond_below x 128 0 _ lt)) ∙ ap (λ c. c ∷ chars (y ∷ ys)) (sym (cond_below x 128 x _ lt))

pub plain_text : (bytes : List ℕ) → ArePlain bytes → shown_text bytes ≡ bytes
unfolding chars
plain_text [] plain = refl
plain_text (x ∷ xs) plain =
    let first : IsPlain x = plain 0 (omega arith) in
    let rest : shown_text xs ≡ xs = plain_text xs (λ i lt. plain (suc i) (omega (arith, lt))) in
    ap (flat_map shown_char) (ascii_first x xs first.0) ∙ ap (λ l. l ++ shown_text xs) first.1 ∙ ap (λ l. x ∷ l) rest
