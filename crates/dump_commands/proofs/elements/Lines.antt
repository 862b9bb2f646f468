-- The lines of runs.
use Rattle.std.proofs.Common.{◌≡◌, ◌++◌, ◌+◌, ◌<◌, ◌-◌, ℕ, List, suc, zero, [], ◌∷◌, arith, append_assoc, ap, sym, ◌∙◌, drop, length, refl, take, nat_lt, true}
use Rattle.dump_commands.specs.elements.Runs.{line_at, next_lines, row_text}

pub next_step : (n at : ℕ) (rest : List ℕ) → 0 < n → 0 < length rest
    → next_lines n at rest ≡ line_at at (row_text 32 (take 16 rest)) ++ next_lines (n - 1) (at + 16) (drop 16 rest)
next_step zero at rest h more = absurd (omega (arith, h))
next_step (suc n) at [] h more = absurd (omega (arith, more))
next_step (suc n) at (x ∷ xs) h more =
    let yes : nat_lt 0 (length (x ∷ xs)) ≡ true = grind (arith, more) in
    let less : suc n - 1 ≡ n = omega arith in
    rw (yes, less) refl

-- a line more is put
pub next_put : (text new row rest behind all : List ℕ) (n at : ℕ) → text ++ next_lines n at rest ≡ all → (0 < n) × (0 < length rest)
    → (row ≡ take 16 rest) × (behind ≡ drop 16 rest) → new ≡ text ++ line_at at (row_text 32 row) → new ++ next_lines (n - 1) (at + 16) behind ≡ all
next_put text new row rest behind all n at so (h, more) (front, back) put =
    (λ i. put i ++ next_lines (n - 1) (at + 16) (back i)) ∙ append_assoc text (line_at at (row_text 32 row)) (next_lines (n - 1) (at + 16) (drop 16 rest))
    ∙ ap (λ (x : List ℕ). text ++ (line_at at (row_text 32 x) ++ next_lines (n - 1) (at + 16) (drop 16 rest))) front
    ∙ ap (λ (x : List ℕ). text ++ x) (sym (next_step n at rest h more)) ∙ so
