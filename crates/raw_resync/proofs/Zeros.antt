-- What a search for the first 0 finds.
use Rattle.std.proofs.Common.{◌≡◌, ◌≢◌, ℕ, ◌+◌, ◌<◌, ◌≤◌, ◌++◌, ◌∷◌, List, eqb, eqb-true, length, get_or, take, drop, zero, suc, ap, subst, arith}
use Rattle.std.proofs.lemmas.Grind.{common_steps}
use Rattle.std.proofs.lemmas.List.Elements.{All-more}
use Rattle.std.proofs.Math.Numerals.{add-one}
use Rattle.bson_model.specs.Bytes.{NulFree}
use Rattle.bson_model.proofs.Face.{NulFree-nil}
use Rattle.memchr.specs.Find.{IsFirstByte, is_byte}
use Rattle.std.specs.Prelude.{Some}
use Rattle.raw_resync.specs.Charge.{IsBehindZero}

free_below : (bs : List ℕ) (i : ℕ) → i ≤ length bs → ((k : ℕ) → k < i → get_or bs k 0 ≢ 0) → NulFree (take i bs)
free_below bs zero l h = NulFree-nil
free_below bs (suc i) l h =
    subst (λ n. NulFree (take n bs)) (add-one i) (All-more (λ b. b ≢ 0) bs i 0 (omega arith) (free_below bs i (omega arith) (λ k b. h k (omega arith))) (h i (omega arith)))

-- the search finds a 0
pub found_zero : (bs : List ℕ) (at : ℕ) → IsFirstByte (is_byte 0) bs (Some at) → IsBehindZero bs (drop (at + 1) bs)
found_zero bs at (none, passes) =
    let nul : get_or bs at 0 ≡ 0 = eqb-true _ _ passes in
    let within : at < length bs = none.high in
    let spelled : bs ≡ take at bs ++ 0 ∷ drop (at + 1) bs = grind (arith, common_steps, nul) in
    (take at bs, free_below bs at (omega (arith, within)) (λ k l z. none.before k (omega arith) l (ap (λ x. eqb x 0) z)), spelled)
