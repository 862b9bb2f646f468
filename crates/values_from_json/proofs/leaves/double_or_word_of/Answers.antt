use Rattle.std.proofs.Common.{◌≡◌, ℕ, List, codes, inl, inr, subst, sym}
use Rattle.std.specs.Float.Parse.{without_sign}
use Rattle.values_from_json.specs.DecimalTexts.{IsWord}
use Rattle.values_from_json.specs.Numbers.{WritesDouble, WritesNearest}
use Rattle.values_from_json.proofs.Decimals.{no_word}
use Rattle.values_from_json.proofs.leaves.double_or_word_of.Goals as goal

-- a text that is none of the words and no finite number writes no double
none_written : (s size : List ℕ) → size ≡ without_sign s → (IsWord (codes "infinity") size → ⊥) → (IsWord (codes "inf") size → ⊥) → (IsWord (codes "nan") size → ⊥)
    → ((bits : ℕ) → WritesNearest s bits → ⊥) → (bits : ℕ) → WritesDouble s bits → ⊥
none_written s size e a b c f bits (inl (inl w, is)) = a (subst (IsWord (codes "infinity")) (sym e) w)
none_written s size e a b c f bits (inl (inr w, is)) = b (subst (IsWord (codes "inf")) (sym e) w)
none_written s size e a b c f bits (inr (inl (w, is))) = c (subst (IsWord (codes "nan")) (sym e) w)
none_written s size e a b c f bits (inr (inr w)) = f bits w

pub returns-clause-none : goal.returns-clause-none
returns-clause-none c =
    λ none. none_written c.args.text.now _ c.split_sign-is_negative.ensures.behind (no_word c.if-is_word.false c.is_word.ensures)
    (no_word c.if-is_word-2.false c.is_word-else-is_word.ensures) (no_word c.if-is_word-3.false c.is_word-2.ensures) (c.nearest_of.ensures.none none)
