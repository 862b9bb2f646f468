-- The keys of wrappers.
use Rattle.std.proofs.Common.{◌≡◌, ◌||◌, ℕ, Bool, true, false, List, refl, sym}
use Rattle.std.specs.Str.{bytes_eq}
use Rattle.std.proofs.lemmas.Slice.Eq.{bytes_eq-Decides}

not_true : (b : Bool) → (b ≡ true → ⊥) → b ≡ false
not_true true h = absurd (h refl)
not_true false h = refl

neither : (a b : Bool) → a ≡ false → b ≡ false → (a || b) ≡ false
neither false b e f = f
neither true b e f = e

-- a key that isn't the first of these, nor one of the others
pub nor : (key name : List ℕ) (others : Bool) → (key ≡ name → ⊥) → others ≡ false → (bytes_eq name key || others) ≡ false
nor key name others unlike none = neither (bytes_eq name key) others (not_true _ (λ e. unlike (sym ((bytes_eq-Decides name key).0 e)))) none
