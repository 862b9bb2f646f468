-- When a derived `==` of an enum decides equality of what the values mean.
use Rattle.std.proofs.Common.{◌≡◌, ℕ, suc, ◌≤◌, Bool, true, false, ◌&&◌, refl, ap, sym, ◌∙◌, arith, Decides}
use mathlib.Core.List.{List, [], ◌∷◌}
use mathlib.Core.Logic.{inl, inr}
use denote.Struct.Field.{Field}
use denote.Struct.Values.{Values}
use denote.Enum.Declared.{Choice}
use denote.Enum.Compared.{by, Each}

module _ {X : Type 0} (kind : X → ℕ) where
  -- the values of the variants are of different kinds, in order
  abbrev pub Kinds : (Fss : List (List Field)) → ℕ → (Choice Fss → X) → Type 0
  Kinds [] n make = Unit {0}
  Kinds (Fs ∷ Fss) n make = ((u : Values Fs) → kind (make (inl u)) ≡ n) × Kinds Fss (suc n) (λ c. make (inr c))

  later : (Fss : List (List Field)) (n : ℕ) (make : Choice Fss → X) → Kinds Fss n make → (c : Choice Fss) → n ≤ kind (make c)
  later [] n make k c = absurd c
  later (Fs ∷ Fss) n make k (inl u) = let at = k.0 u in omega arith
  later (Fs ∷ Fss) n make k (inr c) = let at = later Fss (suc n) (λ d. make (inr d)) k.1 c in omega arith

  -- within each variant the test decides equality, for the values that are small
  abbrev pub AllDecide : (Fss : List (List Field)) → Each Bool Fss → (Choice Fss → X) → (Choice Fss → Type 0) → Type 0
  AllDecide [] each make Small = Unit {0}
  AllDecide (Fs ∷ Fss) each make Small = ((u v : Values Fs) → Small (inl u) → Decides (each.0 u v) (make (inl u) ≡ make (inl v))) × AllDecide Fss each.1 (λ c. make (inr c)) (λ c. Small (inr c))

  -- then the test of all variants decides it
  pub decided : (Fss : List (List Field)) (n : ℕ) (each : Each Bool Fss) (make : Choice Fss → X) (Small : Choice Fss → Type 0) → Kinds Fss n make
      → AllDecide Fss each make Small → (c d : Choice Fss) → Small c → Decides (by false false Fss each c d) (make c ≡ make d)
  decided [] n each make Small k s c d small = absurd c
  decided (Fs ∷ Fss) n each make Small k s (inl u) (inl v) small = s.0 u v small
  decided (Fs ∷ Fss) n each make Small k s (inl u) (inr d) small =
      (λ p. cc, λ q. absurd (let at = k.0 u in let past = later Fss (suc n) (λ e. make (inr e)) k.1 d in let e = ap kind q in omega arith))
  decided (Fs ∷ Fss) n each make Small k s (inr c) (inl v) small =
      (λ p. cc, λ q. absurd (let at = k.0 v in let past = later Fss (suc n) (λ e. make (inr e)) k.1 c in let e = ap kind q in omega arith))
  decided (Fs ∷ Fss) n each make Small k s (inr c) (inr d) small = decided Fss (suc n) each.1 (λ e. make (inr e)) (λ e. Small (inr e)) k.1 s.1 c d small

-- a test that decides one fact decides each equivalent fact
pub along : {P Q : Type 0} (b c : Bool) → b ≡ c → Decides c P → (P → Q) → (Q → P) → Decides b Q
along b c e d f g = (λ p. f (d.0 (sym e ∙ p)), λ q. e ∙ d.1 (g q))

-- of two facts
pub joined : {P Q R : Type 0} (a b : Bool) → Decides a P → Decides b Q → (P → Q → R) → (R → P) → (R → Q) → Decides (a && b) R
joined true b d e f g k = (λ p. f (d.0 refl) (e.0 p), λ r. e.1 (k r))
joined false b d e f g k = (λ p. cc, λ r. d.1 (g r))
