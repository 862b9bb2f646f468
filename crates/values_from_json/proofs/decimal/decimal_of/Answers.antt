use Rattle.std.proofs.Common.{◌≡◌, Bool, ℕ, List, subst, sym}
use Rattle.std.specs.Int.{w128, to_le_bytes}
use Rattle.std.specs.Str.Parse.{starts_with_minus}
use Rattle.std.specs.Float.Parse.{without_sign}
use Rattle.values_from_json.specs.DecimalTexts.{WritesBits, WritesDecimal}
use Rattle.values_from_json.proofs.Decimals.{on_err}
use Rattle.values_from_json.proofs.decimal.decimal_of.Goals as goal

written : (t size bytes : List ℕ) (negative : Bool) (n : ℕ) → negative ≡ starts_with_minus t → size ≡ without_sign t → WritesBits negative size n
    → bytes ≡ to_le_bytes w128 n → WritesDecimal t bytes
written t size bytes negative n e f is b =
    (n, subst (λ (x : Bool). WritesBits x (without_sign t) n) e (subst (λ (x : List ℕ). WritesBits negative x n) f is), b)

unwritten : (t size : List ℕ) (negative : Bool) → negative ≡ starts_with_minus t → size ≡ without_sign t → ((n : ℕ) → WritesBits negative size n → ⊥)
    → (bytes : List ℕ) → WritesDecimal t bytes → ⊥
unwritten t size negative e f none bytes (n, w, b) =
    none n (subst (λ (x : Bool). WritesBits x size n) (sym e) (subst (λ (x : List ℕ). WritesBits (starts_with_minus t) x n) (sym f) w))

pub returns-in_err-bits_of-clause-none : goal.returns-in_err-bits_of-clause-none
returns-in_err-bits_of-clause-none c =
    on_err c.from_residual.result
    (unwritten c.args.text.now _ _ c.split_sign-is_negative.ensures.negative c.split_sign-is_negative.ensures.behind c.in_err-bits_of.ensures.none)

pub returns-clause-some : goal.returns-clause-some
returns-clause-some c = written c.args.text.now _ _ _ _ c.split_sign-is_negative.ensures.negative c.split_sign-is_negative.ensures.behind c.in_ok-bits_of.ensures.some c.to_le_bytes.ensures
