use Rattle.std.proofs.Common.{◌≡◌, ◌*◌, ◌^◌, ℕ, IfSome, sym, subst}
use Rattle.values_from_json.specs.Digits.{FitsNoDecimal128}
use Rattle.values_from_json.specs.declared.decimal.Kept.{Kept}
use Rattle.values_from_json.proofs.Decimals.{after_both, too_long_behind}
use Rattle.values_from_json.proofs.decimal.digits_of.Goals as goal

pub returns-in_err-with_digits-clause-none : goal.returns-in_err-with_digits-clause-none
returns-in_err-with_digits-clause-none c =
    λ _. too_long_behind c.args.whole.now c.args.fraction.now c.requires.fraction (c.with_digits.ensures.none c.in_err-with_digits.was)

pub returns-clause-some : goal.returns-clause-some
returns-clause-some c =
    subst (λ (x : ℕ). IfSome c.with_digits-2.result (λ (kept : Kept). x ≡ kept.coefficient * 10 ^ kept.zeros))
    (sym (after_both c.args.whole.now c.args.fraction.now _ c.in_ok-with_digits.ensures.some)) c.with_digits-2.ensures.some

pub returns-clause-none : goal.returns-clause-none
returns-clause-none c =
    λ none. subst FitsNoDecimal128 (sym (after_both c.args.whole.now c.args.fraction.now _ c.in_ok-with_digits.ensures.some)) (c.with_digits-2.ensures.none none)
