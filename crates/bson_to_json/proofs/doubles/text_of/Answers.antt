use Rattle.bson_to_json.proofs.Common.{T, binary64, not, sign_text}
use lib.Ieee.{is_nan}
use Rattle.std.proofs.Common.{rules, ◌++◌, codes, ap, sym, ◌∙◌, from_bits}
use Rattle.std.proofs.lemmas.Float.{not_nan_f64_bits}
use Rattle.bson_to_json.proofs.Numbers.{bits_nan, nan_is_not_finite, nan_text, finite_number, infinite_number}
use Rattle.bson_to_json.proofs.doubles.text_of.Goals as goal
use Rattle.bson_to_json.proofs.doubles.text_of.Goals.{then-is_sign_negative, else-is_sign_negative}

pub returns-then-bits-gt-INFINITY-clause-finite : goal.returns-then-bits-gt-INFINITY-clause-finite
returns-then-bits-gt-INFINITY-clause-finite c = nan_is_not_finite (from_bits binary64 c.args.bits) (bits_nan c.args.bits c.if-bits-gt-INFINITY.true)

pub returns-then-bits-gt-INFINITY-clause-text : goal.returns-then-bits-gt-INFINITY-clause-text
returns-then-bits-gt-INFINITY-clause-text c = nan_text (from_bits binary64 c.args.bits) (bits_nan c.args.bits c.if-bits-gt-INFINITY.true)

pub float_from_bits-number : goal.float_from_bits-number
float_from_bits-number c = not_nan_f64_bits c.args.bits c.if-bits-gt-INFINITY.false

pub returns-then-is_finite-clause-text : goal.returns-then-is_finite-clause-text
returns-then-is_finite-clause-text c = finite_number (from_bits binary64 c.args.bits) c.format_finite.result.now
    (sym c.is_finite.ensures.value ∙ c.if-is_finite.true) c.format_finite.ensures.plain c.format_finite.ensures.parses

pub returns-clause-text : goal.returns-clause-text
returns-clause-text c =
    let x = from_bits binary64 c.args.bits in
    let number : T (not (is_nan x)) = search rules in
    let not_finite = sym c.is_finite.ensures.value ∙ c.if-is_finite.false in
    elim c.if-is_sign_negative.branch [
      | then-is_sign_negative w ↦ infinite_number x c.if-is_sign_negative.text.now not_finite number
          (ap (λ t. t.now) w.text-is ∙ ap (λ b. sign_text b ++ codes "Infinity") (sym w.if-is_sign_negative.true ∙ c.is_sign_negative.ensures))
      | else-is_sign_negative w ↦ infinite_number x c.if-is_sign_negative.text.now not_finite number
          (ap (λ t. t.now) w.text-is ∙ ap (λ b. sign_text b ++ codes "Infinity") (sym w.if-is_sign_negative.false ∙ c.is_sign_negative.ensures))
    ]
