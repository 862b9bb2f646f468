use Rattle.std.proofs.Common.{ℕ, List, subst, sym}
use Rattle.values_from_json.specs.DecimalTexts.{WritesDecimal}
use Rattle.values_from_json.proofs.Lacks.{no_decimal, no_err}
use Rattle.values_from_json.proofs.Takes.{decimal_taken}
use Rattle.values_from_json.proofs.source.Source.decimal.Goals as goal

pub returns-clause-some : goal.returns-clause-some
returns-clause-some c = decimal_taken c.in_ok-text.ensures.some (subst (λ (s : List ℕ). WritesDecimal s c.in_ok-bytes.bytes) c.as_bytes.ensures.value c.in_ok-bytes.ensures.some)

pub returns-in_err-bytes-clause-none : goal.returns-in_err-bytes-clause-none
returns-in_err-bytes-clause-none c = no_err c.from_residual-in_err-bytes.result (no_decimal c.in_ok-text.ensures.some
    (λ bytes w. c.in_err-bytes.ensures.none bytes (subst (λ (s : List ℕ). WritesDecimal s bytes) (sym c.as_bytes.ensures.value) w)))
