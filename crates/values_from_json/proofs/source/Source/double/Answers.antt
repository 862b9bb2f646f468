use Rattle.std.proofs.Common.{List, ℕ, refl, subst, sym}
use Rattle.values_from_json.specs.Numbers.{WritesDouble}
use Rattle.values_from_json.specs.Spaces.{trimmed}
use Rattle.values_from_json.proofs.Lacks.{no_double}
use Rattle.values_from_json.proofs.Takes.{double_taken}
use Rattle.values_from_json.proofs.source.Source.double.Goals as goal

pub returns-in-Some-clause-some : goal.returns-in-Some-clause-some
returns-in-Some-clause-some c =
    double_taken c.in_ok-text.ensures.some (subst (λ (s : List ℕ). WritesDouble (trimmed s) c.in-Some.bits) c.as_bytes.ensures.value c.in-Some.ensures.some)

pub returns-in-None-clause-none : goal.returns-in-None-clause-none
returns-in-None-clause-none c =
    no_double c.in_ok-text.ensures.some
    (λ bits w. c.in-None.ensures.none refl bits (subst (λ (s : List ℕ). WritesDouble (trimmed s) bits) (sym c.as_bytes.ensures.value) w))
