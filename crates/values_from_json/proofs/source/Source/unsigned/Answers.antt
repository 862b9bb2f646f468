use Rattle.std.proofs.Common.{refl, subst, sym, ◌∙◌, w64}
use Rattle.std.specs.Int.{FitsUnsignedBits}
use Rattle.std.proofs.lemmas.Int.{to_z-of_z}
use Rattle.values_from_json.proofs.Lacks.{no_integer, no_unsigned}
use Rattle.values_from_json.proofs.source.Source.unsigned.Goals as goal

pub returns-in_default-clause-none : goal.returns-in_default-clause-none
returns-in_default-clause-none c = no_integer c.in_ok-text.ensures.some c.as_bytes.ensures.value (c.in_default.ensures.none refl)

pub returns-in-Err-clause-none : goal.returns-in-Err-clause-none
returns-in-Err-clause-none c = no_unsigned c.in-Some.value c.in_ok-text.ensures.some c.as_bytes.ensures.value c.in-Some.ensures.only
    (λ n small is. c.in-Err.ensures (subst (FitsUnsignedBits 32) (is ∙ sym (to_z-of_z w64 c.in-Some.value c.in-Some.ensures.some.1)) small))
