use Rattle.std.proofs.Common.{rules, ◌≡◌, sym, subst, w64, to_z, of_z, ℤ}
use Rattle.std.proofs.lemmas.Int.{to_z-of_z}
use Rattle.values_from_json.proofs.Integers.{none_written, one_read, other_written}
use Rattle.values_from_json.proofs.leaves.integer_of.Goals as goal

-- the text can't be read as an integer
pub returns-in-Err-clause-none : goal.returns-in-Err-clause-none
returns-in-Err-clause-none c = λ _ z fits is. none_written z _ _ _ fits is c.parse_i64.ensures c.in-Err.is

-- the text isn't the one of the integer that was read
pub returns-clause-none : goal.returns-clause-none
returns-clause-none c = λ _ z fits is. other_written z c.in-Ok.value _ _ _ fits is c.parse_i64.ensures c.in-Ok.is (search rules) c.if-eq.ensures (search rules)

pub returns-then-eq-clause-only : goal.returns-then-eq-clause-only
returns-then-eq-clause-only c =
    λ y fits is. subst (λ (z : ℤ). y ≡ to_z w64 (of_z w64 z)) (one_read y c.in-Ok.value _ _ fits is c.parse_i64.ensures c.in-Ok.is) (sym (to_z-of_z w64 y fits))

pub returns-then-eq-2-clause-only : goal.returns-then-eq-2-clause-only
returns-then-eq-2-clause-only c =
    λ y fits is. subst (λ (z : ℤ). y ≡ to_z w64 (of_z w64 z)) (one_read y c.in-Ok.value _ _ fits is c.parse_i64.ensures c.in-Ok.is) (sym (to_z-of_z w64 y fits))
