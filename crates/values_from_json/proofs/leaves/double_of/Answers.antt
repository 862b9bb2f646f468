use Rattle.std.proofs.Common.{List, ℕ, subst, sym}
use Rattle.values_from_json.specs.Numbers.{WritesNearest}
use Rattle.values_from_json.proofs.leaves.double_of.Goals as goal

pub returns-clause-none : goal.returns-clause-none
returns-clause-none c = λ none bits w. c.nearest_of.ensures.none none bits (subst (λ (s : List ℕ). WritesNearest s bits) (sym c.as_bytes.ensures.value) w.1)
