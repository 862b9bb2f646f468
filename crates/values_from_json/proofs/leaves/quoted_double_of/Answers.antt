use Rattle.std.proofs.Common.{List, ℕ, subst, sym}
use Rattle.values_from_json.specs.Numbers.{WritesDouble}
use Rattle.values_from_json.proofs.leaves.quoted_double_of.Goals as goal

pub returns-clause-none : goal.returns-clause-none
returns-clause-none c = λ none bits w. c.double_or_word_of.ensures.none none bits (subst (λ (s : List ℕ). WritesDouble s bits) (sym c.trim.ensures) w)
