use Rattle.std.proofs.Common.{◌≡◌, map, take}
use Rattle.raw_tree.proofs.validator.numbers_of.Given as goal

-- the numbers so far
abbrev pub invariant-loop-step : goal.invariant-loop-step
invariant-loop-step l = l.numbers.items ≡ map (λ step. step.number) (take l.step-index l.steps)
