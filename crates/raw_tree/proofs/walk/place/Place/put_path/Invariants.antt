use Rattle.std.proofs.Common.{◌≡◌, map, take}
use Rattle.raw_tree.proofs.walk.Common.{PathStep, filled_from}
use Rattle.raw_tree.proofs.walk.place.Place.put_path.Given as goal

-- the numbers of the steps so far
abbrev pub invariant-loop-index : goal.invariant-loop-index
invariant-loop-index l = l.room ≡ filled_from 0 l.initial.room (map (λ (step : PathStep). step.number) (take l.index l.step-items))
