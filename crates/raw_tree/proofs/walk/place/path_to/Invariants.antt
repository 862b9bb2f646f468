use Rattle.std.proofs.Common.{◌≡◌, List, map, take}
use Rattle.raw_tree.proofs.Common.{bytes_of}
use Rattle.raw_tree.proofs.walk.Common.{Step, StoreSteps, step_of}
use Rattle.raw_tree.proofs.walk.place.path_to.Given as goal

-- the steps so far
abbrev pub invariant-loop-outer : goal.invariant-loop-outer
invariant-loop-outer l = (outer : List Step) → StoreSteps (bytes_of l.fn.document) l.waiting outer → map step_of l.path.items ≡ take l.outer-index outer
