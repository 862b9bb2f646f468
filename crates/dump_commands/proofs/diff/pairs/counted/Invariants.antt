use Rattle.std.proofs.Common.{◌≡◌, fold, map, take}
use Rattle.dump_commands.specs.diff.Pairs.{count_told, no_differences, told_by}
use Rattle.dump_commands.proofs.diff.pairs.counted.Given as goal

-- the first ones are counted
abbrev pub invariant-loop-one : goal.invariant-loop-one
invariant-loop-one l = l.differences ≡ fold count_told (no_differences l.same) (map told_by (take l.one-index l.told))
