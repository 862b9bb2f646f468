use Rattle.std.proofs.Common.{◌≡◌, ◌++◌, take}
use Rattle.std.specs.Fmt.{decimal}
use Rattle.std.specs.List.{flat_map}
use Rattle.std.specs.Prelude.{codes}
use Rattle.std.specs.String.{string_bytes}
use Rattle.bsonraw.proofs.check.push_path.Given as goal

-- each number so far is written after a dot
abbrev pub invariant-loop-number : goal.invariant-loop-number
invariant-loop-number l = string_bytes l.output ≡ string_bytes l.initial.output ++ flat_map (λ n. codes "." ++ decimal n) (take l.number-index l.others)
