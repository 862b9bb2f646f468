use Rattle.std.proofs.Common.{◌≡◌, length}
use Rattle.values_from_json.specs.Spaces.{trimmed_start}
use Rattle.values_from_json.proofs.space.trim_start.Given as goal

abbrev pub invariant-spaces : goal.invariant-spaces
invariant-spaces l = trimmed_start l.rest ≡ trimmed_start l.text

abbrev pub decreases-spaces : goal.decreases-spaces
decreases-spaces l = length l.rest
