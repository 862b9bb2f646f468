use Rattle.std.proofs.Common.{◌≡◌, length, reverse}
use Rattle.values_from_json.specs.Spaces.{trimmed, trimmed_start}
use Rattle.values_from_json.proofs.space.trim.Given as goal

abbrev pub invariant-spaces : goal.invariant-spaces
invariant-spaces l = reverse (trimmed_start (reverse l.rest)) ≡ trimmed l.text

abbrev pub decreases-spaces : goal.decreases-spaces
decreases-spaces l = length l.rest
