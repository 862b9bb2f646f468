use Rattle.std.proofs.Common.{◌≡◌, ◌⊎◌, ◌<◌, ◌≤◌, ◌-◌, ◌^◌}
use Rattle.dump_commands.proofs.state.measures.range_of.Given as goal

abbrev pub invariant-doubling : goal.invariant-doubling
invariant-doubling l = (l.least ≡ 2 ^ l.number) × (l.number < 32) × ((l.number ≡ 0) ⊎ (l.least ≤ l.len))

abbrev pub decreases-doubling : goal.decreases-doubling
decreases-doubling l = 32 - l.number
