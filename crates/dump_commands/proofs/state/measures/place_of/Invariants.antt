use Rattle.std.proofs.Common.{◌≡◌, ◌≤◌, ◌+◌, ◌-◌, drop, length, map, nat_lt}
use Rattle.std.specs.List.{position_or_len}
use Rattle.dump_commands.specs.state.Measures.{Ranked, ranked_of}
use Rattle.dump_commands.proofs.state.measures.place_of.Given as goal

-- those that were passed aren't shorter
abbrev pub invariant-places : goal.invariant-places
invariant-places l =
    (l.place + position_or_len (λ (s : Ranked). nat_lt s.size l.size) (drop l.place (map ranked_of l.largest))
    ≡ position_or_len (λ (s : Ranked). nat_lt s.size l.size) (map ranked_of l.largest)) × (l.place ≤ length l.largest)

abbrev pub decreases-places : goal.decreases-places
decreases-places l = length l.largest - l.place
