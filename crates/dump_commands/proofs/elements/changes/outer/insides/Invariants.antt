use Rattle.std.proofs.Common.{◌≡◌, ◌+◌, ℕ, List, length, map, take}
use Rattle.dump_commands.specs.elements.Numbered.{AreKnown, AreWithin, at_numbers, is_in_any, paths_of}
use Rattle.dump_commands.proofs.elements.changes.outer.insides.Given as goal

-- of the paths so far, the empty one and those of steps
abbrev pub invariant-loop-step : goal.invariant-loop-step
invariant-loop-step l = record {
  few : length l.insides.items ≡ l.step-index + 1;
  are : (ns : List ℕ) → AreKnown l.known ns → AreWithin (length (paths_of l.numbers)) ns
      → l.insides.items ≡ take (l.step-index + 1) (map (is_in_any (at_numbers (paths_of l.numbers) ns)) (paths_of l.numbers));
}
