use Rattle.std.proofs.Common.{◌≡◌, ◌++◌, ◌∷◌, [], drop, length}
use Rattle.dump_commands.specs.elements.Numbered.{AreNumbered, AreWithin, Extends, at_numbers, leaves_from, leaves_in, numbers_of, paths_of}
use Rattle.dump_commands.proofs.elements.changes.leaves.leaves_of.Given as goal

-- of the tokens that are left come the leaves that are to be put after those so far
abbrev pub invariant-loop-token : goal.invariant-loop-token
invariant-loop-token l = record {
  left : leaves_in (paths_of l.numbers) l.leaves.items ++ leaves_from l.bytes (at_numbers (paths_of l.numbers) l.around.items) (drop l.token-index l.tokens) ≡ leaves_from l.bytes ([] ∷ []) l.tokens;
  around : AreWithin (length (paths_of l.numbers)) l.around.items;
  within : AreWithin (length (paths_of l.numbers)) (numbers_of l.leaves.items);
  extends : Extends (paths_of l.initial.numbers) (paths_of l.numbers);
  numbered : AreNumbered l.numbers;
}
