use Rattle.std.proofs.Common.{◌≡◌, ◌++◌, drop, map, vec_len}
use Rattle.dump_commands.specs.elements.Changes.{fitting, items_of, path_shown}
use Rattle.dump_commands.specs.elements.Numbered.{at_numbers, paths_of}
use Rattle.dump_commands.proofs.elements.changes.shown.listed.Given as goal

-- the texts so far fit, and then those that fit into what room is left
abbrev pub invariant-loop-path : goal.invariant-loop-path
invariant-loop-path l = record {
  fit : items_of l.texts.items ++ fitting l.room (map path_shown (at_numbers (paths_of l.numbers) (drop l.path-index l.paths)))
      ≡ fitting 65536 (map path_shown (at_numbers (paths_of l.numbers) l.paths));
  few : vec_len l.texts ≡ l.path-index;
}
