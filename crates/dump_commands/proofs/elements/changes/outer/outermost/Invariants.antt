use Rattle.std.proofs.Common.{◌≡◌, take}
use Rattle.dump_commands.specs.elements.Numbered.{at_numbers, paths_of}
use Rattle.dump_commands.proofs.elements.Enclosing.{outside}
use Rattle.dump_commands.proofs.elements.changes.outer.outermost.Given as goal

-- of the paths so far
abbrev pub invariant-loop-path : goal.invariant-loop-path
invariant-loop-path l = l.outer.items ≡ outside (paths_of l.numbers) (at_numbers (paths_of l.numbers) l.paths) (take l.path-index l.paths)
