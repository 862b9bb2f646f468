use Rattle.std.proofs.Common.{◌≡◌, length}
use Rattle.std.specs.List.{list_any}
use Rattle.std.specs.Str.{bytes_eq}
use Rattle.dump_commands.specs.elements.Cut.{texts_of}
use Rattle.dump_commands.proofs.elements.cut.has_path.Given as goal

-- the step is one of the rest if it is one of all
abbrev pub invariant-paths : goal.invariant-paths
invariant-paths l = list_any (bytes_eq l.step) (texts_of l.rest) ≡ list_any (bytes_eq l.step) (texts_of l.fn.paths)

abbrev pub decreases-paths : goal.decreases-paths
decreases-paths l = length l.rest
