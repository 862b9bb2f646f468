use Rattle.std.proofs.Common.{◌≡◌, ◌++◌, flat_map, take}
use Rattle.dump_commands.specs.elements.Cut.{onward, texts_of}
use Rattle.dump_commands.proofs.elements.cut.push_onward.Given as goal

abbrev pub invariant-loop-path : goal.invariant-loop-path
invariant-loop-path l = texts_of l.rests.items ≡ texts_of l.initial.rests.items ++ flat_map (onward l.step) (texts_of (take l.path-index l.paths))
