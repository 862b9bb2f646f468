use Rattle.std.proofs.Common.{map, take}
use Rattle.json.specs.Token.{string}
use Rattle.dump_commands.specs.elements.Changes.{items_of}
use Rattle.dump_io.specs.lines.Told.{Grows}
use Rattle.dump_commands.proofs.diff.lines.push_texts.Given as goal

-- the first texts were put
abbrev pub invariant-loop-text : goal.invariant-loop-text
invariant-loop-text l = Grows l.initial.object l.object (map string (items_of (take l.text-index l.texts)))
